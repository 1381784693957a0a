-- Sending changes nodes alone.
use Rattle.std.proofs.Common.{◌≡◌, Bool, true, false, cond, ◌+◌, [], ◌∷◌, ◌++◌, refl, sym, subst}
use Rattle.wm_base.specs.declared.ids.ConId.{ConId}
use Rattle.law_workspaces.specs.Sent.{SendsInOrder, SendsNewInOrder}
use Rattle.wm_spaces.specs.declared.targets.Goal.{Goal}
use Rattle.wm_spaces.specs.Sending.{goal_sent, sent, sent_place}
use Rattle.wm_spaces.specs.Targets.{home}
use Rattle.wm_tree.specs.Move.{apart, moved}
use Rattle.wm_tree.specs.Outputs.{with_space}
use Rattle.wm_tree.specs.TreeValue.{TreeValue}
use Rattle.wm_forest.specs.RootId.{id}

sent_nodes : (c w : ConId) (t : TreeValue) → sent c w t ≡ record t { nodes = (sent c w t).nodes }
sent_nodes c w t = step (apart t c w)
  where
    step : (b : Bool) → cond b (moved c (sent_place c w t) t) t ≡ record t { nodes = (cond b (moved c (sent_place c w t) t) t).nodes }
    step true = refl
    step false = refl

pub sends_in_order : SendsInOrder
sends_in_order c w target homes t e =
    let After : Goal → Type 0 = λ g. goal_sent g c homes t ≡ record t { nodes = (goal_sent g c homes t).nodes } in
    subst After (sym e) (sent_nodes c w t)

pub sends_new_in_order : SendsNewInOrder
sends_new_in_order c n target homes t e =
    let After : Goal → Type 0 = λ g. goal_sent g c homes t ≡ record t { nodes = (goal_sent g c homes t).nodes; recency = t.recency ++ id t.next_id ∷ []; next_id = t.next_id + 1 } in
    subst After (sym e) (sent_nodes c (id t.next_id) (with_space (home n homes t) n t))
