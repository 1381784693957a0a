-- The commands on workspaces and outputs let ids rise.
use Rattle.std.proofs.Common.{ℕ, Bool, true, false, cond, List, Option, None, Some}
use Rattle.wm_base.specs.declared.ids.ConId.{ConId}
use Rattle.wm_shared.proofs.RiseLemmas.{ids_same, remembered_same, showing_same, there_same}
use Rattle.wm_base.specs.declared.plan.OutputPlan.{OutputPlan}
use Rattle.wm_shared.specs.declared.keys.Key.{Key}
use Rattle.wm_shared.specs.Showing.{output_focused, remembering, showing, shown_on, shown_there, space_name, with_current}
use Rattle.wm_spaces.specs.Coming.{left_output, output_added_tree, output_gone, output_gone_some, free_name}
use Rattle.wm_spaces.specs.declared.targets.Goal.{Goal}
use Rattle.wm_spaces.specs.declared.targets.Goal.TheVariants.{There, Absent, Refused}
use Rattle.wm_spaces.specs.Moving.{other_space, set_aside, showing_other, space_goes}
use Rattle.wm_spaces.specs.Renaming.{renamed}
use Rattle.wm_spaces.specs.Sending.{goal_sent, sent, sent_new, sent_place, sent_some}
use Rattle.wm_spaces.specs.Shows.{goal_shown, showing_new, then_shown}
use Rattle.wm_spaces.specs.Targets.{home}
use Rattle.wm_tree.proofs.IdLemmas.{ids_edited, ids_moved, ids_refl, ids_space_moved, ids_trans, ids_with_output, ids_with_space, ids_without_output}
use Rattle.wm_forest.specs.declared.kind.KindEdit.TheVariants as edits
use Rattle.wm_tree.specs.Ids.{IdsRise}
use Rattle.wm_forest.specs.Look.{same}
use Rattle.wm_tree.specs.Move.{apart, moved}
use Rattle.wm_forest.specs.Change.{is_id}
use Rattle.wm_forest.specs.Taking.{heir}
use Rattle.wm_tree.specs.Outputs.{space_moved, with_space, without_output}
use Rattle.wm_tree.specs.Sets.{shown_by, with_shown}
use Rattle.wm_tree.specs.TreeValue.{TreeValue, current, parent, shown}
use Rattle.wm_forest.specs.RootId.{id, root}

ids_new : (o : ConId) (n : List ℕ) (t : TreeValue) → IdsRise t (showing_new o n t)
ids_new o n t =
    let made : TreeValue = with_space o n t in
    let w : ConId = id t.next_id in
    let there : TreeValue = shown_there w (parent made w) made in
    ids_trans t made (showing_new o n t) (ids_with_space o n t)
    (ids_trans made there (showing_new o n t) (ids_same made there (there_same w (parent made w) made)) (ids_same there (remembering t there) (remembered_same (shown t) (space_name (shown t) t) there)))

pub ids_shown : (g : Goal) (homes : List (List ℕ × List ℕ)) (t : TreeValue) → IdsRise t (goal_shown g homes t)
ids_shown (There w) homes t = ids_same t (showing w t) (showing_same w t)
ids_shown (Absent n) homes t = ids_new (home n homes t) n t
ids_shown (Refused text) homes t = ids_refl t

pub ids_renamed : (w : Option ConId) (name : List ℕ) (t : TreeValue) → IdsRise t (renamed w name t)
ids_renamed None name t = ids_refl t
ids_renamed (Some w) name t = ids_edited w (edits.Name name) t

-- ---- sending

pub ids_sent : (c w : ConId) (t : TreeValue) → IdsRise t (sent c w t)
ids_sent c w t = by_test (apart t c w)
  where
    by_test : (b : Bool) → IdsRise t (cond b (moved c (sent_place c w t) t) t)
    by_test true = ids_moved c (sent_place c w t) t
    by_test false = ids_refl t

pub ids_sent_some : (w : Option ConId) (c : ConId) (t : TreeValue) → IdsRise t (sent_some w c t)
ids_sent_some None c t = ids_refl t
ids_sent_some (Some w) c t = ids_sent c w t

pub ids_goal_sent : (g : Goal) (c : ConId) (homes : List (List ℕ × List ℕ)) (t : TreeValue) → IdsRise t (goal_sent g c homes t)
ids_goal_sent (There w) c homes t = ids_sent c w t
ids_goal_sent (Absent n) c homes t =
    let made : TreeValue = with_space (home n homes t) n t in
    ids_trans t made (sent_new c (home n homes t) n t) (ids_with_space (home n homes t) n t) (ids_sent c (id t.next_id) made)
ids_goal_sent (Refused text) c homes t = ids_refl t

-- ---- outputs

pub ids_output_focused : (o : ConId) (t : TreeValue) → IdsRise t (output_focused o t)
ids_output_focused o t =
    ids_trans t (with_current o t) (output_focused o t) (ids_edited root (edits.Current o) t) (ids_same (with_current o t) (output_focused o t) (remembered_same (shown t) (space_name (shown t) t) (with_current o t)))

pub ids_output_added : (plan : OutputPlan) (t : TreeValue) → IdsRise t (output_added_tree plan t)
ids_output_added plan t = ids_with_output plan (free_name t) t

ids_left : (o h : ConId) (t : TreeValue) → IdsRise t (left_output o h t)
ids_left o h t = by_test (same (current t) o)
  where
    by_test : (b : Bool) → IdsRise t (cond b (output_focused h t) t)
    by_test true = ids_output_focused h t
    by_test false = ids_refl t

ids_gone : (h : Option ConId) (o : ConId) (t : TreeValue) → IdsRise t (output_gone h o t)
ids_gone None o t = ids_refl t
ids_gone (Some h) o t = ids_trans t (left_output o h t) (without_output o (left_output o h t)) (ids_left o h t) (ids_without_output o (left_output o h t))

pub ids_output_removed : (o : Option ConId) (t : TreeValue) → IdsRise t (output_gone_some o t)
ids_output_removed None t = ids_refl t
ids_output_removed (Some o) t = ids_gone (heir o t.nodes) o t

-- ---- moving a workspace

ids_now : (o : Option ConId) (v : ConId) (t : TreeValue) → IdsRise t (shown_by o v t)
ids_now None v t = ids_refl t
ids_now (Some o) v t = ids_edited o (edits.Shown v) t

ids_showing_other : (k : Option Key) (p : ConId) (t : TreeValue) → IdsRise t (showing_other k p t)
ids_showing_other (Some k) p t = ids_now (parent t k.id) k.id t
ids_showing_other None p t =
    let made : TreeValue = with_space p (free_name t) t in
    ids_trans t made (with_shown (id t.next_id) made) (ids_with_space p (free_name t) t) (ids_now (parent made (id t.next_id)) (id t.next_id) made)

ids_set_aside : (w p : ConId) (t : TreeValue) → IdsRise t (set_aside w p t)
ids_set_aside w p t = by_test (is_id w (shown_on p t))
  where
    by_test : (b : Bool) → IdsRise t (cond b (showing_other (other_space w p t) p t) t)
    by_test true = ids_showing_other (other_space w p t) p t
    by_test false = ids_refl t

pub ids_space_goes : (p : Option ConId) (w o : ConId) (t : TreeValue) → IdsRise t (space_goes p w o t)
ids_space_goes None w o t = ids_refl t
ids_space_goes (Some p) w o t = by_test (same p o)
  where
    put : TreeValue
    put = space_moved w o (set_aside w p t)

    there : TreeValue
    there = shown_there w (parent put w) put

    by_test : (b : Bool) → IdsRise t (cond b t (then_shown w t put))
    by_test true = ids_refl t
    by_test false =
        ids_trans t put (then_shown w t put) (ids_trans t (set_aside w p t) put (ids_set_aside w p t) (ids_space_moved w o (set_aside w p t)))
        (ids_trans put there (then_shown w t put) (ids_same put there (there_same w (parent put w) put)) (ids_same there (remembering t there) (remembered_same (shown t) (space_name (shown t) t) there)))
