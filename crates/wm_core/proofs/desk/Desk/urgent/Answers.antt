use Rattle.std.proofs.Common.{◌≡◌, Bool, true, false, cond, [], ◌∷◌, ◌++◌, None, ap, refl, sym, ◌∙◌}
use Rattle.wm_history.specs.Act.{Urgent}
use Rattle.wm_opens.proofs.KeptLemmas.{Kept, kept_nodes}
use Rattle.wm_forest.specs.Recency.{lists}
use Rattle.wm_tree.specs.TreeValue.{TreeValue}
use Rattle.wm_tree.specs.Words.{settled}
use Rattle.wm_core.specs.DeskValue.{DeskValue}
use Rattle.wm_history.specs.Effect.{leaving}
use Rattle.wm_history.specs.declared.step.Answer.TheVariants.{Done}
use Rattle.wm_history.proofs.FollowLemmas.{follows_made}
use Rattle.wm_history.specs.Windows.{is_window, with_urgent, without_urgent}
use Rattle.wm_base.specs.declared.ids.ConId.{ConId}
use Rattle.wm_core.proofs.StepLemmas.{taken}
use Rattle.wm_core.proofs.desk.Desk.urgent.Goals as goal

abbrev urgency : ConId → Bool → TreeValue → TreeValue
urgency v on t = cond on (with_urgent v t) (without_urgent v t)

kept_urgent : (v : ConId) (t : TreeValue) → Kept t (with_urgent v t)
kept_urgent v t = by_test (lists v t.urgent)
  where
    by_test : (b : Bool) → Kept t (cond b t (record t { urgent = t.urgent ++ v ∷ [] }))
    by_test true = kept_nodes t t (record { next = refl; nodes = refl })
    by_test false = kept_nodes t (record t { urgent = t.urgent ++ v ∷ [] }) (record { next = refl; nodes = refl })

kept_urgency : (v : ConId) (on : Bool) (t : TreeValue) → Kept t (urgency v on t)
kept_urgency v true t = kept_urgent v t
kept_urgency v false t = kept_nodes t (without_urgent v t) (record { next = refl; nodes = refl })

-- no window of the caller, so nothing changes
pub returns-then-not-is_window : goal.returns-then-not-is_window
returns-then-not-is_window c =
    let not_its : is_window c.args.self.now.tree c.args.who c.args.con ≡ false = sym c.is_window.ensures.value ∙ c.if-not-is_window.true in
    taken _ _ _ _ (c.stay.ensures (record { who = c.args.who; act = Urgent c.args.con c.args.on }) (rw not_its refl))

pub returns : goal.returns
returns c =
    let t = c.args.self.now.tree in
    let seen = ap (λ (d : DeskValue). d.tree) c.self.view_is in
    let its : is_window t c.args.who c.args.con ≡ true = sym c.is_window.ensures.value ∙ c.if-not-is_window.false in
    let made : c.set_urgent.new.tree ≡ urgency c.args.con c.args.on t = c.in_ok-set_urgent.ensures.tree ∙ ap (urgency c.args.con c.args.on) (c.in_ok-tree.ensures ∙ seen) in
    c.finish.ensures (record { who = c.args.who; act = Urgent c.args.con c.args.on }) (rw its (ap (λ z. leaving Done t (settled z) None) (sym made)))

-- nor does a window that is urgent or no longer so
pub finish-requires-clause-follows : goal.finish-requires-clause-follows
finish-requires-clause-follows c =
    let t = c.args.self.now.tree in
    let seen = ap (λ (d : DeskValue). d.tree) c.self.view_is in
    let made : c.set_urgent.new.tree ≡ urgency c.args.con c.args.on t = c.in_ok-set_urgent.ensures.tree ∙ ap (urgency c.args.con c.args.on) (c.in_ok-tree.ensures ∙ seen) in
    follows_made t (urgency c.args.con c.args.on t) c.set_urgent.new.tree made (kept_urgency c.args.con c.args.on t)
