use Rattle.std.proofs.Common.{◌≡◌, Bool, true, false, refl, ap, sym, ◌∙◌}
use Rattle.std.specs.Bool.{OnTrue}
use Rattle.wm_core.specs.DeskValue.{DeskValue}
use Rattle.wm_history.specs.Windows.{is_caller, is_window}
use Rattle.wm_history.proofs.OwnerLemmas.{window_there}
use Rattle.wm_core.proofs.desk.Desk.is_window.Goals as goal

on_true : {P : Type 0} (b : Bool) → (b ≡ true → P) → OnTrue b P
on_true true h = h refl
on_true false h = tt

-- the callers that are kept are those of the tree
pub returns-clause-value : goal.returns-clause-value
returns-clause-value c =
    c.is_caller.ensures ∙ (ap (is_caller c.args.who) (c.self.invariant.0.1 c.args.con) ∙ ap (λ (d : DeskValue). is_window d.tree c.args.who c.args.con) c.self.view_is)

pub returns-clause-there : goal.returns-clause-there
returns-clause-there c = on_true c.is_caller.result (λ h. window_there c.args.who c.args.con c.args.self.now.tree (sym (returns-clause-value c) ∙ h))
