use Rattle.std.proofs.Common.{◌≡◌, true, false, None, ap, ap₂, refl, sym, ◌∙◌}
use Rattle.wm_history.specs.Act.{Retitle}
use Rattle.wm_opens.proofs.KeptLemmas.{kept_edited}
use Rattle.wm_forest.specs.declared.kind.KindEdit.TheVariants as edits
use Rattle.wm_tree.specs.Words.{edited, settled}
use Rattle.wm_core.specs.DeskValue.{DeskValue}
use Rattle.wm_history.specs.Effect.{leaving}
use Rattle.wm_history.specs.declared.step.Answer.TheVariants.{Done}
use Rattle.wm_history.proofs.FollowLemmas.{follows_made}
use Rattle.wm_history.specs.Windows.{is_window}
use Rattle.wm_core.proofs.StepLemmas.{taken}
use Rattle.wm_core.proofs.desk.Desk.retitle.Goals as goal

-- no window of the caller, so nothing changes
pub returns-then-not-is_window : goal.returns-then-not-is_window
returns-then-not-is_window c =
    let not_its : is_window c.args.self.now.tree c.args.who c.args.con ≡ false = sym c.is_window.ensures.value ∙ c.if-not-is_window.true in
    taken _ _ _ _ (c.stay.ensures (record { who = c.args.who; act = Retitle c.args.con c.args.title.now }) (rw not_its refl))

pub returns : goal.returns
returns c =
    let t = c.args.self.now.tree in
    let seen = ap (λ (d : DeskValue). d.tree) c.self.view_is in
    let title = edits.Title c.args.title.now in
    let its : is_window t c.args.who c.args.con ≡ true = sym c.is_window.ensures.value ∙ c.if-not-is_window.false in
    let made : c.set_title.new.self ≡ edited c.args.con title t =
    c.set_title.ensures.tree ∙ ap₂ (λ x z. edited c.args.con (edits.Title x) z) c.in_ok-clone.ensures.cases (c.in_ok-tree.ensures ∙ seen) in
    c.finish.ensures (record { who = c.args.who; act = Retitle c.args.con c.args.title.now }) (rw its (ap (λ z. leaving Done t (settled z) None) (sym made)))

-- a title opens no window
pub finish-requires-clause-follows : goal.finish-requires-clause-follows
finish-requires-clause-follows c =
    let t = c.args.self.now.tree in
    let seen = ap (λ (d : DeskValue). d.tree) c.self.view_is in
    let title = edits.Title c.args.title.now in
    let made : c.set_title.new.self ≡ edited c.args.con title t =
    c.set_title.ensures.tree ∙ ap₂ (λ x z. edited c.args.con (edits.Title x) z) c.in_ok-clone.ensures.cases (c.in_ok-tree.ensures ∙ seen) in
    follows_made t (edited c.args.con title t) c.set_title.new.self made (kept_edited c.args.con title t refl)
