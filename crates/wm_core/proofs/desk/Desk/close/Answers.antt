use Rattle.std.proofs.Common.{◌≡◌, true, false, [], ◌∷◌, None, ap, refl, sym, ◌∙◌}
use Rattle.wm_tree.specs.Words.{settled}
use Rattle.wm_history.specs.Act.{Close}
use Rattle.wm_core.specs.DeskValue.{DeskValue}
use Rattle.wm_history.specs.Effect.{leaving}
use Rattle.wm_history.specs.Windows.{is_window, without_windows}
use Rattle.wm_history.specs.declared.step.Answer.TheVariants.{Done}
use Rattle.wm_history.proofs.FollowLemmas.{follows_made}
use Rattle.wm_history.proofs.GoneLemmas.{kept_without}
use Rattle.wm_core.proofs.StepLemmas.{taken}
use Rattle.wm_core.proofs.desk.Desk.close.Goals as goal

-- no window of the caller, so nothing changes
pub returns-then-not-is_window : goal.returns-then-not-is_window
returns-then-not-is_window c =
    let not_its : is_window c.args.self.now.tree c.args.who c.args.con ≡ false = sym c.is_window.ensures.value ∙ c.if-not-is_window.true in
    taken _ _ _ _ (c.stay.ensures (record { who = c.args.who; act = Close c.args.con }) (rw not_its refl))

-- the window is taken out
pub returns : goal.returns
returns c =
    let t = c.args.self.now.tree in
    let seen = ap (λ (d : DeskValue). d.tree) c.self.view_is in
    let its : is_window t c.args.who c.args.con ≡ true = sym c.is_window.ensures.value ∙ c.if-not-is_window.false in
    let made = c.detach_all.ensures.tree ∙ ap (without_windows (c.args.con ∷ [])) (c.in_ok-tree.ensures ∙ seen) in
    c.finish.ensures (record { who = c.args.who; act = Close c.args.con }) (rw its (ap (λ z. leaving Done t (settled z) None) (sym made)))

-- and no other one comes
pub finish-requires-clause-follows : goal.finish-requires-clause-follows
finish-requires-clause-follows c =
    let t = c.args.self.now.tree in
    let windows = c.args.con ∷ [] in
    let made = c.detach_all.ensures.tree ∙ ap (without_windows windows) (c.in_ok-tree.ensures ∙ ap (λ (d : DeskValue). d.tree) c.self.view_is) in
    follows_made t (without_windows windows t) c.detach_all.new.tree made (kept_without windows t)
