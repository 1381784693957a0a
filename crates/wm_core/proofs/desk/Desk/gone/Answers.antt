use Rattle.std.proofs.Common.{None, ap, subst, sym, ◌∙◌}
use Rattle.wm_tree.specs.Words.{settled}
use Rattle.wm_history.specs.Act.{Gone}
use Rattle.wm_core.specs.DeskValue.{DeskValue}
use Rattle.wm_history.specs.Effect.{leaving}
use Rattle.wm_history.specs.declared.step.Answer.TheVariants.{Done}
use Rattle.wm_history.specs.Windows.{AreContainers, owned, without_windows}
use Rattle.wm_history.proofs.FollowLemmas.{follows_made}
use Rattle.wm_history.proofs.GoneLemmas.{kept_without, owned_containers}
use Rattle.wm_core.proofs.desk.Desk.gone.Goals as goal

-- the windows of the caller are containers
pub detach_all-requires-clause-containers : goal.detach_all-requires-clause-containers
detach_all-requires-clause-containers c =
    let t = c.args.self.now.tree in
    let same = c.in_ok-tree.ensures ∙ ap (λ (d : DeskValue). d.tree) c.self.view_is in
    subst (λ l. AreContainers l c.in_ok-tree.tree) (sym (c.deref.ensures.value ∙ c.in_ok-windows.ensures))
    (subst (AreContainers (owned c.args.who t)) (sym same) (owned_containers c.args.who t))

-- they are taken out
pub returns : goal.returns
returns c =
    let t = c.args.self.now.tree in
    let windows = owned c.args.who t in
    let seen = ap (λ (d : DeskValue). d.tree) c.self.view_is in
    let taken = c.deref.ensures.value ∙ c.in_ok-windows.ensures in
    let made = c.detach_all.ensures.tree ∙ (ap (λ l. without_windows l c.in_ok-tree.tree) taken ∙ ap (without_windows windows) (c.in_ok-tree.ensures ∙ seen)) in
    c.finish.ensures (record { who = c.args.who; act = Gone }) (ap (λ z. leaving Done t (settled z) None) (sym made))

-- and no other one comes
pub finish-requires-clause-follows : goal.finish-requires-clause-follows
finish-requires-clause-follows c =
    let t = c.args.self.now.tree in
    let windows = owned c.args.who t in
    let seen = ap (λ (d : DeskValue). d.tree) c.self.view_is in
    let taken = c.deref.ensures.value ∙ c.in_ok-windows.ensures in
    let made = c.detach_all.ensures.tree ∙ (ap (λ l. without_windows l c.in_ok-tree.tree) taken ∙ ap (without_windows windows) (c.in_ok-tree.ensures ∙ seen)) in
    follows_made t (without_windows windows t) c.detach_all.new.tree made (kept_without windows t)
