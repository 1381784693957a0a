use Rattle.std.proofs.Common.{◌≡◌, None, ap, sym, ◌∙◌}
use Rattle.wm_apply.specs.Batches.{Outcome, outcome}
use Rattle.wm_criteria.specs.declared.verdict.Verdict.TheVariants.{Ready}
use Rattle.wm_core.specs.DeskValue.{DeskValue}
use Rattle.wm_history.specs.Effect.{idled}
use Rattle.wm_core.proofs.desk.Desk.idle.Goals as goal

pub returns-in-Ok : goal.returns-in-Ok
returns-in-Ok c = λ entry is.
    let d = c.args.self.now in
    let a = c.in-Ok.applied in
    let done : Outcome = record { tree = d.tree; replies = a.replies; mode = a.mode; exit = a.exit; kills = a.kills } in
    let left : outcome d.plan.env (Ready c.args.batch.now) None d.tree ≡ done = ap (λ (d : DeskValue). outcome d.plan.env (Ready c.args.batch.now) None c.args.self.now.tree) (sym c.self.view_is) ∙ c.in-Ok.ensures None d.tree in
    c.idled.ensures entry (is ∙ ap (idled c.args.event) left)
