use Rattle.std.proofs.Common.{None, Some, false, ap, sym}
use Rattle.wm_json.specs.declared.views.EventBody.TheVariants as body
use Rattle.wm_history.specs.Act.{Tick}
use Rattle.wm_history.specs.Effect.{passing}
use Rattle.wm_history.specs.declared.step.Answer.TheVariants.{Done}
use Rattle.wm_core.proofs.desk.Desk.tick.Goals as goal

-- a tick leaves the desk alone
pub returns : goal.returns
returns c =
    c.tell.ensures (record { who = c.args.who; act = Tick c.args.payload.now })
    (ap (λ p. passing Done c.args.self.now.tree None false (Some (body.Tick false p))) (sym c.in_ok-copy_str.ensures))
