use Rattle.std.proofs.Common.{None, false, ap, sym, ◌∙◌}
use Rattle.wm_history.specs.Effect.{passing}
use Rattle.wm_history.specs.declared.step.Answer.TheVariants.{Replies}
use Rattle.wm_core.proofs.desk.Desk.reply.Goals as goal

pub returns-in-Ok : goal.returns-in-Ok
returns-in-Ok c = λ entry is. c.tell.ensures entry (is ∙ ap (λ replies. passing (Replies replies) c.args.self.now.tree None false c.args.event) (sym (c.of.ensures ∙ c.in-Ok.ensures.items)))
