use Rattle.wm_tool.specs.Ipc.{message_step}
use Rattle.wm_tool.proofs.RunLemmas.{unchanged}
use Rattle.wm_tool.proofs.ipc.answer_message.Goals as goal

pub returns-in_err-call-clause-notes : goal.returns-in_err-call-clause-notes
returns-in_err-call-clause-notes g c = unchanged c.args.desk.now.steps (message_step c.args.message.now) c.args.refused.now.items (g.B.Build.log c.args.build.now)
