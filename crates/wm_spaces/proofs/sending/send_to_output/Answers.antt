use Rattle.std.proofs.Common.{sym, ◌∙◌}
use Rattle.wm_spaces.proofs.SendLemmas.{shown_space}
use Rattle.wm_spaces.proofs.sending.send_to_output.Goals as goal

pub send-requires-clause-space : goal.send-requires-clause-space
send-requires-clause-space c = shown_space c.args.output c.in-Some.w c.args.t.now c.requires.subject.sound c.requires.output (sym c.shown_on.ensures ∙ c.in-Some.is)
