use Rattle.law_commands.proofs.KeepingLemmas.{sent_keeps}
use Rattle.law_commands.proofs.keeping.a_sending_keeps_all.Goals as goal

pub returns : goal.returns
returns c = sent_keeps c.send_to_output.result c.args.con c.args.output c.args.t.now c.send_to_output.new.t c.requires.subject.sound c.send_to_output.ensures.sound c.send_to_output.ensures.tree c.send_to_output.ensures.err
