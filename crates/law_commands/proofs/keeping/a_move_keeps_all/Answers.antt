use Rattle.law_commands.proofs.KeepingLemmas.{moved_keeps}
use Rattle.law_commands.proofs.keeping.a_move_keeps_all.Goals as goal

pub returns : goal.returns
returns c = moved_keeps c.move_dir.result c.args.con c.args.d c.args.px c.args.t.now c.move_dir.new.t c.requires.sound c.move_dir.ensures.sound c.move_dir.ensures.tree c.move_dir.ensures.err
