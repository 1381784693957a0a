use Rattle.law_commands.proofs.KeepingLemmas.{marked_keeps}
use Rattle.law_commands.proofs.keeping.a_move_to_a_mark_keeps_all.Goals as goal

pub returns : goal.returns
returns c = marked_keeps c.move_to_mark.result c.args.con c.args.name.now c.args.t.now c.move_to_mark.new.t c.requires.sound (c.move_to_mark.ensures.sound c.requires.sound) c.move_to_mark.ensures.tree c.move_to_mark.ensures.err
