use Rattle.law_commands.proofs.KeepingLemmas.{swapped_keeps}
use Rattle.law_commands.proofs.keeping.a_swap_keeps_all.Goals as goal

pub returns : goal.returns
returns c = swapped_keeps c.swap.result c.args.con c.args.arg.now c.args.t.now c.swap.new.t c.requires.sound (c.swap.ensures.sound c.requires.sound) c.swap.ensures.tree c.swap.ensures.err
