use Rattle.law_commands.proofs.KeepingLemmas.{removed_keeps}
use Rattle.law_commands.proofs.keeping.an_output_that_goes_keeps_all.Goals as goal

pub returns : goal.returns
returns c = removed_keeps c.output_removed.result c.args.name.now c.args.t.now c.output_removed.new.t c.requires c.output_removed.ensures.sound c.output_removed.ensures.tree c.output_removed.ensures.err
