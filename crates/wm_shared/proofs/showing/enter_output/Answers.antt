-- What holds of every tree holds after another output has become the current one.
use Rattle.std.proofs.Common.{arith, rules}
use Rattle.std.proofs.lemmas.Grind.{common_steps}
use Rattle.wm_shared.proofs.ShowLemmas.{output_by}
use Rattle.wm_shared.proofs.showing.enter_output.Goals as goal

pub returns-clause-sound : goal.returns-clause-sound
returns-clause-sound c = output_by c.args.output c.args.t.now _ (first_of (search rules, grind (arith, common_steps))) c.requires.output c.requires.sound
