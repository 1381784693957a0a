-- What holds of every tree holds after showing a workspace on its output.
use Rattle.std.proofs.Common.{arith, rules}
use Rattle.std.proofs.lemmas.Grind.{common_steps}
use Rattle.wm_shared.proofs.ShowLemmas.{there_by}
use Rattle.wm_shared.proofs.showing.show_there.Goals as goal

pub returns-in-Some-clause-sound : goal.returns-in-Some-clause-sound
returns-in-Some-clause-sound c = there_by c.args.w c.args.t.now c.follow.new.t (first_of (search rules, grind (arith, common_steps))) c.requires.space c.requires.sound
