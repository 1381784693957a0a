-- What holds of every tree holds after showing.
use Rattle.std.proofs.Common.{arith, rules}
use Rattle.std.proofs.lemmas.Grind.{common_steps}
use Rattle.wm_shared.proofs.ShowLemmas.{showing_by}
use Rattle.wm_shared.proofs.showing.show_space.Goals as goal

pub returns-clause-sound : goal.returns-clause-sound
returns-clause-sound c = showing_by c.args.w c.args.t.now _ (first_of (search rules, grind (arith, common_steps))) c.requires.space c.requires.sound
