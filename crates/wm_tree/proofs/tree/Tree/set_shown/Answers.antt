use Rattle.std.proofs.Common.{arith, rules}
use Rattle.std.proofs.lemmas.Grind.{common_steps}
use Rattle.wm_tree.specs.Sets.{with_shown}
use Rattle.wm_tree.proofs.SoundLemmas.{as_is, sound-shown}
use Rattle.wm_tree.proofs.tree.Tree.set_shown.Goals as goal

pub returns-in-Some-clause-sound : goal.returns-in-Some-clause-sound
returns-in-Some-clause-sound c =
    λ ok s. as_is (with_shown c.args.w c.args.self.now) _ (first_of (search rules, grind (arith, common_steps))) (sound-shown c.args.w c.args.self.now ok s)
