use Rattle.std.proofs.Common.{◌≡◌, true, arith, rules}
use Rattle.std.proofs.lemmas.Grind.{common_steps}
use Rattle.wm_forest.specs.Look.{has}
use Rattle.wm_tree.specs.Outputs.{without_output}
use Rattle.wm_tree.proofs.OutputLemmas.{sound-without_output}
use Rattle.wm_tree.proofs.SoundLemmas.{as_is}
use Rattle.wm_tree.proofs.tree.Tree.remove_output.Goals as goal

pub returns-in-Some-clause-sound : goal.returns-in-Some-clause-sound
returns-in-Some-clause-sound c =
    λ m s. let there : has c.args.o c.args.self.now.nodes ≡ true = first_of (search rules, grind (arith, common_steps)) in
    as_is (without_output c.args.o c.args.self.now) _ (first_of (search rules, grind (arith, common_steps))) (sound-without_output c.args.o c.args.self.now (m there) s)
