use Rattle.std.proofs.Common.{arith, rules}
use Rattle.std.proofs.lemmas.Grind.{common_steps}
use Rattle.wm_tree.specs.Outputs.{with_output}
use Rattle.wm_tree.proofs.OutputLemmas.{sound-with_output}
use Rattle.wm_tree.proofs.SoundLemmas.{as_is}
use Rattle.wm_tree.proofs.tree.Tree.add_output.Goals as goal

pub returns-clause-sound : goal.returns-clause-sound
returns-clause-sound c =
    λ fit s. as_is (with_output c.args.o.now c.args.first.now c.args.self.now) _ (first_of (search rules, grind (arith, common_steps))) (sound-with_output c.args.o.now c.args.first.now c.args.self.now fit c.in_ok-room_for_output.ensures.ok s)
