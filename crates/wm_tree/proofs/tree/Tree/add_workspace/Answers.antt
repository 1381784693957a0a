use Rattle.std.proofs.Common.{arith, rules}
use Rattle.std.proofs.lemmas.Grind.{common_steps}
use Rattle.wm_tree.specs.Outputs.{with_space}
use Rattle.wm_tree.proofs.SoundLemmas.{as_is}
use Rattle.wm_tree.proofs.SpaceLemmas.{sound-with_space}
use Rattle.wm_tree.proofs.tree.Tree.add_workspace.Goals as goal

pub returns-clause-sound : goal.returns-clause-sound
returns-clause-sound c =
    λ ok s. let k = c.in_ok-room_for_space.ensures.ok in as_is (with_space c.args.o c.args.n.now c.args.self.now) _ (first_of (search rules, grind (arith, common_steps))) (sound-with_space c.args.o c.args.n.now c.args.self.now k.0 (ok k.0) k.1 s)
