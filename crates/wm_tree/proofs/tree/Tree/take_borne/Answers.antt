use Rattle.std.proofs.Common.{arith, rules}
use Rattle.std.proofs.lemmas.Grind.{common_steps}
use Rattle.wm_tree.specs.Marks.{taken_off}
use Rattle.wm_tree.proofs.EachLemmas.{mapped_off, sound-off}
use Rattle.wm_tree.proofs.SoundLemmas.{as_is}
use Rattle.wm_tree.proofs.tree.Tree.take_borne.Goals as goal

pub returns-clause-sound : goal.returns-clause-sound
returns-clause-sound c =
    λ s. as_is (record c.args.self.now { nodes = taken_off c.args.keep c.args.n.now c.args.self.now.nodes }) _ (first_of (search (mapped_off, rules), grind (arith, mapped_off, common_steps))) (sound-off c.args.keep c.args.n.now c.args.self.now s)
