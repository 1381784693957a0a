use Rattle.std.proofs.Common.{arith, rules}
use Rattle.std.proofs.lemmas.Grind.{common_steps}
use Rattle.wm_tree.specs.Marks.{bare}
use Rattle.wm_tree.proofs.EachLemmas.{mapped_bare, sound-bare}
use Rattle.wm_tree.proofs.SoundLemmas.{as_is}
use Rattle.wm_tree.proofs.tree.Tree.strip.Goals as goal

pub returns-clause-sound : goal.returns-clause-sound
returns-clause-sound c =
    λ s. as_is (record c.args.self.now { nodes = bare c.args.self.now.nodes }) _ (first_of (search (mapped_bare, rules), grind (arith, mapped_bare, common_steps))) (sound-bare c.args.self.now s)
