use Rattle.std.proofs.Common.{arith, rules}
use Rattle.std.proofs.lemmas.Grind.{common_steps}
use Rattle.wm_forest.specs.Each.{mapped}
use Rattle.wm_tree.specs.States.{part_restated}
use Rattle.wm_tree.proofs.EachLemmas.{sound-restated}
use Rattle.wm_tree.proofs.SoundLemmas.{as_is}
use Rattle.wm_tree.proofs.tree.Tree.change_states.Goals as goal

pub returns-clause-sound : goal.returns-clause-sound
returns-clause-sound g c =
    λ s. as_is (record c.args.self.now { nodes = mapped (part_restated (g.C.StateChange.word c.args.change.now)) c.args.self.now.nodes }) _ (first_of (search rules, grind (arith, common_steps))) (sound-restated (g.C.StateChange.word c.args.change.now) c.args.self.now s)
