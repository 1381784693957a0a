use Rattle.std.proofs.Common.{◌≡◌, true, arith, rules}
use Rattle.std.proofs.lemmas.Grind.{common_steps}
use Rattle.wm_tree.specs.Outputs.{space_moved}
use Rattle.wm_forest.specs.Look.{has}
use Rattle.wm_tree.proofs.SoundLemmas.{as_is}
use Rattle.wm_tree.proofs.SpaceLemmas.{sound-space_moved}
use Rattle.wm_tree.proofs.tree.Tree.move_workspace.Goals as goal

pub returns-clause-sound : goal.returns-clause-sound
returns-clause-sound c =
    λ m s. let a : has c.args.w c.args.self.now.nodes ≡ true = first_of (search rules, grind (arith, common_steps)) in let b : has c.args.o c.args.self.now.nodes ≡ true = first_of (search rules, grind (arith, common_steps)) in as_is (space_moved c.args.w c.args.o c.args.self.now) _ (first_of (search rules, grind (arith, common_steps))) (sound-space_moved c.args.w c.args.o c.args.self.now s (m.0 a).0 (m.0 a).1 (m.1 b))
