use Rattle.std.proofs.Common.{arith, rules}
use Rattle.std.proofs.lemmas.Grind.{common_steps}
use Rattle.wm_tree.specs.TreeValue.{opening}
use Rattle.wm_tree.proofs.StartLemmas.{sound-opening}
use Rattle.wm_tree.proofs.SoundLemmas.{as_is}
use Rattle.wm_tree.proofs.tree.Tree.start.Goals as goal

pub returns-clause-sound : goal.returns-clause-sound
returns-clause-sound c =
    λ some ok. as_is (opening c.args.outputs.now c.args.border c.args.inner c.args.outer) _ (first_of (search rules, grind (arith, common_steps))) (sound-opening c.args.outputs.now c.args.border c.args.inner c.args.outer some c.requires ok)
