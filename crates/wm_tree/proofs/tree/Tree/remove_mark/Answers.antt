use Rattle.std.proofs.Common.{arith, rules}
use Rattle.std.proofs.lemmas.Grind.{common_steps}
use Rattle.wm_tree.specs.Move.{unmarked}
use Rattle.wm_tree.proofs.MarkLemmas.{sound-unmarked}
use Rattle.wm_tree.proofs.SoundLemmas.{as_is}
use Rattle.wm_tree.proofs.tree.Tree.remove_mark.Goals as goal

pub returns-clause-sound : goal.returns-clause-sound
returns-clause-sound c =
    λ s. as_is (unmarked c.args.con c.args.n.now c.args.self.now) _ (first_of (search rules, grind (arith, common_steps))) (sound-unmarked c.args.con c.args.n.now c.args.self.now s)
