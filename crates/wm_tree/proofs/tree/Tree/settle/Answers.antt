use Rattle.std.proofs.Common.{arith, rules}
use Rattle.std.proofs.lemmas.Grind.{common_steps}
use Rattle.wm_tree.specs.Words.{settled}
use Rattle.wm_tree.proofs.SettleLemmas.{sound-settled}
use Rattle.wm_tree.proofs.SettledLaws.{left_by, same_by, settled_by, taken_by, twice_by}
use Rattle.wm_tree.proofs.SoundLemmas.{as_is}
use Rattle.wm_tree.proofs.tree.Tree.settle.Goals as goal

pub returns-clause-sound : goal.returns-clause-sound
returns-clause-sound c = λ s. as_is (settled c.args.self.now) _ (first_of (search rules, grind (arith, common_steps))) (sound-settled c.args.self.now s)

pub returns-clause-settled : goal.returns-clause-settled
returns-clause-settled c = settled_by c.args.self.now c.take_vacant.new.self.nodes (first_of (search rules, grind (arith, common_steps)))

pub returns-clause-same : goal.returns-clause-same
returns-clause-same c = λ h. same_by c.args.self.now _ (first_of (search rules, grind (arith, common_steps))) h

pub returns-clause-twice : goal.returns-clause-twice
returns-clause-twice c = twice_by c.args.self.now _ (first_of (search rules, grind (arith, common_steps)))

pub returns-clause-taken : goal.returns-clause-taken
returns-clause-taken c = λ i. taken_by c.args.self.now _ i (first_of (search rules, grind (arith, common_steps)))

pub returns-clause-left : goal.returns-clause-left
returns-clause-left c = λ s. left_by c.args.self.now _ _ (first_of (search rules, grind (arith, common_steps))) (first_of (search rules, grind (arith, common_steps))) s
