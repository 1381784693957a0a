use Rattle.std.proofs.Common.{arith, rules}
use Rattle.std.proofs.lemmas.Grind.{common_steps}
use Rattle.wm_tree.specs.Words.{with_raised}
use Rattle.wm_tree.proofs.RaiseLemmas.{sound-raised}
use Rattle.wm_forest.proofs.RaisedLaws.{first_by, others_by}
use Rattle.wm_tree.proofs.SoundLemmas.{as_is}
use Rattle.wm_tree.proofs.tree.Tree.raise.Goals as goal

pub returns-clause-sound : goal.returns-clause-sound
returns-clause-sound c = λ s. as_is (with_raised c.args.con c.args.self.now) _ (grind (arith, common_steps)) (sound-raised c.args.con c.args.self.now s)

pub returns-clause-first : goal.returns-clause-first
returns-clause-first c = λ h. first_by c.args.con c.args.self.now.recency _ (first_of (search rules, grind (arith, common_steps))) h

pub returns-clause-others : goal.returns-clause-others
returns-clause-others c = others_by c.args.con c.args.self.now.recency _ (first_of (search rules, grind (arith, common_steps)))
