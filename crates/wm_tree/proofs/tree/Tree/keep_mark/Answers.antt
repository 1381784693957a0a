use Rattle.std.proofs.Common.{arith, rules}
use Rattle.std.proofs.lemmas.Grind.{common_steps}
use Rattle.std.specs.Option.{option_copied}
use Rattle.wm_forest.specs.Change.{at}
use Rattle.wm_forest.specs.Marks.{keep_word}
use Rattle.wm_tree.proofs.MarkLemmas.{as_kept, sound-kept}
use Rattle.wm_tree.proofs.SoundLemmas.{as_is}
use Rattle.wm_tree.proofs.tree.Tree.keep_mark.Goals as goal

pub returns-clause-tree : goal.returns-clause-tree
returns-clause-tree c = as_kept c.args.con (option_copied c.args.kept) c.args.self.now _ (first_of (search rules, grind (arith, common_steps)))

pub returns-clause-sound : goal.returns-clause-sound
returns-clause-sound c =
    λ s. as_is (record c.args.self.now { nodes = at c.args.con keep_word (option_copied c.args.kept) c.args.self.now.nodes }) _ (first_of (search rules, grind (arith, common_steps))) (sound-kept c.args.con (option_copied c.args.kept) c.args.self.now s)
