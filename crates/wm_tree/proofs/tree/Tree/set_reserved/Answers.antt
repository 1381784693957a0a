use Rattle.std.proofs.Common.{arith, rules}
use Rattle.std.proofs.lemmas.Grind.{common_steps}
use Rattle.wm_forest.specs.declared.kind.KindEdit.TheVariants as edits
use Rattle.wm_tree.specs.Words.{edited}
use Rattle.wm_forest.proofs.EditLemmas.{fits_reserved}
use Rattle.wm_tree.proofs.SoundLemmas.{as_is, sound-edited}
use Rattle.wm_tree.proofs.tree.Tree.set_reserved.Goals as goal

pub returns-clause-sound : goal.returns-clause-sound
returns-clause-sound c =
    λ s. as_is (edited c.args.o (edits.Reserved c.args.e) c.args.self.now) _ (first_of (search rules, grind (arith, common_steps))) (sound-edited c.args.o (edits.Reserved c.args.e) c.args.self.now (fits_reserved c.args.e _ _) s)
