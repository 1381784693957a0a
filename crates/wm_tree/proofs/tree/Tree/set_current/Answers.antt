use Rattle.std.proofs.Common.{arith, rules}
use Rattle.std.proofs.lemmas.Grind.{common_steps}
use Rattle.wm_forest.specs.declared.kind.KindEdit.TheVariants as edits
use Rattle.wm_tree.specs.Words.{edited}
use Rattle.wm_forest.specs.RootId.{root}
use Rattle.wm_forest.proofs.EditLemmas.{fits_current}
use Rattle.wm_tree.proofs.FocusLemmas.{root_kids}
use Rattle.wm_tree.proofs.SoundLemmas.{as_is, sound-edited}
use Rattle.wm_tree.proofs.tree.Tree.set_current.Goals as goal

pub returns-clause-sound : goal.returns-clause-sound
returns-clause-sound c =
    λ h s. as_is (edited root (edits.Current c.args.o) c.args.self.now) _ (first_of (search rules, grind (arith, common_steps))) (sound-edited root (edits.Current c.args.o) c.args.self.now (fits_current c.args.o _ _ (rw (root_kids c.args.self.now.nodes s.shaped s.rooted) h)) s)
