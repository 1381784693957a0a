use Rattle.std.proofs.Common.{rules}
use Rattle.wm_forest.specs.declared.kind.KindEdit.TheVariants as edits
use Rattle.wm_tree.specs.Words.{edited}
use Rattle.wm_forest.proofs.EditLemmas.{fits_layout}
use Rattle.wm_tree.proofs.SoundLemmas.{as_is, sound-edited}
use Rattle.wm_tree.proofs.tree.Tree.set_layout.Goals as goal

pub returns-clause-sound : goal.returns-clause-sound
returns-clause-sound c =
    λ s. as_is (edited c.args.con (edits.Layout c.args.l) c.args.self.now) _ (search rules) (sound-edited c.args.con (edits.Layout c.args.l) c.args.self.now (fits_layout c.args.l _ _) s)
