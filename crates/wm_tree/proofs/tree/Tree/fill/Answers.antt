use Rattle.std.proofs.Common.{arith, rules}
use Rattle.std.proofs.lemmas.Grind.{common_steps}
use Rattle.wm_forest.specs.declared.kind.KindEdit.TheVariants as edits
use Rattle.wm_tree.specs.Words.{edited}
use Rattle.wm_forest.proofs.EditLemmas.{fits_fill}
use Rattle.wm_tree.proofs.SoundLemmas.{as_is, sound-edited}
use Rattle.wm_tree.proofs.tree.Tree.fill.Goals as goal

pub returns-clause-sound : goal.returns-clause-sound
returns-clause-sound c =
    λ s. as_is (edited c.args.con (edits.Fill c.args.props.now c.args.owner c.args.natural) c.args.self.now) _ (first_of (search rules, grind (arith, common_steps))) (sound-edited c.args.con (edits.Fill c.args.props.now c.args.owner c.args.natural) c.args.self.now (fits_fill c.args.props.now c.args.owner c.args.natural _ _) s)
