-- A change that is neither of a state nor of a name is not of a state.
use Rattle.std.proofs.Common.{◌≡◌, true, refl}
use Rattle.law_lasting.specs.Changes.{is_calm, is_plain}
use Rattle.wm_forest.specs.declared.kind.KindEdit.{KindEdit}
use Rattle.wm_forest.specs.declared.kind.KindEdit.TheVariants as edits

pub calm_plain : (edit : KindEdit) → is_calm edit ≡ true → is_plain edit ≡ true
calm_plain (edits.State s) h = cc
calm_plain other h = refl
