-- A floating window that floats again, by the lemma of that name.
use Rattle.law_layouts.proofs.AfloatLaws.{toggles_afloat_again}
use Rattle.law_layouts.proofs.afloat.toggling_floating_twice_gives_the_rectangle_back.Goals as goal

pub returns : goal.returns
returns c = toggles_afloat_again
