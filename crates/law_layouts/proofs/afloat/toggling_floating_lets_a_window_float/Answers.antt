-- A tiled window that floats, by the lemma of that name.
use Rattle.law_layouts.proofs.AfloatLaws.{toggles_afloat}
use Rattle.law_layouts.proofs.afloat.toggling_floating_lets_a_window_float.Goals as goal

pub returns : goal.returns
returns c = toggles_afloat
