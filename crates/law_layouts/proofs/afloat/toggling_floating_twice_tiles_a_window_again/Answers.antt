-- A tiled window that is tiled again, by the lemma of that name.
use Rattle.law_layouts.proofs.AfloatLaws.{toggles_sunk_again}
use Rattle.law_layouts.proofs.afloat.toggling_floating_twice_tiles_a_window_again.Goals as goal

pub returns : goal.returns
returns c = toggles_sunk_again
