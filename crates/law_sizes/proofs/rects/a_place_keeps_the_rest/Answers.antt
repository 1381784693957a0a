-- A law of rectangles, by the lemma of that name.
use Rattle.law_sizes.proofs.RectLaws.{place_keeps}
use Rattle.law_sizes.proofs.rects.a_place_keeps_the_rest.Goals as goal

pub returns : goal.returns
returns c = place_keeps
