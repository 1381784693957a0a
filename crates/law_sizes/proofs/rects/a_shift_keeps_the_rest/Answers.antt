-- A law of rectangles, by the lemma of that name.
use Rattle.law_sizes.proofs.RectLaws.{shift_keeps}
use Rattle.law_sizes.proofs.rects.a_shift_keeps_the_rest.Goals as goal

pub returns : goal.returns
returns c = shift_keeps
