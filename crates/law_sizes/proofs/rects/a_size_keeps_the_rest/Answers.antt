-- A law of rectangles, by the lemma of that name.
use Rattle.law_sizes.proofs.RectLaws.{size_keeps}
use Rattle.law_sizes.proofs.rects.a_size_keeps_the_rest.Goals as goal

pub returns : goal.returns
returns c = size_keeps
