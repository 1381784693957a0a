-- A law of rectangles, by the lemma of that name.
use Rattle.law_sizes.proofs.RectLaws.{growth_keeps}
use Rattle.law_sizes.proofs.rects.a_growth_keeps_the_rest.Goals as goal

pub returns : goal.returns
returns c = growth_keeps
