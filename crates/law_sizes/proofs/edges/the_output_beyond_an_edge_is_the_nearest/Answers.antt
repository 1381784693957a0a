-- The nearest output, by the lemma of that name.
use Rattle.law_sizes.proofs.OutputLaws.{output_nearest}
use Rattle.law_sizes.proofs.edges.the_output_beyond_an_edge_is_the_nearest.Goals as goal

pub returns : goal.returns
returns c = output_nearest
