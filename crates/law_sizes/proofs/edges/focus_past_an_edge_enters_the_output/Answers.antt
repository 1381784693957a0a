-- The output that takes the focus, by the lemma of that name.
use Rattle.law_sizes.proofs.EdgeLaws.{focus_enters}
use Rattle.law_sizes.proofs.edges.focus_past_an_edge_enters_the_output.Goals as goal

pub returns : goal.returns
returns c = focus_enters
