-- The law of outputs that come, by the lemma that proves it.
use Rattle.law_workspaces.proofs.AddLaws.{adds_other}
use Rattle.law_workspaces.proofs.coming.an_output_that_comes_has_another_name.Goals as goal

pub returns : goal.returns
returns c = adds_other
