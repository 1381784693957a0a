-- By the lemma of that name.
use Rattle.law_desk.proofs.NamingLemmas.{output_names}
use Rattle.law_desk.proofs.histories_have_output_names.Goals as goal

pub returns : goal.returns
returns c = output_names
