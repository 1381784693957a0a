-- By the lemma of that name.
use Rattle.law_desk.proofs.NamingLemmas.{space_names}
use Rattle.law_desk.proofs.histories_have_space_names.Goals as goal

pub returns : goal.returns
returns c = space_names
