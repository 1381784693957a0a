-- By the lemma of that name.
use Rattle.law_lasting.proofs.FreeNames.{new_name_free}
use Rattle.law_names.proofs.spaces.new_names_are_free.Goals as goal

pub returns : goal.returns
returns c = new_name_free
