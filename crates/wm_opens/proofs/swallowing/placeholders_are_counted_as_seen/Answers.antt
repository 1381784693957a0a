-- By the lemma of that name.
use Rattle.wm_opens.proofs.PlaceholderLemmas.{placeholders_seen}
use Rattle.wm_opens.proofs.swallowing.placeholders_are_counted_as_seen.Goals as goal

pub returns : goal.returns
returns c = placeholders_seen
