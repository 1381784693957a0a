-- By the lemma of that name.
use Rattle.wm_opens.proofs.PlaceholderLemmas.{opens_mapped}
use Rattle.wm_opens.proofs.swallowing.mapping_lets_no_other_open.Goals as goal
use Rattle.wm_tree.specs.TreeValue.{newcomer_place}

pub returns : goal.returns
returns c = λ who props natural t. opens_mapped (newcomer_place t) who props natural t
