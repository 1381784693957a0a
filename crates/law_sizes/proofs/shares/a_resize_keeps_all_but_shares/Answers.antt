-- A resize keeps all but shares, by the lemma of that name.
use Rattle.law_sizes.proofs.SharesKept.{resize_keeps}
use Rattle.law_sizes.proofs.shares.a_resize_keeps_all_but_shares.Goals as goal

pub returns : goal.returns
returns c = resize_keeps
