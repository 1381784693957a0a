use Rattle.wm_language.specs.Spelling.{renaming_text}
use Rattle.wm_language.proofs.Lists.{two_writes_on}
use Rattle.wm_language.proofs.printing.put_renaming.Goals as goal

pub returns : goal.returns
unfolding renaming_text
returns c = two_writes_on c.put_named-2.result _ _ _ _ _ c.in_ok-put_named.ensures c.put_named-2.ensures
