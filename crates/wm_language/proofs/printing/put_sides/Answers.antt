use Rattle.wm_language.specs.Spelling.{sides_text}
use Rattle.wm_language.proofs.Lists.{two_writes_on}
use Rattle.wm_language.proofs.printing.put_sides.Goals as goal

pub returns : goal.returns
unfolding sides_text
returns c = two_writes_on c.put_measured-2.result _ _ _ _ _ c.in_ok-put_measured.ensures c.put_measured-2.ensures
