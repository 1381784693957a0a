use Rattle.wm_language.specs.Spelling.{resize_text}
use Rattle.wm_language.proofs.Lists.{two_writes, two_writes_on}
use Rattle.wm_language.proofs.printing.put_resize.Goals as goal

pub returns : goal.returns
unfolding resize_text
returns c = rw (← c.grow_text.ensures, ← c.side_text.ensures) (two_writes_on c.put_measured-2.result _ _ _ _ _ (two_writes _ _ _ _ _ c.in_ok-put_two.ensures c.in_ok-put_measured.ensures) c.put_measured-2.ensures)
