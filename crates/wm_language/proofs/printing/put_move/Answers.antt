use Rattle.wm_language.specs.Spelling.{move_text}
use Rattle.wm_language.proofs.Lists.{two_writes_on}
use Rattle.wm_language.proofs.printing.put_move.Goals as goal

pub returns : goal.returns
unfolding move_text
returns c = rw (← c.dir_text.ensures) (two_writes_on c.put_measured.result _ _ _ _ _ c.in_ok-put_two.ensures c.put_measured.ensures)
