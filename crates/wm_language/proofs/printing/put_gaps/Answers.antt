use Rattle.wm_language.specs.Spelling.{gaps_text}
use Rattle.wm_language.proofs.Lists.{two_writes_on}
use Rattle.wm_language.proofs.printing.put_gaps.Goals as goal

pub returns : goal.returns
unfolding gaps_text
returns c = rw (← c.gap_text.ensures, ← c.scope_text.ensures, ← c.op_text.ensures) (two_writes_on c.put_counted.result _ _ _ _ _ c.in_ok-put_two.ensures c.put_counted.ensures)
