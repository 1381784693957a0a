use Rattle.std.proofs.lemmas.Result.{on_ok_weaker}
use Rattle.wm_written.proofs.SentLemmas.{sends_last, sends_then}
use Rattle.wm_written.proofs.fields.put_sides.Goals as goal

pub returns : goal.returns
returns c = on_ok_weaker _ (λ last. sends_then c.in_ok-put_number.ensures (sends_then c.in_ok-put_number-2.ensures (sends_then c.in_ok-put_integer.ensures (sends_last last)))) c.put_integer-2.ensures
