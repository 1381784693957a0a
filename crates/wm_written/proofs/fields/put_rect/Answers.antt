use Rattle.std.proofs.lemmas.Result.{on_ok_weaker}
use Rattle.wm_written.proofs.SentLemmas.{sends_then}
use Rattle.wm_written.proofs.fields.put_rect.Goals as goal

pub returns : goal.returns
returns c = on_ok_weaker _ (λ last. sends_then c.in_ok-name.ensures (sends_then c.in_ok-open_object.ensures (sends_then c.in_ok-put_sides.ensures (last)))) c.close_object.ensures
