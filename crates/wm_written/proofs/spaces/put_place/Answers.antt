use Rattle.std.proofs.lemmas.Result.{on_ok_weaker}
use Rattle.wm_written.proofs.SentLemmas.{sends_last, sends_then, text_is}
use Rattle.wm_written.proofs.spaces.put_place.Goals as goal

pub returns : goal.returns
returns c = on_ok_weaker _ (λ last. sends_then (text_is c.in_ok-put_text.ensures c.as_str.ensures.value) (sends_then c.in_ok-put_rect.ensures (sends_then c.in_ok-put_flag.ensures (sends_last last)))) c.put_flag-2.ensures
