use Rattle.std.proofs.lemmas.Result.{on_ok_weaker}
use Rattle.wm_written.proofs.SentLemmas.{sends_last, sends_then, text_is}
use Rattle.wm_written.proofs.nodes.put_border.Goals as goal

pub returns : goal.returns
returns c = on_ok_weaker _ (λ last. sends_then c.in_ok-put_flag_if.ensures (sends_then (text_is c.in_ok-put_text.ensures c.as_str.ensures) (sends_then c.in_ok-put_number.ensures (sends_then c.in_ok-put_text_if.ensures (sends_last last))))) c.put_rect.ensures
