use Rattle.std.proofs.lemmas.Result.{on_ok_weaker}
use Rattle.wm_written.proofs.SentLemmas.{sends_last, sends_then}
use Rattle.wm_written.proofs.nodes.put_window.Goals as goal

pub returns : goal.returns
returns c = on_ok_weaker _ (λ last. sends_then c.in_ok-put_flag_if.ensures (sends_then c.in_ok-put_number_or_null.ensures (sends_then c.in_ok-put_props_or_null.ensures (sends_then c.in_ok-put_rect.ensures (sends_last last))))) c.put_text_or_null.ensures
