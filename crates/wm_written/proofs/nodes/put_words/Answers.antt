use Rattle.std.proofs.lemmas.Result.{on_ok_weaker}
use Rattle.wm_written.proofs.SentLemmas.{sends_last, sends_then, text_is}
use Rattle.wm_written.proofs.nodes.put_words.Goals as goal

pub returns : goal.returns
returns c = on_ok_weaker _ (λ last. sends_then (text_is c.in_ok-put_text.ensures c.as_str.ensures.value) (sends_then (text_is c.in_ok-put_text-2.ensures c.as_str-2.ensures.value) (sends_then (text_is c.in_ok-put_text-3.ensures c.as_str-3.ensures.value) (sends_then (text_is c.in_ok-put_text-4.ensures c.as_str-4.ensures.value) (sends_last (text_is last c.as_str-5.ensures.value)))))) c.put_text-5.ensures
