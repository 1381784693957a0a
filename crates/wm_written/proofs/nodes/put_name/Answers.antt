use Rattle.std.proofs.Common.{Some, codes, ap}
use Rattle.std.proofs.lemmas.Result.{on_ok_weaker}
use Rattle.wm_json.specs.Arrays.{texts_data}
use Rattle.wm_written.specs.Sent.{sent_if}
use Rattle.wm_written.proofs.SentLemmas.{sends_is, sends_last, sends_then, text_is}
use Rattle.wm_written.proofs.nodes.put_name.Goals as goal

pub returns : goal.returns
returns c =
    let marks = sends_is c.in_ok-put_texts.ensures (ap (λ ts. sent_if (codes "marks") (Some (texts_data ts))) c.items.ensures) in
    on_ok_weaker _ (λ last. sends_then (text_is c.in_ok-put_text.ensures c.as_str.ensures) (sends_then marks (sends_last (text_is last c.as_str-2.ensures.value)))) c.put_text-2.ensures
