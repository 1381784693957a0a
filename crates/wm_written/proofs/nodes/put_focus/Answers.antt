use Rattle.std.proofs.Common.{Some, codes, ap}
use Rattle.std.proofs.lemmas.Result.{on_ok_weaker}
use Rattle.wm_json.specs.Objects.{array_with, whole_number}
use Rattle.wm_written.specs.Sent.{sent_if}
use Rattle.wm_written.proofs.SentLemmas.{sends_is, sends_last, sends_then}
use Rattle.wm_written.proofs.nodes.put_focus.Goals as goal

pub returns : goal.returns
returns c =
    let focus = sends_is c.in_ok-put_numbers.ensures (ap (λ ns. sent_if (codes "focus") (Some (array_with whole_number ns))) c.items.ensures) in
    on_ok_weaker _ (λ last. sends_then focus (sends_then c.in_ok-put_flag.ensures (sends_then c.in_ok-put_number.ensures (sends_then c.in_ok-put_rect.ensures (sends_last last))))) c.put_number-2.ensures
