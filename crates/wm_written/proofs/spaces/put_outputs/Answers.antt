use Rattle.std.proofs.Common.{sym, ap}
use Rattle.std.proofs.lemmas.Result.{on_ok_weaker}
use Rattle.wm_json.specs.Spaces.{output_data}
use Rattle.wm_written.specs.Sent.{sent}
use Rattle.wm_written.proofs.SentLemmas.{array_sent, sends_is, sends_then, taken_more}
use Rattle.wm_written.proofs.spaces.put_outputs.Goals as goal

pub loop-output-preserved : goal.loop-output-preserved
loop-output-preserved c = sends_is (sends_then c.loop-output.invariant (sends_is c.in_ok-put_output.ensures (ap (λ o. sent (output_data o)) c.output-item.is))) (sym (taken_more output_data c.args.outputs.now c.loop-output.output-index _ c.loop-output-test.true))

pub returns : goal.returns
returns c =
    on_ok_weaker _ (λ last. sends_is (sends_then c.in_ok-open_array.ensures (sends_then c.loop-output.invariant last)) (array_sent output_data c.args.outputs.now c.loop-output.output-index c.loop-output-test.false)) c.close_array.ensures
