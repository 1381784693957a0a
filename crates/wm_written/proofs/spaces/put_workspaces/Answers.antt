use Rattle.std.proofs.Common.{sym, ap}
use Rattle.std.proofs.lemmas.Result.{on_ok_weaker}
use Rattle.wm_json.specs.Spaces.{workspace_data}
use Rattle.wm_written.specs.Sent.{sent}
use Rattle.wm_written.proofs.SentLemmas.{array_sent, sends_is, sends_then, taken_more}
use Rattle.wm_written.proofs.spaces.put_workspaces.Goals as goal

pub loop-space-preserved : goal.loop-space-preserved
loop-space-preserved c = sends_is (sends_then c.loop-space.invariant (sends_is c.in_ok-put_workspace.ensures (ap (λ w. sent (workspace_data w)) c.space-item.is))) (sym (taken_more workspace_data c.args.spaces.now c.loop-space.space-index _ c.loop-space-test.true))

pub returns : goal.returns
returns c =
    on_ok_weaker _ (λ last. sends_is (sends_then c.in_ok-open_array.ensures (sends_then c.loop-space.invariant last)) (array_sent workspace_data c.args.spaces.now c.loop-space.space-index c.loop-space-test.false)) c.close_array.ensures
