use Rattle.wm_tool.proofs.ScriptEnds.{replay_finished, replay_stopped, nothing_replayed}
use Rattle.wm_tool.proofs.run.replay_script.Goals as goal

pub returns-in_err-script-clause-written : goal.returns-in_err-script-clause-written
returns-in_err-script-clause-written g c =
    nothing_replayed c.args.bytes.now (g.B.Build.log c.args.build.now) (g.W.Sink.taken c.args.sink.now) c.in_err-script.field-0.0 c.from_residual.result c.from_residual.ensures.1

pub returns-in_err-replay-clause-written : goal.returns-in_err-replay-clause-written
returns-in_err-replay-clause-written g c =
    replay_stopped c.args.bytes.now (g.B.Build.log c.args.build.now) (g.B.Build.log c.replay.new.build) (g.W.Sink.taken c.args.sink.now) (g.W.Sink.taken c.replay.new.sink)
    c.in_ok-script.script c.in_err-replay.field-0.0 c.from_residual-in_err-replay.result c.in_ok-script.ensures.ok c.from_residual-in_err-replay.ensures.1 c.in_err-replay.ensures.part

pub returns-clause-written : goal.returns-clause-written
returns-clause-written g c =
    replay_finished c.args.bytes.now (g.B.Build.log c.args.build.now) (g.B.Build.log c.replay.new.build) (g.W.Sink.taken c.args.sink.now) (g.W.Sink.taken c.replay.new.sink)
    c.in_ok-script.script c.replay.new.refused.items c.of.result c.in_ok-script.ensures.ok c.of.ensures c.in_ok-replay.ensures.ok
