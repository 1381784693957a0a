use Rattle.wm_tool.proofs.ScriptEnds.{draw_finished, draw_stopped, nothing_drawn}
use Rattle.wm_tool.proofs.run.draw_script.Goals as goal

pub returns-in_err-script-clause-written : goal.returns-in_err-script-clause-written
returns-in_err-script-clause-written g c =
    nothing_drawn c.args.bytes.now (g.B.Build.log c.args.build.now) (g.W.Sink.taken c.args.sink.now) c.in_err-script.field-0.0 c.from_residual.result c.from_residual.ensures.1

pub returns-in_err-draw-clause-written : goal.returns-in_err-draw-clause-written
returns-in_err-draw-clause-written g c =
    draw_stopped c.args.bytes.now (g.B.Build.log c.args.build.now) (g.B.Build.log c.draw.new.build) (g.W.Sink.taken c.args.sink.now) (g.W.Sink.taken c.draw.new.sink)
    c.in_ok-script.script c.in_err-draw.field-0.0 c.from_residual-in_err-draw.result c.in_ok-script.ensures.ok c.from_residual-in_err-draw.ensures.1 c.in_err-draw.ensures.part

pub returns-clause-written : goal.returns-clause-written
returns-clause-written g c =
    draw_finished c.args.bytes.now (g.B.Build.log c.args.build.now) (g.B.Build.log c.draw.new.build) (g.W.Sink.taken c.args.sink.now) (g.W.Sink.taken c.draw.new.sink)
    c.in_ok-script.script c.draw.new.refused.items c.of.result c.in_ok-script.ensures.ok c.of.ensures c.in_ok-draw.ensures.ok
