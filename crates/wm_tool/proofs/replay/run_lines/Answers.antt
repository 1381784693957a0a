use Rattle.std.proofs.Common.{◌-◌, ◌∙◌, ap, arith, drop, length, subst, take}
use Rattle.wm_history.specs.History.{opening_of}
use Rattle.wm_script.specs.Out.{out_from, texts_from}
use Rattle.wm_script.specs.Script.{IsFitLine}
use Rattle.wm_tool.specs.Running.{Plays}
use Rattle.wm_tool.proofs.LineLemmas.{none_left, one_step, plays_line, rest_fit, stops_line}
use Rattle.wm_tool.proofs.RunLemmas.{fails, on_err, writes}
use Rattle.wm_tool.proofs.replay.run_lines.Goals as goal

pub returns-in_err-run_line-clause-part : goal.returns-in_err-run_line-clause-part
returns-in_err-run_line-clause-part g c = λ old whole texts first p.
    let now = g.W.Sink.taken c.loop-rest.sink in
    let desk = c.loop-rest.desk in
    on_err c.from_residual.result
    (stops_line (opening_of c.args.desk.now.plan) c.args.binds.now old now desk c.loop-rest.refused.items c.loop-rest.piece.items whole texts first (g.B.Build.log c.loop-rest.build) (g.B.Build.log c.run_line.new.build)
    c.line-item.result _ c.loop-rest.rest.now c.in-len1-up.len_at_least c.line-item.is (ap opening_of c.loop-rest.invariant.plan) (c.loop-rest.invariant.plays old whole texts first p) c.in_err-run_line.ensures.stopped)

pub returns-in_err-write_long-clause-part : goal.returns-in_err-write_long-clause-part
returns-in_err-write_long-clause-part g c = λ old whole texts first p.
    let now = g.W.Sink.taken c.loop-rest.sink in
    let desk = c.loop-rest.desk in
    let start = opening_of c.args.desk.now.plan in
    let left = take (length c.loop-rest.rest.now - 1) (drop 1 c.loop-rest.rest.now) in
    on_err c.from_residual-in_err-write_long.result
    (fails old now (g.W.Sink.taken c.write_long.new.sink) c.run_line.new.desk c.run_line.new.refused.items c.run_line.new.piece.items (out_from start c.args.binds.now left) whole (texts_from start c.args.binds.now left) texts first (g.B.Build.log c.run_line.new.build)
    (plays_line start c.args.binds.now old now desk c.loop-rest.refused.items c.loop-rest.piece.items whole texts first (g.B.Build.log c.loop-rest.build) (g.B.Build.log c.run_line.new.build)
    c.line-item.result _ c.loop-rest.rest.now c.in-len1-up.len_at_least c.line-item.is (ap opening_of c.loop-rest.invariant.plan) (c.loop-rest.invariant.plays old whole texts first p)
    c.run_line.new.refused.items c.run_line.new.desk c.run_line.new.piece.items c.in_ok-run_line.ensures.notes c.in_ok-run_line.ensures.ok c.in_ok-run_line.ensures.steps)
    c.in_err-write_long.ensures.part)

pub loop-rest-preserved : goal.loop-rest-preserved
loop-rest-preserved g c =
    let now = g.W.Sink.taken c.loop-rest.sink in
    let desk = c.loop-rest.desk in
    let kept = c.loop-rest.invariant in
    let start = opening_of c.args.desk.now.plan in
    let left = take (length c.loop-rest.rest.now - 1) (drop 1 c.loop-rest.rest.now) in
    record {
      few = omega (arith, kept.few, c.in_ok-run_line.ensures.steps, one_step c.line-item.result.deed, c.in-len1-up.len_at_least);
      fit = rest_fit IsFitLine c.loop-rest.rest.now c.in-len1-up.len_at_least kept.fit;
      plan = c.run_line.ensures.plan ∙ kept.plan;
      plays = λ old whole texts first p.
          writes old now (g.W.Sink.taken c.write_long.new.sink) c.run_line.new.desk c.run_line.new.refused.items c.run_line.new.piece.items (out_from start c.args.binds.now left) whole (texts_from start c.args.binds.now left) texts first (g.B.Build.log c.run_line.new.build)
          (plays_line start c.args.binds.now old now desk c.loop-rest.refused.items c.loop-rest.piece.items whole texts first (g.B.Build.log c.loop-rest.build) (g.B.Build.log c.run_line.new.build)
          c.line-item.result _ c.loop-rest.rest.now c.in-len1-up.len_at_least c.line-item.is (ap opening_of kept.plan) (kept.plays old whole texts first p)
          c.run_line.new.refused.items c.run_line.new.desk c.run_line.new.piece.items c.in_ok-run_line.ensures.notes c.in_ok-run_line.ensures.ok c.in_ok-run_line.ensures.steps)
          c.write_long.new.piece.items c.in_ok-write_long.ensures.ok;
      counted = omega (arith, kept.counted, c.write_long.ensures.counted);
    }

pub returns-clause-ok : goal.returns-clause-ok
returns-clause-ok g c = λ old whole texts first p.
    let start = opening_of c.args.desk.now.plan in
    subst (λ rest. Plays old (g.W.Sink.taken c.loop-rest.sink) c.loop-rest.desk c.loop-rest.refused.items c.loop-rest.piece.items (out_from start c.args.binds.now rest) whole (texts_from start c.args.binds.now rest) texts first (g.B.Build.log c.loop-rest.build))
    (none_left c.loop-rest.rest.now c.in_default.len_below) (c.loop-rest.invariant.plays old whole texts first p)
