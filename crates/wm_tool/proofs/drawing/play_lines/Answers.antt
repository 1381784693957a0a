use Rattle.std.proofs.Common.{◌∙◌, ap, arith, subst}
use Rattle.wm_history.specs.History.{opening_of}
use Rattle.wm_script.specs.Out.{texts_from}
use Rattle.wm_tool.specs.Drawing.{drawn_from}
use Rattle.wm_script.specs.Script.{IsFitLine}
use Rattle.wm_tool.specs.Running.{Draws}
use Rattle.wm_tool.proofs.DrawLemmas.{draws_line, stops_line}
use Rattle.wm_tool.proofs.LineLemmas.{none_left, one_step, rest_fit}
use Rattle.wm_tool.proofs.RunLemmas.{on_err}
use Rattle.wm_tool.proofs.drawing.play_lines.Goals as goal

pub returns-in_err-run_line-clause-part : goal.returns-in_err-run_line-clause-part
returns-in_err-run_line-clause-part g c = λ whole texts first p.
    on_err c.from_residual.result
    (stops_line (opening_of c.args.desk.now.plan) c.args.binds.now c.loop-rest.desk c.loop-rest.refused.items whole texts first (g.B.Build.log c.loop-rest.build) (g.B.Build.log c.run_line.new.build)
    c.line-item.result _ c.loop-rest.rest.now c.in-len1-up.len_at_least c.line-item.is (ap opening_of c.loop-rest.invariant.plan) (c.loop-rest.invariant.draws whole texts first p) c.in_err-run_line.ensures.stopped)

pub loop-rest-preserved : goal.loop-rest-preserved
loop-rest-preserved g c =
    let kept = c.loop-rest.invariant in
    record {
      few = omega (arith, kept.few, c.in_ok-run_line.ensures.steps, one_step c.line-item.result.deed, c.in-len1-up.len_at_least);
      fit = rest_fit IsFitLine c.loop-rest.rest.now c.in-len1-up.len_at_least kept.fit;
      plan = c.run_line.ensures.plan ∙ kept.plan;
      draws = λ whole texts first p.
          draws_line (opening_of c.args.desk.now.plan) c.args.binds.now c.loop-rest.desk c.loop-rest.refused.items whole texts first (g.B.Build.log c.loop-rest.build) (g.B.Build.log c.run_line.new.build)
          c.line-item.result _ c.loop-rest.rest.now c.in-len1-up.len_at_least c.line-item.is (ap opening_of kept.plan) (kept.draws whole texts first p)
          c.run_line.new.refused.items c.run_line.new.desk c.loop-rest.told.items c.run_line.new.piece.items c.in_ok-run_line.ensures.notes c.in_ok-run_line.ensures.ok c.in_ok-run_line.ensures.steps;
    }

pub returns-clause-ok : goal.returns-clause-ok
returns-clause-ok g c = λ whole texts first p.
    let start = opening_of c.args.desk.now.plan in
    subst (λ rest. Draws c.loop-rest.desk c.loop-rest.refused.items (drawn_from start c.args.binds.now rest) whole (texts_from start c.args.binds.now rest) texts first (g.B.Build.log c.loop-rest.build))
    (none_left c.loop-rest.rest.now c.in_default.len_below) (c.loop-rest.invariant.draws whole texts first p)
