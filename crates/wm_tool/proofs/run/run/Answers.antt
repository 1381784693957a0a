use Rattle.std.proofs.Common.{arith, subst, sym}
use Rattle.wm_ports.specs.Told.{ReadsAll}
use Rattle.wm_tool.specs.Ending.{HasRead, ending_of}
use Rattle.wm_tool.specs.declared.words.Command.TheVariants.{Draw}
use Rattle.wm_tool.proofs.EndLemmas.{read_by, unread_ended}
use Rattle.wm_tool.proofs.run.run.Goals as goal

pub returns-in_err-bytes-clause-written : goal.returns-in_err-bytes-clause-written
returns-in_err-bytes-clause-written g c =
    unread_ended c.args.command (g.B.Build.log c.args.build.now) c.in_err-bytes.field-0.0 (g.R.Source.rest c.args.source.now) (g.W.Sink.taken c.args.sink.now) c.from_residual.result c.from_residual.ensures.1

pub returns-clause-read : goal.returns-clause-read
returns-clause-read g c =
    let old = g.R.Source.rest c.args.source.now in
    let new = g.R.Source.rest c.read_to_limit.new.source in
    subst (λ k. HasRead k (ending_of c.draw_script.result) old new) (sym c.in-Draw.is)
    (read_by Draw c.deref-in-Draw.result.now (ending_of c.draw_script.result) old new c.draw_script.ensures.ends (omega (arith, c.in_ok-bytes.ensures.within, c.deref-in-Draw.ensures.len))
    (subst (ReadsAll old new) (sym c.deref-in-Draw.ensures.value) c.in_ok-bytes.ensures.ok))
