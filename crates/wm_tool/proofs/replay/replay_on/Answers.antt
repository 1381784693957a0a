use Rattle.std.proofs.Common.{refl, subst}
use Rattle.wm_ports.specs.Told.{TakesAll, TakesPart}
use Rattle.wm_tool.proofs.RunLemmas.{backed_now, begins, ends, fails, on_err, stopped_as}
use Rattle.wm_tool.proofs.replay.replay_on.Goals as goal

pub returns-in_err-run_lines-clause-part : goal.returns-in_err-run_lines-clause-part
returns-in_err-run_lines-clause-part g c = on_err c.from_residual.result (c.in_err-run_lines.ensures.part _ _ _ _ (begins _ _ _ _ _ _ _ c.requires.none c.new-piece.ensures.items c.requires.stands))

pub returns-in_err-write_all-clause-part : goal.returns-in_err-write_all-clause-part
returns-in_err-write_all-clause-part g c =
    let played = c.in_ok-run_lines.ensures.ok _ _ _ _ (begins _ _ _ _ _ _ _ c.requires.none c.new-piece.ensures.items c.requires.stands) in
    on_err c.from_residual-in_err-write_all.result
    (fails _ _ (g.W.Sink.taken c.write_all.new.sink) _ _ _ _ _ _ _ _ _ played (subst (TakesPart (g.W.Sink.taken c.run_lines.new.sink) (g.W.Sink.taken c.write_all.new.sink)) c.deref.ensures.value c.in_err-write_all.ensures.part))

pub returns-clause-ok : goal.returns-clause-ok
returns-clause-ok g c =
    let played = c.in_ok-run_lines.ensures.ok _ _ _ _ (begins _ _ _ _ _ _ _ c.requires.none c.new-piece.ensures.items c.requires.stands) in (
      backed_now _ _ (g.W.Sink.taken c.write_all.new.sink) _ _ _ _ _ _ _ _ _ played,
      ends _ _ (g.W.Sink.taken c.write_all.new.sink) _ _ _ _ _ (λ rs history. refl) played.runs (subst (TakesAll (g.W.Sink.taken c.run_lines.new.sink) (g.W.Sink.taken c.write_all.new.sink)) c.deref.ensures.value c.in_ok-write_all.ensures.ok),
    )

-- it has stopped as its lines did
pub returns-in_err-run_lines-clause-err : goal.returns-in_err-run_lines-clause-err
returns-in_err-run_lines-clause-err g c = stopped_as _ _ c.in_err-run_lines.field-0.0 c.from_residual.result c.in_err-run_lines.ensures.err c.from_residual.ensures.1
