use Rattle.std.proofs.Common.{ap, refl, sym, subst}
use Rattle.wm_history.specs.History.{opening_of}
use Rattle.wm_ports.specs.Told.{TakesAll, TakesPart}
use Rattle.wm_tool.specs.declared.replay.Stop.TheVariants.{NoMemory}
use Rattle.wm_tool.proofs.DrawLemmas.{drawn_is}
use Rattle.wm_tool.proofs.EndLemmas.{nothing_taken}
use Rattle.wm_tool.proofs.RunLemmas.{backed_now, begins, on_err, stopped_as}
use Rattle.wm_tool.proofs.drawing.draw_on.Goals as goal

-- nothing was written before the picture
pub returns-in_err-play_lines-clause-part : goal.returns-in_err-play_lines-clause-part
returns-in_err-play_lines-clause-part g c =
    let backed = c.in_err-play_lines.ensures.part _ _ _ (begins _ _ _ _ _ _ _ c.requires.none refl c.requires.stands) in
    on_err c.from_residual.result (backed.0, backed.1, nothing_taken (g.W.Sink.taken c.args.sink.now) _)

pub picture-requires : goal.picture-requires
picture-requires g c =
    let drawn = c.in_ok-play_lines.ensures.ok _ _ _ (begins _ _ _ _ _ _ _ c.requires.none refl c.requires.stands) in
    (drawn.runs.history, drawn.runs.stands)

pub returns-in_err-bytes-clause-part : goal.returns-in_err-bytes-clause-part
returns-in_err-bytes-clause-part g c =
    let drawn = c.in_ok-play_lines.ensures.ok _ _ _ (begins _ _ _ _ _ _ _ c.requires.none refl c.requires.stands) in
    on_err c.from_residual-in_err-bytes.result (c.play_lines.new.refused.items, backed_now _ _ (g.W.Sink.taken c.args.sink.now) _ _ _ _ _ _ _ _ _ drawn, nothing_taken (g.W.Sink.taken c.args.sink.now) _)

pub returns-in_err-write_all-clause-part : goal.returns-in_err-write_all-clause-part
returns-in_err-write_all-clause-part g c =
    let drawn = c.in_ok-play_lines.ensures.ok _ _ _ (begins _ _ _ _ _ _ _ c.requires.none refl c.requires.stands) in
    let is = drawn_is (opening_of c.args.desk.now.plan) c.args.binds.now c.args.lines.now _ _ _ _ _ _ c.in_ok-bytes.bytes.items (ap opening_of (sym c.in_ok-play_lines.ensures.plan)) drawn c.in_ok-bytes.ensures in
    on_err c.from_residual-in_err-write_all.result (
      c.play_lines.new.refused.items,
      backed_now _ _ (g.W.Sink.taken c.args.sink.now) _ _ _ _ _ _ _ _ _ drawn,
      subst (TakesPart (g.W.Sink.taken c.args.sink.now) (g.W.Sink.taken c.write_all.new.sink)) is
          (subst (TakesPart (g.W.Sink.taken c.args.sink.now) (g.W.Sink.taken c.write_all.new.sink)) c.deref.ensures.value c.in_err-write_all.ensures.part),
    )

pub returns-clause-ok : goal.returns-clause-ok
returns-clause-ok g c =
    let drawn = c.in_ok-play_lines.ensures.ok _ _ _ (begins _ _ _ _ _ _ _ c.requires.none refl c.requires.stands) in
    let is = drawn_is (opening_of c.args.desk.now.plan) c.args.binds.now c.args.lines.now _ _ _ _ _ _ c.in_ok-bytes.bytes.items (ap opening_of (sym c.in_ok-play_lines.ensures.plan)) drawn c.in_ok-bytes.ensures in (
      backed_now _ _ (g.W.Sink.taken c.args.sink.now) _ _ _ _ _ _ _ _ _ drawn,
      subst (TakesAll (g.W.Sink.taken c.args.sink.now) (g.W.Sink.taken c.write_all.new.sink)) is
          (subst (TakesAll (g.W.Sink.taken c.args.sink.now) (g.W.Sink.taken c.write_all.new.sink)) c.deref.ensures.value c.in_ok-write_all.ensures.ok),
    )

-- want of memory is no fault of the sink
pub returns-in_err-play_lines-clause-err : goal.returns-in_err-play_lines-clause-err
returns-in_err-play_lines-clause-err g c = stopped_as (g.W.Sink.faults c.args.sink.now) (g.W.Sink.faults c.args.sink.now) NoMemory c.from_residual.result tt c.from_residual.ensures.1

pub returns-in_err-bytes-clause-err : goal.returns-in_err-bytes-clause-err
returns-in_err-bytes-clause-err g c = stopped_as (g.W.Sink.faults c.args.sink.now) (g.W.Sink.faults c.args.sink.now) NoMemory c.from_residual-in_err-bytes.result tt c.from_residual-in_err-bytes.ensures.1
