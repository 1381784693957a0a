use Rattle.std.proofs.Common.{string_bytes}
use Rattle.wm_actors.specs.Pictured.{screen}
use Rattle.wm_actors.specs.declared.ending.ActorEnd.TheVariants as end
use Rattle.wm_actors.proofs.PaintLemmas.{ends_as, painting_on, painting_stopped, painting_unread, painting_unwritten}
use Rattle.wm_actors.proofs.painting.turn.Goals as goal

pub returns-in_err-text-clause-goes_on : goal.returns-in_err-text-clause-goes_on
returns-in_err-text-clause-goes_on g c = λ first from t.
    let old = g.D.Door.carried c.args.pass.now in
    let mid = g.D.Door.carried c.stopped-stopped.new.pass in
    let new = g.D.Door.carried c.picture.new.pass in
    let at = screen (g.S.Sink.taken c.args.frames.now) (g.S.Sink.faults c.args.frames.now) in
    ends_as first new from at (string_bytes c.args.last.now) c.from_residual.result end.NoMemory
    (painting_unread first old mid new from at (string_bytes c.args.last.now) c.stopped-stopped.result t c.stopped-stopped.ensures.looked c.in_err-text.ensures.unread)
    c.from_residual.ensures.1

pub returns-in_err-show-clause-goes_on : goal.returns-in_err-show-clause-goes_on
returns-in_err-show-clause-goes_on g c = λ first from t.
    let old = g.D.Door.carried c.args.pass.now in
    let mid = g.D.Door.carried c.stopped-stopped.new.pass in
    let new = g.D.Door.carried c.picture.new.pass in
    let at = screen (g.S.Sink.taken c.args.frames.now) (g.S.Sink.faults c.args.frames.now) in
    let to = screen (g.S.Sink.taken c.show.new.frames) (g.S.Sink.faults c.show.new.frames) in
    ends_as first new from to (string_bytes c.show.new.last) c.from_residual-in_err-show.result c.in_err-show.field-0.0
    (painting_unwritten first old mid new from at to (string_bytes c.args.last.now) (string_bytes c.in_ok-text.text) c.stopped-stopped.result c.in_err-show.field-0.0
    t c.stopped-stopped.ensures.looked c.in_ok-text.ensures.read c.in_err-show.ensures)
    c.from_residual-in_err-show.ensures.1

pub returns-then-stopped-clause-goes_on : goal.returns-then-stopped-clause-goes_on
returns-then-stopped-clause-goes_on g c = λ first from t.
    let old = g.D.Door.carried c.args.pass.now in
    let mid = g.D.Door.carried c.stopped-stopped.new.pass in
    let new = g.D.Door.carried c.picture.new.pass in
    let at = screen (g.S.Sink.taken c.args.frames.now) (g.S.Sink.faults c.args.frames.now) in
    let to = screen (g.S.Sink.taken c.show.new.frames) (g.S.Sink.faults c.show.new.frames) in
    painting_stopped first old mid new from at to (string_bytes c.args.last.now) (string_bytes c.show.new.last) (string_bytes c.in_ok-text.text) c.stopped-stopped.result c.in_ok-show.field-0
    t c.stopped-stopped.ensures.looked c.in_ok-text.ensures.read c.in_ok-show.ensures c.if-stopped.true

pub returns-clause-goes_on : goal.returns-clause-goes_on
returns-clause-goes_on g c = λ first from t.
    let old = g.D.Door.carried c.args.pass.now in
    let mid = g.D.Door.carried c.stopped-stopped.new.pass in
    let new = g.D.Door.carried c.picture.new.pass in
    let at = screen (g.S.Sink.taken c.args.frames.now) (g.S.Sink.faults c.args.frames.now) in
    let to = screen (g.S.Sink.taken c.show.new.frames) (g.S.Sink.faults c.show.new.frames) in
    painting_on first old mid new from at to (string_bytes c.args.last.now) (string_bytes c.show.new.last) (string_bytes c.in_ok-text.text) c.stopped-stopped.result c.in_ok-show.field-0
    t c.stopped-stopped.ensures.looked c.in_ok-text.ensures.read c.in_ok-show.ensures c.if-stopped.false
