use Rattle.std.proofs.Common.{arith, ap, length, subst, sym, true}
use Rattle.wm_clients.specs.Served.{stage}
use Rattle.wm_clients.specs.Serving.{Between}
use Rattle.wm_clients.proofs.EndLemmas.{ends_as}
use Rattle.wm_clients.proofs.HearLemmas.{shorter}
use Rattle.wm_clients.proofs.serving.answer_all.Goals as goal

pub loop-line-preserved : goal.loop-line-preserved
loop-line-preserved g c =
    let kept = c.loop-line.invariant in
    let new = stage (g.D.Door.carried c.answer.new.pass) (g.L.Link.told c.answer.new.link) (g.L.Link.faults c.answer.new.link) in
    record {
      door = c.answer.ensures.door;
      turn = c.answer.ensures.turn;
      room = kept.room;
      few = c.answer.ensures.few;
      goes = λ first b.
          let between = kept.goes first b in
          subst (λ pending. Between first new c.answer.new.self.sent c.answer.new.self.lines pending true) (sym c.pass.ensures)
          (record {
            received = between.received;
            stops = between.stops;
            going = c.in_ok-answer.ensures.answers first between.received c.loop-line.hearer.cutter between.stops (sym c.in-Some.ensures) between.going;
          });
    }

pub loop-line-smaller : goal.loop-line-smaller
loop-line-smaller g c = omega (arith, ap length c.pass.ensures, shorter c.loop-line.hearer.cutter c.in-Some.line.now (sym c.in-Some.ensures))

pub returns-in_err-answer-clause-goes_on : goal.returns-in_err-answer-clause-goes_on
returns-in_err-answer-clause-goes_on g c = λ first b.
    let new = stage (g.D.Door.carried c.answer.new.pass) (g.L.Link.told c.answer.new.link) (g.L.Link.faults c.answer.new.link) in
    let between = c.loop-line.invariant.goes first b in
    ends_as first new _ c.from_residual.result c.in_err-answer.field-0.0
    (c.in_err-answer.ensures.answers first between.received c.loop-line.hearer.cutter between.stops (sym c.in-Some.ensures) between.going)
    c.from_residual.ensures.1
