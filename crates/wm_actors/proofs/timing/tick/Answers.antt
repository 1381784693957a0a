use Rattle.wm_actors.specs.declared.ending.ActorEnd.TheVariants as end
use Rattle.wm_actors.proofs.TickLemmas.{ends_as, ticking_goes_on, ticking_stopped, ticking_unseen}
use Rattle.wm_actors.proofs.timing.tick.Goals as goal

pub returns-then-stopped-clause-goes_on : goal.returns-then-stopped-clause-goes_on
returns-then-stopped-clause-goes_on g c = λ first told t.
    ticking_stopped first (g.D.Door.carried c.args.pass.now) (g.D.Door.carried c.stopped.new.pass) told (g.C.Clock.told c.args.clock.now) c.args.timer.now c.stopped.result
    t c.stopped.ensures.looked c.if-stopped.true

pub returns-in_err-waiting-clause-goes_on : goal.returns-in_err-waiting-clause-goes_on
returns-in_err-waiting-clause-goes_on g c = λ first told t.
    let new = g.D.Door.carried c.see_waiting.new.pass in
    ends_as first new told (g.C.Clock.told c.args.clock.now) c.args.timer.now c.from_residual.result end.NoMemory
    (ticking_unseen first (g.D.Door.carried c.args.pass.now) (g.D.Door.carried c.stopped.new.pass) new told (g.C.Clock.told c.args.clock.now) c.args.timer.now c.stopped.result
    t c.stopped.ensures.looked c.if-stopped.false c.in_err-waiting.ensures.sees)
    c.from_residual.ensures.1

pub returns-clause-goes_on : goal.returns-clause-goes_on
returns-clause-goes_on g c = λ first told t.
    ticking_goes_on first (g.D.Door.carried c.args.pass.now) (g.D.Door.carried c.stopped.new.pass) (g.D.Door.carried c.see_waiting.new.pass) (g.D.Door.carried c.give.new.pass)
    told (g.C.Clock.told c.args.clock.now) (g.C.Clock.told c.now_ms-now_ms.new.self) c.args.timer.now c.decide-number.new.self c.stopped.result c.now_ms-now_ms.result c.in_ok-waiting.waiting c.decide-number.result c.give.result
    t c.stopped.ensures.looked c.if-stopped.false c.in_ok-waiting.ensures.sees c.now_ms-now_ms.ensures c.decide-number.ensures.hold c.decide-number.ensures.due c.decide-number.ensures.handed c.give.ensures.gives
