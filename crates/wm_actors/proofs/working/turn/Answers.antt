use Rattle.wm_actors.specs.Worked.{gate}
use Rattle.wm_actors.specs.Works.{spot}
use Rattle.wm_actors.proofs.WorkLemmas.{working_failed, working_quiet, working_unserved, working_visited}
use Rattle.wm_actors.proofs.working.turn.Goals as goal

pub returns-in_err-visit-in-Link-clause-goes_on : goal.returns-in_err-visit-in-Link-clause-goes_on
returns-in_err-visit-in-Link-clause-goes_on g c = λ first at w.
    working_unserved g.L.Link.told g.L.Link.faults g.S.Serve.served g.S.Serve.fails first
    (spot (g.D.Door.carried c.args.pass.now) (g.S.Serve.log c.args.kept.now)) (spot (g.D.Door.carried c.visit.new.pass) (g.S.Serve.log c.visit.new.kept))
    at (gate (g.A.Listen.told c.args.listen.now) (g.A.Listen.faults c.args.listen.now)) (gate (g.A.Listen.told c.accept.new.self) (g.A.Listen.faults c.accept.new.self)) (gate (g.A.Listen.told c.visit.new.listen) (g.A.Listen.faults c.visit.new.listen))
    c.in-Link.link c.in_err-visit-in-Link.field-0.0 c.from_residual.result
    w c.in-Link.ensures.told c.in_err-visit-in-Link.ensures.visits c.from_residual.ensures.1

pub returns-in_ok-visit-in-Link-clause-goes_on : goal.returns-in_ok-visit-in-Link-clause-goes_on
returns-in_ok-visit-in-Link-clause-goes_on g c = λ first at w.
    working_visited g.L.Link.told g.L.Link.faults g.S.Serve.served g.S.Serve.fails first
    (spot (g.D.Door.carried c.args.pass.now) (g.S.Serve.log c.args.kept.now)) (spot (g.D.Door.carried c.visit.new.pass) (g.S.Serve.log c.visit.new.kept))
    at (gate (g.A.Listen.told c.args.listen.now) (g.A.Listen.faults c.args.listen.now)) (gate (g.A.Listen.told c.accept.new.self) (g.A.Listen.faults c.accept.new.self)) (gate (g.A.Listen.told c.visit.new.listen) (g.A.Listen.faults c.visit.new.listen))
    c.in-Link.link c.in_ok-visit-in-Link.field-0 (g.D.Door.carried c.ask.new.pass) c.ask.result
    w c.in-Link.ensures.told c.in-Link.ensures.grown c.in_ok-visit-in-Link.ensures.visits c.ask.ensures.asks

pub returns-in-Quiet-clause-goes_on : goal.returns-in-Quiet-clause-goes_on
returns-in-Quiet-clause-goes_on g c = λ first at w.
    working_quiet g.L.Link.told g.L.Link.faults g.S.Serve.served g.S.Serve.fails first
    (spot (g.D.Door.carried c.args.pass.now) (g.S.Serve.log c.args.kept.now))
    at (gate (g.A.Listen.told c.args.listen.now) (g.A.Listen.faults c.args.listen.now)) (gate (g.A.Listen.told c.accept.new.self) (g.A.Listen.faults c.accept.new.self))
    (g.D.Door.carried c.ask-in-Quiet.new.pass) c.ask-in-Quiet.result
    w c.in-Quiet.ensures.told c.in-Quiet.ensures.grown c.ask-in-Quiet.ensures.asks

pub returns-in-Failed-clause-goes_on : goal.returns-in-Failed-clause-goes_on
returns-in-Failed-clause-goes_on g c = λ first at w.
    working_failed g.L.Link.told g.L.Link.faults g.S.Serve.served g.S.Serve.fails first
    (spot (g.D.Door.carried c.args.pass.now) (g.S.Serve.log c.args.kept.now))
    at (gate (g.A.Listen.told c.args.listen.now) (g.A.Listen.faults c.args.listen.now)) (gate (g.A.Listen.told c.accept.new.self) (g.A.Listen.faults c.accept.new.self))
    w c.in-Failed.ensures.told c.in-Failed.ensures.counted
