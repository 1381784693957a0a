use Rattle.wm_clients.specs.Served.{stage}
use Rattle.wm_clients.proofs.EndLemmas.{ends_as}
use Rattle.wm_clients.proofs.HearLemmas.{asked_between, checked}
use Rattle.wm_clients.proofs.serving.turn.Goals as goal

pub returns-in_err-receive-clause-goes_on : goal.returns-in_err-receive-clause-goes_on
returns-in_err-receive-clause-goes_on g c = λ first b.
    let new = stage (g.D.Door.carried c.args.pass.now) (g.L.Link.told c.receive.new.link) (g.L.Link.faults c.receive.new.link) in
    ends_as first new _ c.from_residual.result c.in_err-receive.field-0.0
    (c.in_err-receive.ensures.hears first (g.D.Door.carried c.args.pass.now) c.args.teller.now.sent c.args.teller.now.lines b)
    c.from_residual.ensures.1

pub returns-in_err-check_rest-clause-goes_on : goal.returns-in_err-check_rest-clause-goes_on
returns-in_err-check_rest-clause-goes_on g c = λ first b.
    let new = stage (g.D.Door.carried c.answer_all.new.pass) (g.L.Link.told c.answer_all.new.link) (g.L.Link.faults c.answer_all.new.link) in
    let between = c.in_ok-answer_all.ensures.goes_on first (c.in_ok-receive.ensures.hears first (g.D.Door.carried c.args.pass.now) c.args.teller.now.sent c.args.teller.now.lines b) in
    ends_as first new _ c.from_residual-in_err-check_rest.result c.in_err-check_rest.field-0.0
    (checked (Unit {0}) first new c.answer_all.new.teller.sent c.answer_all.new.teller.lines c.answer_all.new.hearer.cutter c.in_err-check_rest.field-0.0 between c.in_ok-answer_all.ensures.none c.in_err-check_rest.ensures)
    c.from_residual-in_err-check_rest.ensures.1

pub returns-clause-goes_on : goal.returns-clause-goes_on
returns-clause-goes_on g c = λ first b.
    let old = stage (g.D.Door.carried c.answer_all.new.pass) (g.L.Link.told c.answer_all.new.link) (g.L.Link.faults c.answer_all.new.link) in
    let new = stage (g.D.Door.carried c.ask_stop.new.pass) (g.L.Link.told c.ask_stop.new.link) (g.L.Link.faults c.ask_stop.new.link) in
    let between = c.in_ok-answer_all.ensures.goes_on first (c.in_ok-receive.ensures.hears first (g.D.Door.carried c.args.pass.now) c.args.teller.now.sent c.args.teller.now.lines b) in
    asked_between first old new c.answer_all.new.teller.sent c.ask_stop.new.self.sent c.answer_all.new.teller.lines c.ask_stop.new.self.lines c.answer_all.new.hearer.cutter c.ask_stop.result between
    (λ received stops going. c.ask_stop.ensures.asks first received c.answer_all.new.hearer.cutter stops (c.in_ok-answer_all.ensures.none, c.in_ok-check_rest.ensures) going)
