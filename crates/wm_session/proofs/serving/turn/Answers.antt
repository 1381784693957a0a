use Rattle.std.proofs.Common.{◌∙◌, ap, subst, sym, true}
use Rattle.wm_frames.specs.Decoding.{Decoding}
use Rattle.wm_session.specs.Served.{Served, stage}
use Rattle.wm_session.proofs.GoingLemmas.{ends_as}
use Rattle.wm_session.proofs.HearLemmas.{asked_between, between_broken}
use Rattle.wm_session.proofs.serving.turn.Goals as goal

pub returns-in_err-fault-clause-goes_on : goal.returns-in_err-fault-clause-goes_on
returns-in_err-fault-clause-goes_on g c = λ first b.
    let new = stage (g.D.Door.carried c.args.pass.now) (g.L.Link.told c.receive.new.link) (g.L.Link.faults c.receive.new.link) (g.B.Build.log c.args.build.now) in
    ends_as first new _ c.from_residual.result c.in_err-fault.field-0.0
    (c.in_err-fault.ensures.hears first (g.D.Door.carried c.args.pass.now) (g.B.Build.log c.args.build.now) c.args.teller.now.talk b)
    c.from_residual.ensures.1

pub returns-in_err-answer_all-clause-goes_on : goal.returns-in_err-answer_all-clause-goes_on
returns-in_err-answer_all-clause-goes_on g c = λ first b.
    let new = stage (g.D.Door.carried c.answer_all.new.pass) (g.L.Link.told c.answer_all.new.link) (g.L.Link.faults c.answer_all.new.link) (g.B.Build.log c.answer_all.new.build) in
    ends_as first new _ c.from_residual-in_err-answer_all.result c.in_err-answer_all.field-0.0
    (c.in_err-answer_all.ensures.goes_on first true (c.in_ok-fault.ensures.hears first (g.D.Door.carried c.args.pass.now) (g.B.Build.log c.args.build.now) c.args.teller.now.talk b))
    c.from_residual-in_err-answer_all.ensures.1

pub returns-in-Some-clause-goes_on : goal.returns-in-Some-clause-goes_on
returns-in-Some-clause-goes_on g c = λ first b.
    let new = stage (g.D.Door.carried c.answer_all.new.pass) (g.L.Link.told c.answer_all.new.link) (g.L.Link.faults c.answer_all.new.link) (g.B.Build.log c.answer_all.new.build) in
    let between = c.in_ok-answer_all.ensures.goes_on first true (c.in_ok-fault.ensures.hears first (g.D.Door.carried c.args.pass.now) (g.B.Build.log c.args.build.now) c.args.teller.now.talk b) in
    let none = ap {A = Decoding} (λ d. d.queue) c.in_ok-answer_all.ensures.decoder in
    let broken = ap {A = Decoding} (λ d. d.fault) c.in_ok-answer_all.ensures.decoder ∙ c.in_ok-fault.ensures.fault ∙ c.in-Some.is in
    subst (λ e. Served first new e) (sym c.broken.ensures) (between_broken first new c.answer_all.new.teller.talk c.answer_all.new.hearer.decoder c.in-Some.fault between none broken)

pub returns-in-None-clause-goes_on : goal.returns-in-None-clause-goes_on
returns-in-None-clause-goes_on g c = λ first b.
    let old = stage (g.D.Door.carried c.answer_all.new.pass) (g.L.Link.told c.answer_all.new.link) (g.L.Link.faults c.answer_all.new.link) (g.B.Build.log c.answer_all.new.build) in
    let new = stage (g.D.Door.carried c.ask_stop.new.pass) (g.L.Link.told c.ask_stop.new.link) (g.L.Link.faults c.ask_stop.new.link) (g.B.Build.log c.answer_all.new.build) in
    let between = c.in_ok-answer_all.ensures.goes_on first true (c.in_ok-fault.ensures.hears first (g.D.Door.carried c.args.pass.now) (g.B.Build.log c.args.build.now) c.args.teller.now.talk b) in
    let none = ap {A = Decoding} (λ d. d.queue) c.in_ok-answer_all.ensures.decoder in
    let whole = ap {A = Decoding} (λ d. d.fault) c.in_ok-answer_all.ensures.decoder ∙ c.in_ok-fault.ensures.fault ∙ c.in-None.is in
    asked_between first old new c.answer_all.new.teller.talk c.ask_stop.new.self.talk c.answer_all.new.hearer.decoder c.ask_stop.result between none whole
    (λ received stops fine going. c.ask_stop.ensures.asks first (g.B.Build.log c.answer_all.new.build) received stops fine going)
