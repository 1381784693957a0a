use Rattle.std.proofs.Common.{None, [], inl, refl, subst, suc, true}
use Rattle.wm_session.specs.Served.{stage}
use Rattle.wm_session.specs.Serving.{Going, free_spot}
use Rattle.wm_session.specs.declared.ending.SessionEnd.TheVariants as end
use Rattle.wm_talk.specs.Talking.{above_of}
use Rattle.wm_session.proofs.GoingLemmas.{ends_as, going_asked, served_at}
use Rattle.wm_session.proofs.telling.Teller.ask_stop.Goals as goal

pub returns-in_err-read_events-clause-asks : goal.returns-in_err-read_events-clause-asks
returns-in_err-read_events-clause-asks g c = λ first log received stops whole h.
    let old = stage (g.D.Door.carried c.args.pass.now) (g.L.Link.told c.args.link.now) (g.L.Link.faults c.args.link.now) log in
    let new = stage (g.D.Door.carried c.read_events.new.pass) (g.L.Link.told c.read_events.new.link) (g.L.Link.faults c.read_events.new.link) log in
    let spot = free_spot c.args.self.now.talk received [] (suc stops) stops in
    ends_as first new _ c.from_residual.result c.in_err-read_events.field-0.0
    (c.in_err-read_events.ensures.reads first log (record spot { due = above_of spot.talk; stopping = c.stopped-stopped.result; stops = suc stops }) refl refl refl (inl refl)
    (going_asked first old spot (g.D.Door.carried c.stopped-stopped.new.pass) c.stopped-stopped.result h refl refl refl c.stopped-stopped.ensures.looked))
    c.from_residual.ensures.1

pub returns-then-stopped-clause-asks : goal.returns-then-stopped-clause-asks
returns-then-stopped-clause-asks g c = λ first log received stops whole h.
    let old = stage (g.D.Door.carried c.args.pass.now) (g.L.Link.told c.args.link.now) (g.L.Link.faults c.args.link.now) log in
    let new = stage (g.D.Door.carried c.read_events.new.pass) (g.L.Link.told c.read_events.new.link) (g.L.Link.faults c.read_events.new.link) log in
    let spot = free_spot c.args.self.now.talk received [] (suc stops) stops in
    let asked = record spot { due = above_of spot.talk; stopping = c.stopped-stopped.result; stops = suc stops } in
    served_at first new (record asked { talk = c.read_events.new.self.talk; due = None }) end.Stopped
    (c.in_ok-read_events.ensures.reads first log asked refl refl refl (inl refl)
    (going_asked first old spot (g.D.Door.carried c.stopped-stopped.new.pass) c.stopped-stopped.result h refl refl refl c.stopped-stopped.ensures.looked))
    refl (λ told. (refl, refl, refl, c.if-stopped.true, whole))

pub returns-clause-asks : goal.returns-clause-asks
returns-clause-asks g c = λ first log received stops whole h.
    let old = stage (g.D.Door.carried c.args.pass.now) (g.L.Link.told c.args.link.now) (g.L.Link.faults c.args.link.now) log in
    let new = stage (g.D.Door.carried c.read_events.new.pass) (g.L.Link.told c.read_events.new.link) (g.L.Link.faults c.read_events.new.link) log in
    let spot = free_spot c.args.self.now.talk received [] (suc stops) stops in
    let asked = record spot { due = above_of spot.talk; stopping = c.stopped-stopped.result; stops = suc stops } in
    subst (λ stopping. Going true first new (record asked { talk = c.read_events.new.self.talk; due = None; stopping = stopping })) c.if-stopped.false
    (c.in_ok-read_events.ensures.reads first log asked refl refl refl (inl refl)
    (going_asked first old spot (g.D.Door.carried c.stopped-stopped.new.pass) c.stopped-stopped.result h refl refl refl c.stopped-stopped.ensures.looked))
