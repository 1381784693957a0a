use Rattle.std.proofs.Common.{inl, not, refl, suc, sym, ap}
use Rattle.wm_clients.specs.Served.{stage}
use Rattle.wm_clients.specs.Serving.{free_spot}
use Rattle.wm_clients.proofs.EndLemmas.{asked_as, ends_stopped}
use Rattle.wm_clients.proofs.GoingLemmas.{going_asked}
use Rattle.wm_clients.proofs.telling.Teller.ask_stop.Goals as goal

pub returns-then-stopped-clause-asks : goal.returns-then-stopped-clause-asks
returns-then-stopped-clause-asks g c = λ first received pending stops part h.
    let old = stage (g.D.Door.carried c.args.pass.now) (g.L.Link.told c.args.link.now) (g.L.Link.faults c.args.link.now) in
    let pass = g.D.Door.carried c.stopped.new.pass in
    let spot = free_spot c.args.self.now.sent c.args.self.now.lines received pending (suc stops) stops in
    ends_stopped first (stage pass old.link old.faults) (record spot { due = not c.stopped.result; stopping = c.stopped.result; stops = suc stops })
    (going_asked first old spot pass c.stopped.result h refl refl c.stopped.ensures.looked) part (ap not c.if-stopped.true) c.if-stopped.true refl

pub returns-clause-asks : goal.returns-clause-asks
returns-clause-asks g c = λ first received pending stops part h.
    let old = stage (g.D.Door.carried c.args.pass.now) (g.L.Link.told c.args.link.now) (g.L.Link.faults c.args.link.now) in
    let pass = g.D.Door.carried c.stopped.new.pass in
    let new = stage (g.D.Door.carried c.read_wants.new.pass) (g.L.Link.told c.read_wants.new.link) (g.L.Link.faults c.read_wants.new.link) in
    let spot = free_spot c.args.self.now.sent c.args.self.now.lines received pending (suc stops) stops in
    let asked = record spot { due = not c.stopped.result; stopping = c.stopped.result; stops = suc stops } in
    asked_as first new c.read_wants.result c.read_wants.new.self.sent received pending stops c.stopped.result _ _ (sym c.read_wants.ensures.lines) c.if-stopped.false
    (c.read_wants.ensures.reads first asked refl (ap not c.if-stopped.false) (inl refl)
    (going_asked first old spot pass c.stopped.result h refl refl c.stopped.ensures.looked))
