use Rattle.std.proofs.Common.{ap, arith, ◌∙◌, drop, length, subst, sym, take}
use Rattle.wm_clients.specs.Served.{stage}
use Rattle.wm_clients.specs.Serving.{Ends, IsFed}
use Rattle.wm_session.proofs.HearLemmas.{front_got}
use Rattle.wm_clients.proofs.HearLemmas.{hears_end, hears_failed, hears_got, hears_no_memory, hears_quiet}
use Rattle.wm_clients.proofs.hearing.Hearer.receive.Goals as goal

pub returns-in-Got-clause-hears : goal.returns-in-Got-clause-hears
returns-in-Got-clause-hears g c = λ first pass sent count b.
    hears_got first pass sent count c.args.self.now.cutter (g.L.Link.told c.args.link.now) (g.L.Link.told c.receive.new.self) (g.L.Link.faults c.args.link.now) (g.L.Link.faults c.receive.new.self) c.receive.new.room c.receive.ensures.grown b
    c.feed.new.cutter c.in-Got.count c.feed.result c.in-Got.ensures.told
    (subst (λ piece. IsFed c.args.self.now.cutter c.feed.new.cutter piece c.feed.result)
    (ap (λ xs. take c.in-Got.count xs) c.deref.ensures.value ∙ front_got c.in-Got.count c.args.self.now.room.len c.receive.new.room (drop (length c.receive.new.room) c.args.self.now.room.items) c.in-Got.ensures.within.1 (omega (arith, c.in-Got.ensures.within, c.receive.auto.room, c.deref_mut.ensures.len)))
    c.feed.ensures)

pub returns-in-Quiet-clause-hears : goal.returns-in-Quiet-clause-hears
returns-in-Quiet-clause-hears g c = λ first pass sent count b.
    hears_quiet first pass sent count c.args.self.now.cutter (g.L.Link.told c.args.link.now) (g.L.Link.told c.receive.new.self) (g.L.Link.faults c.args.link.now) (g.L.Link.faults c.receive.new.self) c.receive.new.room c.receive.ensures.grown b c.in-Quiet.ensures.told

pub returns-in-End-clause-hears : goal.returns-in-End-clause-hears
returns-in-End-clause-hears g c = λ first pass sent count b.
    subst (λ e. Ends first (stage pass (g.L.Link.told c.receive.new.self) (g.L.Link.faults c.receive.new.self)) e) (sym c.end.ensures)
    (hears_end first pass sent count c.args.self.now.cutter (g.L.Link.told c.args.link.now) (g.L.Link.told c.receive.new.self) (g.L.Link.faults c.args.link.now) (g.L.Link.faults c.receive.new.self) c.receive.new.room c.receive.ensures.grown b c.in-End.ensures.told c.requires.part)

pub returns-in-Failed-clause-hears : goal.returns-in-Failed-clause-hears
returns-in-Failed-clause-hears g c = λ first pass sent count b.
    hears_failed first pass sent count c.args.self.now.cutter (g.L.Link.told c.args.link.now) (g.L.Link.told c.receive.new.self) (g.L.Link.faults c.args.link.now) (g.L.Link.faults c.receive.new.self) c.receive.new.room c.receive.ensures.grown b c.in-Failed.ensures.told c.in-Failed.ensures.counted

pub returns-in-NoMemory-clause-hears : goal.returns-in-NoMemory-clause-hears
returns-in-NoMemory-clause-hears g c = λ first pass sent count b.
    hears_no_memory first pass sent count c.args.self.now.cutter (g.L.Link.told c.args.link.now) (g.L.Link.told c.receive.new.self) (g.L.Link.faults c.args.link.now) (g.L.Link.faults c.receive.new.self) c.receive.new.room c.receive.ensures.grown b c.in-NoMemory.ensures.told
