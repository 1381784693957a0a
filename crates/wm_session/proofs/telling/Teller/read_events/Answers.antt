use Rattle.std.proofs.Common.{[], subst, sym, ◌∙◌, arith}
use Rattle.wm_session.specs.Served.{stage}
use Rattle.wm_session.specs.Telling.{Tells, wire}
use Rattle.wm_session.specs.declared.ending.SessionEnd.TheVariants as end
use Rattle.wm_session.proofs.GoingLemmas.{ends_as, going_no_further, grew_none, served_no_memory, tells_on}
use Rattle.wm_session.proofs.telling.Teller.read_events.Goals as goal

pub returns-in_err-view-clause-reads : goal.returns-in_err-view-clause-reads
returns-in_err-view-clause-reads g c = λ first log s talk due kept asks h.
    let old = stage (g.D.Door.carried c.args.pass.now) (g.L.Link.told c.args.link.now) (g.L.Link.faults c.args.link.now) log in
    let new = stage (g.D.Door.carried c.look.new.pass) (g.L.Link.told c.args.link.now) (g.L.Link.faults c.args.link.now) log in
    ends_as first new _ c.from_residual.result end.NoMemory
    (served_no_memory first new s (going_no_further first old s (g.D.Door.carried c.look.new.pass) (g.L.Link.faults c.args.link.now) log [] h c.in_err-view.ensures.looks (grew_none log) (omega arith)) asks)
    c.from_residual.ensures.1

pub returns-clause-reads : goal.returns-clause-reads
returns-clause-reads g c = λ first log s talk due kept asks h.
    let old = stage (g.D.Door.carried c.args.pass.now) (g.L.Link.told c.args.link.now) (g.L.Link.faults c.args.link.now) log in
    tells_on first old s (g.D.Door.carried c.look.new.pass) (g.L.Link.told c.tell-told.new.link) (g.L.Link.faults c.tell-told.new.link) c.in-Some.above c.in_ok-view.view c.tell-told.new.self.talk c.tell-told.result
    h (due ∙ sym c.above.ensures ∙ c.in-Some.is) kept asks c.in_ok-view.ensures.looks
    (subst (λ t. Tells c.in_ok-view.view t c.tell-told.new.self.talk (wire old.link old.faults) (wire (g.L.Link.told c.tell-told.new.link) (g.L.Link.faults c.tell-told.new.link)) c.tell-told.result) (sym talk) c.tell-told.ensures)
