use Rattle.std.proofs.Common.{true}
use Rattle.wm_clients.specs.Served.{stage}
use Rattle.wm_clients.specs.declared.ending.ClientEnd.TheVariants as end
use Rattle.wm_clients.proofs.EndLemmas.{ends_as, ends_no_memory, tells_from}
use Rattle.wm_clients.proofs.GoingLemmas.{going_part, going_saw}
use Rattle.wm_clients.proofs.telling.Teller.read_wants.Goals as goal

pub returns-in_err-view-clause-reads : goal.returns-in_err-view-clause-reads
returns-in_err-view-clause-reads g c = λ first s sent due asks h.
    let old = stage (g.D.Door.carried c.args.pass.now) (g.L.Link.told c.args.link.now) (g.L.Link.faults c.args.link.now) in
    let new = stage (g.D.Door.carried c.look.new.pass) (g.L.Link.told c.args.link.now) (g.L.Link.faults c.args.link.now) in
    ends_as first new _ c.from_residual.result end.NoMemory
    (ends_no_memory first new s (going_part first new s (going_saw true first old s (g.D.Door.carried c.look.new.pass) h c.in_err-view.ensures.looks)) asks)
    c.from_residual.ensures.1

pub returns-clause-reads : goal.returns-clause-reads
returns-clause-reads g c = λ first s sent due asks h.
    let old = stage (g.D.Door.carried c.args.pass.now) (g.L.Link.told c.args.link.now) (g.L.Link.faults c.args.link.now) in
    tells_from first old s c.args.self.now.sent (g.D.Door.carried c.look.new.pass) (g.L.Link.told c.tell-told.new.link) (g.L.Link.faults c.tell-told.new.link) c.in_ok-view.view c.tell-told.new.self.sent c.tell-told.result
    h sent due asks c.in_ok-view.ensures.looks c.tell-told.ensures.tells
