use Rattle.std.proofs.Common.{Some, ap}
use Rattle.wm_ports.proofs.ListenLemmas.{now-after, numbers-after}
use Rattle.wm_ports.proofs.clock_memory.StepClockClock.now_ms.Goals as goal

pub invariant_of-self : goal.invariant_of-self
invariant_of-self c =
    rw c.saturating_add-self-inside.ensures
    (now-after c.self.inside.first c.self.inside.add c.self.inside.calls c.saturating_add-self-inside-2.result c.self.inside.now
    c.saturating_add-self-inside-2.ensures c.self.invariant)

pub returns-clause-told : goal.returns-clause-told
returns-clause-told c =
    rw (← c.self.view_is)
    (ap Some (numbers-after c.self.inside.first c.self.inside.add c.self.inside.calls c.saturating_add-self-inside-2.result c.self.inside.now
    c.saturating_add-self-inside-2.ensures c.self.invariant))
