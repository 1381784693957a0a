use Rattle.std.proofs.Common.{◌-◌, ◌≤◌, length, take}
use Rattle.wm_ports.specs.Linking.{SendsAll}
use Rattle.wm_ports.proofs.sending.send_all.Given as goal

abbrev pub invariant-loop-at : goal.invariant-loop-at
invariant-loop-at g l =
    (l.at ≤ length l.bytes)
    × SendsAll (g.L.Link.told l.initial.link) (g.L.Link.told l.link) (take l.at l.bytes)
    × (g.L.Link.faults l.initial.link ≤ g.L.Link.faults l.link)

abbrev pub decreases-loop-at : goal.decreases-loop-at
decreases-loop-at g l = length l.bytes - l.at
