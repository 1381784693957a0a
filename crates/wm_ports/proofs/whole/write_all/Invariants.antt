use Rattle.std.proofs.Common.{◌-◌, ◌≤◌, length, take}
use Rattle.wm_ports.specs.Told.{TakesAll}
use Rattle.wm_ports.proofs.whole.write_all.Given as goal

abbrev pub invariant-loop-at : goal.invariant-loop-at
invariant-loop-at g l =
    (l.at ≤ length l.bytes)
    × TakesAll (g.W.Sink.taken l.initial.sink) (g.W.Sink.taken l.sink) (take l.at l.bytes)
    × (g.W.Sink.faults l.initial.sink ≤ g.W.Sink.faults l.sink)

abbrev pub decreases-loop-at : goal.decreases-loop-at
decreases-loop-at g l = length l.bytes - l.at
