use Rattle.std.proofs.Common.{◌≡◌, map}
use Rattle.wm_serve.specs.Callers.{link_at}
use Rattle.wm_serve.specs.Once.{fresh}
use Rattle.wm_serve.specs.Running.{numbers}
use Rattle.wm_serve.proofs.callers.rehearsed_doors.Given as goal

abbrev pub invariant-loop-door : goal.invariant-loop-door
invariant-loop-door l = l.doors.items ≡ map fresh (map (link_at l.n) (numbers 0 l.door))
