use Rattle.std.proofs.Common.{◌≡◌, ◌++◌, length}
use Rattle.wm_ports.proofs.listen_memory.copies.Given as goal

abbrev pub invariant-loop-rest : goal.invariant-loop-rest
invariant-loop-rest l = l.copies.items ++ l.rest ≡ l.links

abbrev pub decreases-loop-rest : goal.decreases-loop-rest
decreases-loop-rest l = length l.rest
