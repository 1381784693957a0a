use Rattle.std.proofs.Common.{refl, arith}
use Rattle.wm_ports.specs.ListenMemory.{number_after}
use Rattle.wm_ports.proofs.clock_memory.StepClock.new.Goals as goal

pub invariant_of-result : goal.invariant_of-result
unfolding number_after
invariant_of-result c = record { within = omega arith; is = λ _. refl }
