use Rattle.std.proofs.Common.{◌≡◌, length}
use Rattle.wm_script.specs.Lines.{is_blank}
use Rattle.wm_script.proofs.reading.is_blank.Given as goal

-- what is left is of spaces alone where all of it is
abbrev pub invariant-loop-rest : goal.invariant-loop-rest
invariant-loop-rest l = record { left : is_blank l.rest ≡ is_blank l.text }

abbrev pub decreases-loop-rest : goal.decreases-loop-rest
decreases-loop-rest l = length l.rest
