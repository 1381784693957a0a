use Rattle.std.proofs.Common.{◌≡◌, length}
use Rattle.wm_apply.specs.Quiet.{is_quiet}
use Rattle.wm_apply.proofs.quiet.are_quiet.Given as goal

-- those left decide
abbrev pub invariant-loop-rest : goal.invariant-loop-rest
invariant-loop-rest l = is_quiet l.rest ≡ is_quiet l.groups

abbrev pub decreases-loop-rest : goal.decreases-loop-rest
decreases-loop-rest l = length l.rest
