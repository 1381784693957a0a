use Rattle.std.proofs.Common.{◌≡◌, length}
use Rattle.std.specs.List.{list_all}
use Rattle.wm_apply.specs.Commands.{runs_once}
use Rattle.wm_apply.proofs.quiet.are_idle.Given as goal

-- those left decide
abbrev pub invariant-loop-rest : goal.invariant-loop-rest
invariant-loop-rest l = list_all runs_once l.rest ≡ list_all runs_once l.commands

abbrev pub decreases-loop-rest : goal.decreases-loop-rest
decreases-loop-rest l = length l.rest
