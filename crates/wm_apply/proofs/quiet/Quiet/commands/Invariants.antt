use Rattle.std.proofs.Common.{◌≡◌, true, length}
use Rattle.std.specs.List.{list_all}
use Rattle.wm_tree.specs.TreeValue.{TreeValue}
use Rattle.wm_apply.specs.declared.targets.Targets.{Targets}
use Rattle.wm_apply.specs.Batches.{commands_done}
use Rattle.wm_apply.specs.Commands.{runs_once}
use Rattle.wm_apply.specs.Quiet.{beside}
use Rattle.wm_apply.proofs.quiet.Quiet.commands.Given as goal

-- what is left leaves the tree alone too, and does what is still to be done
abbrev pub invariant-loop-rest : goal.invariant-loop-rest
invariant-loop-rest l = record {
  quiet : list_all runs_once l.rest ≡ true;
  done : (found : Targets) (t : TreeValue) → commands_done l.env found l.rest (beside t l.self) ≡ commands_done l.fn.env found l.fn.commands (beside t l.fn.self);
}

abbrev pub decreases-loop-rest : goal.decreases-loop-rest
decreases-loop-rest l = length l.rest
