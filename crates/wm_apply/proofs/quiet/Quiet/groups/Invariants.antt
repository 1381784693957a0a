use Rattle.std.proofs.Common.{◌≡◌, true, length, Option}
use Rattle.wm_base.specs.declared.ids.ConId.{ConId}
use Rattle.wm_tree.specs.TreeValue.{TreeValue}
use Rattle.wm_apply.specs.Batches.{groups_done}
use Rattle.wm_apply.specs.Quiet.{beside, is_quiet}
use Rattle.wm_apply.proofs.quiet.Quiet.groups.Given as goal

-- what is left leaves the tree alone too, and does what is still to be done
abbrev pub invariant-loop-rest : goal.invariant-loop-rest
invariant-loop-rest l = record {
  quiet : is_quiet l.rest ≡ true;
  done : (subject : Option ConId) (t : TreeValue) → groups_done l.env subject l.rest (beside t l.self) ≡ groups_done l.fn.env subject l.fn.groups (beside t l.fn.self);
}

abbrev pub decreases-loop-rest : goal.decreases-loop-rest
decreases-loop-rest l = length l.rest
