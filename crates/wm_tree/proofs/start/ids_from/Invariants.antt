use Rattle.std.proofs.Common.{◌≡◌, ◌+◌, ◌++◌, length}
use Rattle.wm_tree.specs.TreeValue.{ids_from}
use Rattle.wm_tree.proofs.start.ids_from.Given as goal

-- the ids so far, and those of the plans that are left
abbrev pub invariant-loop-rest : goal.invariant-loop-rest
invariant-loop-rest l = record {
  counted : l.next + length l.rest ≡ l.n + length l.plans;
  made : l.ids.items ++ ids_from l.next l.rest ≡ ids_from l.n l.plans;
}

abbrev pub decreases-loop-rest : goal.decreases-loop-rest
decreases-loop-rest l = length l.rest
