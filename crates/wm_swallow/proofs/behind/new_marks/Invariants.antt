use Rattle.std.proofs.Common.{◌≡◌, ◌+◌, ◌≤◌, ◌++◌, length}
use Rattle.wm_swallow.specs.Behind.{behind_marks}
use Rattle.wm_swallow.specs.Limits.{different, is_held}
use Rattle.wm_swallow.specs.SavedRows.{all_marks, row_below}
use Rattle.wm_swallow.proofs.behind.new_marks.Given as goal

-- those that were counted and those that are left make the whole
abbrev pub invariant-loop-rest : goal.invariant-loop-rest
invariant-loop-rest l = record {
  counted :
      l.count + different (is_held l.tree.nodes) (l.rest ++ (all_marks (row_below l.kind) ++ behind_marks l.behind))
      ≡ different (is_held l.tree.nodes) (l.marks ++ (all_marks (row_below l.kind) ++ behind_marks l.behind));
  few : l.count + length l.rest ≤ length l.marks;
}

abbrev pub decreases-loop-rest : goal.decreases-loop-rest
decreases-loop-rest l = length l.rest
