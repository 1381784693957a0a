use Rattle.std.proofs.Common.{◌≡◌, ◌+◌, ◌≤◌}
use Rattle.wm_forest.specs.Counts.{count}
use Rattle.wm_forest.specs.Forest.{node_count}
use Rattle.wm_history.specs.Windows.{window_part}
use Rattle.wm_history.proofs.counting.+count.Given as goal

abbrev pub decreases-count : goal.decreases-count
decreases-count l = node_count l.row

-- the windows so far and those of the rest are those of all
abbrev pub invariant-loop-part : goal.invariant-loop-part
invariant-loop-part l = record {
  left : node_count l.left ≤ node_count l.fn.row;
  sum : l.n + count window_part l.left ≡ count window_part l.fn.row;
}

abbrev pub decreases-loop-part : goal.decreases-loop-part
decreases-loop-part l = node_count l.left
