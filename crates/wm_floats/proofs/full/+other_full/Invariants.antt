use Rattle.std.proofs.Common.{◌≡◌, ◌≤◌}
use Rattle.wm_floats.specs.Fullscreen.{other_full}
use Rattle.wm_forest.specs.Forest.{node_count}
use Rattle.wm_floats.proofs.full.+other_full.Given as goal

abbrev pub decreases-other_full : goal.decreases-other_full
decreases-other_full l = node_count l.row

-- what is found in what is left of the row is what is found in the row
abbrev pub invariant-loop-part : goal.invariant-loop-part
invariant-loop-part l = record {
  left : node_count l.row ≤ node_count l.fn.row;
  there : other_full l.con l.row ≡ other_full l.con l.fn.row;
}

abbrev pub decreases-loop-part : goal.decreases-loop-part
decreases-loop-part l = node_count l.row
