use Rattle.std.proofs.Common.{◌≡◌, ◌≤◌}
use Rattle.wm_floats.specs.Fullscreen.{full_in}
use Rattle.wm_forest.specs.Forest.{node_count}
use Rattle.wm_floats.proofs.full.+full_in.Given as goal

abbrev pub decreases-full_in : goal.decreases-full_in
decreases-full_in l = node_count l.row

-- what is found in what is left of the row is what is found in the row
abbrev pub invariant-loop-part : goal.invariant-loop-part
invariant-loop-part l = record {
  left : node_count l.row ≤ node_count l.fn.row;
  there : full_in l.w l.con l.row ≡ full_in l.w l.con l.fn.row;
}

abbrev pub decreases-loop-part : goal.decreases-loop-part
decreases-loop-part l = node_count l.row
