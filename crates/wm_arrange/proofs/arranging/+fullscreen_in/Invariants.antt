use Rattle.std.proofs.Common.{◌≡◌, ◌≤◌}
use Rattle.wm_forest.specs.Forest.{node_count}
use Rattle.wm_arrange.specs.Arranged.{fullscreen_in}
use Rattle.wm_arrange.proofs.arranging.+fullscreen_in.Given as goal

abbrev pub decreases-fullscreen_in : goal.decreases-fullscreen_in
decreases-fullscreen_in l = node_count l.row

-- the first fullscreen window of the rest is that of all
abbrev pub invariant-loop-part : goal.invariant-loop-part
invariant-loop-part l = record {
  left : node_count l.left ≤ node_count l.fn.row;
  there : fullscreen_in l.left ≡ fullscreen_in l.fn.row;
}

abbrev pub decreases-loop-part : goal.decreases-loop-part
decreases-loop-part l = node_count l.left
