use Rattle.std.proofs.Common.{◌≡◌, ◌≤◌}
use Rattle.wm_floats.specs.Rounds.{floats_at}
use Rattle.wm_forest.specs.Forest.{node_count}
use Rattle.wm_floats.proofs.rounds.+floats_at.Given as goal

abbrev pub decreases-floats_at : goal.decreases-floats_at
decreases-floats_at l = node_count l.row

-- what is found in what is left of the row is what is found in the row
abbrev pub invariant-loop-part : goal.invariant-loop-part
invariant-loop-part l = record {
  left : node_count l.row ≤ node_count l.fn.row;
  there : floats_at l.w l.row ≡ floats_at l.w l.fn.row;
}

abbrev pub decreases-loop-part : goal.decreases-loop-part
decreases-loop-part l = node_count l.row
