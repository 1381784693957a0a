use Rattle.std.proofs.Common.{◌≡◌, ◌≤◌}
use Rattle.wm_focus.specs.Walks.{neighbour_at}
use Rattle.wm_forest.specs.Forest.{node_count}
use Rattle.wm_focus.proofs.moves.+neighbour_at.Given as goal

abbrev pub decreases-neighbour_at : goal.decreases-neighbour_at
decreases-neighbour_at l = node_count l.row

abbrev pub decreases-loop-part : goal.decreases-loop-part
decreases-loop-part l = node_count l.row

-- what is found in what is left of the row is what is found in the row
abbrev pub invariant-loop-part : goal.invariant-loop-part
invariant-loop-part l = record {
  left : node_count l.row ≤ node_count l.fn.row;
  found : neighbour_at l.d l.con l.parent l.row ≡ neighbour_at l.d l.con l.parent l.fn.row;
}
