use Rattle.std.proofs.Common.{◌≡◌, ◌≤◌, ◌+◌, ◌*◌}
use Rattle.wm_forest.specs.Focus.{leaf_at}
use Rattle.wm_forest.specs.Forest.{node_count}
use Rattle.wm_forest.proofs.row.+leaf.Given as goal

-- a cell before the row of its children, and a row before its cells
abbrev pub decreases-Cell::leaf : goal.decreases-Cell::leaf
decreases-Cell::leaf l = 2 * node_count l.self.now.kids + 1

abbrev pub decreases-Row::leaf_at : goal.decreases-Row::leaf_at
decreases-Row::leaf_at l = 2 * node_count l.self.now

-- the leaf from what is left of the row is the leaf from the row
abbrev pub invariant-Row::leaf_at-loop-row : goal.invariant-Row::leaf_at-loop-row
invariant-Row::leaf_at-loop-row l = record {
  left : node_count l.row ≤ node_count l.self;
  whole : leaf_at l.recency l.row l.id ≡ leaf_at l.recency l.self l.id;
}
