use Rattle.std.proofs.Common.{◌≡◌, ◌≤◌, ◌+◌, ◌*◌}
use Rattle.wm_forest.specs.Forest.{node_count}
use Rattle.wm_forest.specs.Passing.{onto}
use Rattle.wm_forest.proofs.row.+copy.Given as goal

-- a cell before the rows below it, and a row before its cells
abbrev pub decreases-Cell::copied : goal.decreases-Cell::copied
decreases-Cell::copied l = 2 * (node_count l.self.now.kids + node_count l.self.now.floats) + 1

abbrev pub decreases-Row::copy : goal.decreases-Row::copy
decreases-Row::copy l = 2 * node_count l.self.now

-- the copies so far before what is left of the row, are the row
abbrev pub invariant-Row::copy-loop-row : goal.invariant-Row::copy-loop-row
invariant-Row::copy-loop-row l = record {
  left : node_count l.row ≤ node_count l.self;
  whole : onto l.done l.row ≡ l.self;
}
