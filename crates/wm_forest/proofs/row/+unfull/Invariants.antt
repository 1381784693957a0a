use Rattle.std.proofs.Common.{◌≡◌, ◌≤◌, ◌+◌, ◌*◌}
use Rattle.wm_forest.specs.Change.{unfull}
use Rattle.wm_forest.specs.Forest.{node_count}
use Rattle.wm_forest.specs.Counts.{row_length}
use Rattle.wm_forest.specs.Passing.{onto}
use Rattle.wm_forest.proofs.row.+unfull.Given as goal

-- a cell before the rows below it, and a row before its cells
abbrev pub decreases-Cell::clear_fullscreen : goal.decreases-Cell::clear_fullscreen
decreases-Cell::clear_fullscreen l = 2 * (node_count l.self.now.kids + node_count l.self.now.floats) + 1

abbrev pub decreases-Row::clear_fullscreen : goal.decreases-Row::clear_fullscreen
decreases-Row::clear_fullscreen l = 2 * node_count l.self.now

-- what was changed, before what is left of the row changed, is the row changed
abbrev pub invariant-Row::clear_fullscreen-loop-cell : goal.invariant-Row::clear_fullscreen-loop-cell
invariant-Row::clear_fullscreen-loop-cell l = record {
  left : node_count l.self ≤ node_count l.fn.self;
  whole : onto l.done (unfull l.id l.self) ≡ unfull l.fn.id l.fn.self;
}

abbrev pub decreases-Row::clear_fullscreen-loop-cell : goal.decreases-Row::clear_fullscreen-loop-cell
decreases-Row::clear_fullscreen-loop-cell l = row_length l.self
