use Rattle.std.proofs.Common.{◌≡◌, ◌≤◌}
use Rattle.wm_forest.specs.Each.{mapped}
use Rattle.wm_forest.specs.Forest.{node_count}
use Rattle.wm_forest.specs.Counts.{row_length}
use Rattle.wm_forest.specs.Passing.{onto}
use Rattle.wm_forest.proofs.row.Row.+change_each.Given as goal

-- a row before those below it
abbrev pub decreases-change_each : goal.decreases-change_each
decreases-change_each g l = node_count l.self.now

-- what was changed, before what is left of the row changed, is the row changed
abbrev pub invariant-loop-cell : goal.invariant-loop-cell
invariant-loop-cell g l = record {
  left : node_count l.self ≤ node_count l.fn.self;
  whole : onto l.done (mapped (g.E.EachPart.word l.change) l.self) ≡ mapped (g.E.EachPart.word l.fn.change) l.fn.self;
}

abbrev pub decreases-loop-cell : goal.decreases-loop-cell
decreases-loop-cell g l = row_length l.self
