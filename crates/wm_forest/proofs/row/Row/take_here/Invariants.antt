use Rattle.std.proofs.Common.{◌≡◌}
use Rattle.wm_forest.specs.Counts.{but, row_length}
use Rattle.wm_forest.specs.Look.{node_in}
use Rattle.wm_forest.specs.Passing.{onto}
use Rattle.wm_forest.proofs.row.Row.take_here.Given as goal

-- the node in what is left of the row is the node in the row, and the others stand before it and behind it
abbrev pub invariant-loop-self : goal.invariant-loop-self
invariant-loop-self l = record {
  node : node_in l.id l.self ≡ node_in l.fn.id l.fn.self;
  others : onto l.done (but l.id l.self) ≡ but l.fn.id l.fn.self;
}

abbrev pub decreases-loop-self : goal.decreases-loop-self
decreases-loop-self l = row_length l.self
