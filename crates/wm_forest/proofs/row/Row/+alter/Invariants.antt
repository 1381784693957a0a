use Rattle.std.proofs.Common.{◌≡◌, ◌≤◌, ◌+◌, ◌*◌}
use Rattle.wm_forest.specs.Change.{at}
use Rattle.wm_forest.specs.Forest.{node_count}
use Rattle.wm_forest.specs.Counts.{row_length}
use Rattle.wm_forest.specs.Look.{has, only}
use Rattle.wm_forest.specs.Passing.{onto}
use Rattle.wm_forest.proofs.row.Row.+alter.Given as goal

-- the row before its first node, and that before the rows below it
abbrev pub decreases-alter : goal.decreases-alter
decreases-alter g l = 2 * node_count l.self.now + 1

abbrev pub decreases-alter_first : goal.decreases-alter_first
decreases-alter_first g l = 2 * node_count l.self.now

-- nothing is changed yet, and the node in what is left of the row is the node in the row
abbrev pub invariant-alter-loop-id : goal.invariant-alter-loop-id
invariant-alter-loop-id g l = record {
  left : node_count l.self ≤ node_count l.fn.self;
  same : l.change ≡ l.fn.change;
  there : has l.id l.self ≡ has l.fn.id l.fn.self;
  node : only l.id l.self ≡ only l.fn.id l.fn.self;
  whole : onto l.done l.self ≡ l.fn.self;
  made : onto l.done (at l.id g.C.Change.word l.change l.self) ≡ at l.fn.id g.C.Change.word l.fn.change l.fn.self;
}

abbrev pub decreases-alter-loop-id : goal.decreases-alter-loop-id
decreases-alter-loop-id g l = row_length l.self
