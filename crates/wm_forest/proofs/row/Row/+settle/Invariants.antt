use Rattle.std.proofs.Common.{◌≡◌, ◌≤◌}
use Rattle.wm_forest.specs.Change.{append, settled_row}
use Rattle.wm_forest.specs.Forest.{node_count}
use Rattle.wm_forest.specs.Counts.{row_length}
use Rattle.wm_forest.specs.Passing.{kept_onto, taken_onto}
use Rattle.wm_forest.specs.Settle.{vacant_in, vacated}
use Rattle.wm_forest.proofs.row.Row.+settle.Given as goal

abbrev pub decreases-settle : goal.decreases-settle
decreases-settle l = node_count l.self.now

-- what was settled below, before what is left of the row settled, is the row settled
abbrev pub invariant-loop-cell : goal.invariant-loop-cell
invariant-loop-cell l = record {
  left : node_count l.self ≤ node_count l.fn.self;
  kept : kept_onto (vacant_in l.shown) l.done (settled_row l.shown l.self) ≡ settled_row l.fn.shown l.fn.self;
  taken : taken_onto (vacant_in l.shown) l.done (append (vacated l.shown l.self) l.gone) ≡ append (vacated l.fn.shown l.fn.self) l.fn.gone;
}

abbrev pub decreases-loop-cell : goal.decreases-loop-cell
decreases-loop-cell l = row_length l.self
