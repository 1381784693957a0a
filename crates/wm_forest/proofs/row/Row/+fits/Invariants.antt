use Rattle.std.proofs.Common.{◌≡◌, ◌≤◌}
use Rattle.wm_forest.specs.Forest.{node_count}
use Rattle.wm_forest.specs.Spot.{fits}
use Rattle.wm_forest.proofs.row.Row.+fits.Given as goal

abbrev pub decreases-fits : goal.decreases-fits
decreases-fits l = node_count l.self.now

-- what is left of the row fits where the row does
abbrev pub invariant-loop-row : goal.invariant-loop-row
invariant-loop-row l = record {
  left : node_count l.row ≤ node_count l.self;
  whole : fits l.room l.row ≡ fits l.room l.self;
}
