use Rattle.std.proofs.Common.{◌≡◌}
use Rattle.wm_forest.specs.Forest.{node_count}
use Rattle.wm_spaces.specs.Names.{space_in_row}
use Rattle.wm_spaces.proofs.names.space_in_row.Given as goal

-- the first of what is left of the row is the first of the row
abbrev pub invariant-loop-part : goal.invariant-loop-part
invariant-loop-part l = space_in_row l.name l.row ≡ space_in_row l.name l.fn.row

abbrev pub decreases-loop-part : goal.decreases-loop-part
decreases-loop-part l = node_count l.row
