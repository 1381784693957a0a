use Rattle.std.proofs.Common.{◌≡◌}
use Rattle.wm_forest.specs.Forest.{node_count}
use Rattle.wm_spaces.specs.Names.{space_on}
use Rattle.wm_spaces.proofs.names.space_on.Given as goal

-- the first on what is left of the row is the first on the row
abbrev pub invariant-outputs : goal.invariant-outputs
invariant-outputs l = space_on l.name l.row ≡ space_on l.name l.fn.row

abbrev pub decreases-outputs : goal.decreases-outputs
decreases-outputs l = node_count l.row
