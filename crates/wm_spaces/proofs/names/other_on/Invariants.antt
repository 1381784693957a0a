use Rattle.std.proofs.Common.{◌≡◌}
use Rattle.wm_forest.specs.Forest.{node_count}
use Rattle.wm_spaces.specs.Names.{other_on}
use Rattle.wm_spaces.proofs.names.other_on.Given as goal

-- what is left of the row has another one where the row has one
abbrev pub invariant-outputs : goal.invariant-outputs
invariant-outputs l = other_on l.w l.name l.row ≡ other_on l.w l.name l.fn.row

abbrev pub decreases-outputs : goal.decreases-outputs
decreases-outputs l = node_count l.row
