-- A node holds others among its children or floating windows.
use Rattle.std.specs.Prelude.{Bool, ◌||◌}
use Rattle.wm_base.specs.declared.ids.ConId.{ConId}
use Rattle.wm_forest.specs.Forest.{Forest}
use Rattle.wm_forest.specs.Look.{first_floats, first_kids, in_row, only}

-- c is a child or a floating window of the node p
abbrev pub is_held : ConId → ConId → Forest → Bool
is_held c p forest = in_row c (first_kids (only p forest)) || in_row c (first_floats (only p forest))
