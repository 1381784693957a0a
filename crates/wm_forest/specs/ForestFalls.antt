-- Each row below a row's first node has fewer nodes than the row.
use Rattle.std.specs.Prelude.{◌≤◌, Option, None, Some}
use Rattle.std.proofs.Common.{arith}
use Rattle.std.specs.declared.boxed.Box.{Box}
use Rattle.std.specs.declared.alloc.Global.{Global}
use Rattle.wm_forest.specs.declared.row.Cell.{Cell}
use Rattle.wm_forest.specs.declared.row.Row.TheInside.{Inside}
use Rattle.wm_forest.specs.declared.row.Row.TheDeep.{deep-Row}
use Rattle.wm_forest.specs.Forest.{node_count}
use Rattle.wm_forest.specs.Row.{row_from}

falls : (first : Option (Box Cell Global)) → deep-Row (record { first = first }) ≤ node_count (row_from first)
falls None = omega arith
falls (Some cell) = omega arith

-- no row inside has as many nodes
pub depth_le-node_count : (a : Inside) → deep-Row a ≤ node_count (row_from a.first)
depth_le-node_count a = falls a.first
