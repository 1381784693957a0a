-- What a row of cells is seen as.
use Rattle.std.specs.Prelude.{Option, None, Some}
use Rattle.std.specs.declared.boxed.Box.{Box}
use Rattle.std.specs.declared.alloc.Global.{Global}
use Rattle.wm_forest.specs.declared.row.Cell.{Cell}
use Rattle.wm_forest.specs.Forest.{Forest, end, con}

-- a cell seen as the row that it begins
abbrev pub row_from : Option (Box Cell Global) → Forest
row_from None = end
row_from (Some cell) = con cell.value.part cell.value.kids cell.value.floats cell.value.rest

-- a cell seen as a row of its node alone
abbrev pub alone : Cell → Forest
alone cell = con cell.part cell.kids cell.floats end

-- a cell seen as the row that it begins
abbrev pub row_of : Cell → Forest
row_of cell = con cell.part cell.kids cell.floats cell.rest
