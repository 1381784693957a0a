use Rattle.std.proofs.Common.{◌≡◌, ◌+◌, ◌≤◌, ◌++◌}
use Rattle.wm_forest.specs.Counts.{row_length}
use Rattle.wm_forest.specs.Forest.{node_count}
use Rattle.wm_arrange.specs.Scene.{seen}
use Rattle.wm_arrange.specs.Slots.{line_at, FitsLines, IsTiledRow}
use Rattle.wm_arrange.specs.Titles.{titles}
use Rattle.wm_arrange.proofs.titles.place_titles.Given as goal

-- the titles so far and those of the rest are those of all
abbrev pub invariant-loop-part : goal.invariant-loop-part
invariant-loop-part l = record {
  placed : l.parts.items ++ titles (seen l.scene) (line_at l.lines l.area) l.i l.left ≡ l.initial.parts.items ++ titles (seen l.scene) (line_at l.lines l.area) 0 l.fn.row;
  few : l.i + row_length l.left ≤ 256;
  sound : IsTiledRow l.left;
  fit : FitsLines l.lines (l.i + row_length l.left);
}

abbrev pub decreases-loop-part : goal.decreases-loop-part
decreases-loop-part l = node_count l.left
