use Rattle.std.proofs.Common.{◌≡◌, ◌≤◌}
use Rattle.std.specs.Option.{option_or}
use Rattle.wm_apply.specs.Kills.{row_at}
use Rattle.wm_arrange.specs.Maps.{value_at}
use Rattle.wm_base.specs.declared.ids.ConId.{ConId}
use Rattle.wm_forest.specs.Forest.{node_count}
use Rattle.wm_apply.proofs.finding.+add_rows.Given as goal

abbrev pub decreases-add_rows : goal.decreases-add_rows
decreases-add_rows l = node_count l.row

abbrev pub decreases-loop-part : goal.decreases-loop-part
decreases-loop-part l = node_count l.left

-- what the map has, or else what is left of the row, is as at first
abbrev pub invariant-loop-part : goal.invariant-loop-part
invariant-loop-part l = record {
  left : node_count l.left ≤ node_count l.fn.row;
  found : (c : ConId) → option_or (value_at l.rows c) (row_at c l.left) ≡ option_or (value_at l.initial.rows c) (row_at c l.fn.row);
}
