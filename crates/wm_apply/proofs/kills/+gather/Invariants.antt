use Rattle.std.proofs.Common.{◌≡◌, ◌≤◌, ◌++◌}
use Rattle.wm_apply.specs.Kills.{windows_in}
use Rattle.wm_forest.specs.Forest.{node_count}
use Rattle.wm_apply.proofs.kills.+gather.Given as goal

abbrev pub decreases-gather : goal.decreases-gather
decreases-gather l = node_count l.row

abbrev pub decreases-loop-part : goal.decreases-loop-part
decreases-loop-part l = node_count l.row

-- those so far and those of what is left of the row are those of the row
abbrev pub invariant-loop-part : goal.invariant-loop-part
invariant-loop-part l = record {
  left : node_count l.row ≤ node_count l.fn.row;
  found : l.found.items ++ windows_in l.row ≡ l.initial.found.items ++ windows_in l.fn.row;
}
