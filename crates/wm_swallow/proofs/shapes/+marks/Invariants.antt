use Rattle.std.proofs.Common.{◌≡◌, drop}
use Rattle.wm_swallow.specs.Limits.{is_overmarked}
use Rattle.wm_swallow.specs.SavedRows.{rows}
use Rattle.wm_swallow.proofs.shapes.+marks.Given as goal

-- one with too many is one of those that are left
abbrev pub invariant-is_overmarked-loop-node : goal.invariant-is_overmarked-loop-node
invariant-is_overmarked-loop-node l = is_overmarked (rows l.nodes) ≡ is_overmarked (rows (drop l.node-index l.nodes))
