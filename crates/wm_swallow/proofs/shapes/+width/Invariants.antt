use Rattle.std.proofs.Common.{◌≡◌, drop}
use Rattle.wm_swallow.specs.SavedRows.{is_wide, rows}
use Rattle.wm_swallow.proofs.shapes.+width.Given as goal

-- a wide one is one of those that are left
abbrev pub invariant-is_wide-loop-node : goal.invariant-is_wide-loop-node
invariant-is_wide-loop-node l = is_wide (rows l.nodes) ≡ is_wide (rows (drop l.node-index l.nodes))
