use Rattle.std.proofs.Common.{◌≡◌, drop}
use Rattle.wm_swallow.specs.SavedRows.{fits, rows}
use Rattle.wm_swallow.proofs.shapes.+depth.Given as goal

-- all fit where those that are left do
abbrev pub invariant-fits-loop-node : goal.invariant-fits-loop-node
invariant-fits-loop-node l = fits l.levels (rows l.nodes) ≡ fits l.levels (rows (drop l.node-index l.nodes))
