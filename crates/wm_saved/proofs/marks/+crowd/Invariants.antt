use Rattle.std.proofs.Common.{◌≡◌, drop}
use Rattle.wm_saved.specs.Limits.{is_crowded}
use Rattle.wm_saved.proofs.marks.+crowd.Given as goal

-- a crowded one is one of those that are left
abbrev pub invariant-is_crowded-loop-node : goal.invariant-is_crowded-loop-node
invariant-is_crowded-loop-node l = is_crowded l.nodes ≡ is_crowded (drop l.node-index l.nodes)
