use Rattle.std.proofs.Common.{◌≡◌, drop}
use Rattle.wm_saved.specs.Limits.{are_fit}
use Rattle.wm_saved.proofs.fit.+fit.Given as goal

-- all are fit where those that are left are
abbrev pub invariant-are_fit-loop-node : goal.invariant-are_fit-loop-node
invariant-are_fit-loop-node l = are_fit l.nodes ≡ are_fit (drop l.node-index l.nodes)
