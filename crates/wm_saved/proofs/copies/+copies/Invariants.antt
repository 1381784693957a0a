use Rattle.std.proofs.Common.{◌≡◌, take}
use Rattle.wm_saved.proofs.copies.+copies.Given as goal

-- the nodes so far
abbrev pub invariant-copy_nodes-loop-node : goal.invariant-copy_nodes-loop-node
invariant-copy_nodes-loop-node l = l.copy.items ≡ take l.node-index l.nodes
