use Rattle.std.proofs.Common.{◌≡◌, cond}
use Rattle.wm_forest.specs.Forest.{node_count}
use Rattle.wm_forest.specs.Look.{same}
use Rattle.wm_shared.specs.Neighbours.{after, first_id}
use Rattle.wm_shared.proofs.neighbours.after.Given as goal

-- what is behind this node, or behind one of what is left
abbrev pub invariant-nodes : goal.invariant-nodes
invariant-nodes l = cond (same l.id l.con) (first_id l.rest) (after l.con l.rest) ≡ after l.con l.row

abbrev pub decreases-nodes : goal.decreases-nodes
decreases-nodes l = node_count l.rest
