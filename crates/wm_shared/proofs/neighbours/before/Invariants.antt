use Rattle.std.proofs.Common.{◌≡◌, Some, cond}
use Rattle.wm_forest.specs.Change.{is_id}
use Rattle.wm_forest.specs.Forest.{node_count}
use Rattle.wm_shared.specs.Neighbours.{before, first_id}
use Rattle.wm_shared.proofs.neighbours.before.Given as goal

-- this node where what is left begins with the other one, or one of what is left
abbrev pub invariant-loop-next : goal.invariant-loop-next
invariant-loop-next l = cond (is_id l.con (first_id l.rest)) (Some l.id) (before l.con l.rest) ≡ before l.con l.row

abbrev pub decreases-loop-next : goal.decreases-loop-next
decreases-loop-next l = node_count l.rest
