use Rattle.std.proofs.Common.{◌≡◌}
use Rattle.wm_forest.specs.Forest.{node_count}
use Rattle.wm_shared.specs.Keys.{least, lesser}
use Rattle.wm_floats.specs.Rounds.{keys_round}
use Rattle.wm_floats.proofs.rounds.nearest.Given as goal

-- the best so far and the best of the rest are the best of all
abbrev pub invariant-loop-part : goal.invariant-loop-part
invariant-loop-part l = lesser l.best (least (keys_round l.d l.con l.row)) ≡ least (keys_round l.d l.con l.fn.windows)

abbrev pub decreases-loop-part : goal.decreases-loop-part
decreases-loop-part l = node_count l.row
