use Rattle.std.proofs.Common.{List, Option}
use Rattle.wm_base.specs.declared.ids.ConId.{ConId}
use Rattle.wm_forest.specs.Forest.{node_count}
use Rattle.wm_arrange.specs.Choices.{KnowsOutputs}
use Rattle.wm_arrange.proofs.choosing.shows_one_on.Given as goal

-- what is known of the rest is known of all
abbrev pub invariant-loop-part : goal.invariant-loop-part
invariant-loop-part l = (known : ConId → Option ConId) (ids : List ConId) → KnowsOutputs known ids l.left → KnowsOutputs known ids l.fn.row

abbrev pub decreases-loop-part : goal.decreases-loop-part
decreases-loop-part l = node_count l.left
