use Rattle.std.proofs.Common.{◌≤◌, List, Option}
use Rattle.wm_base.specs.declared.ids.ConId.{ConId}
use Rattle.wm_forest.specs.Forest.{node_count}
use Rattle.wm_arrange.specs.Choices.{KnowsRow}
use Rattle.wm_arrange.proofs.choosing.+shows_one_in.Given as goal

abbrev pub decreases-shows_one_in : goal.decreases-shows_one_in
decreases-shows_one_in l = node_count l.row

-- what is known of the rest is known of all
abbrev pub invariant-loop-part : goal.invariant-loop-part
invariant-loop-part l = record {
  left : node_count l.left ≤ node_count l.fn.row;
  known : (known : ConId → Option ConId) (ids : List ConId) → KnowsRow known ids l.left → KnowsRow known ids l.fn.row;
}

abbrev pub decreases-loop-part : goal.decreases-loop-part
decreases-loop-part l = node_count l.left
