use Rattle.std.proofs.Common.{◌≡◌, ◌≤◌}
use Rattle.std.specs.Option.{option_or}
use Rattle.wm_base.specs.declared.ids.ConId.{ConId}
use Rattle.wm_forest.specs.Forest.{node_count}
use Rattle.wm_forest.specs.SoundRow.{tally}
use Rattle.wm_arrange.specs.Choices.{choice_in, nearest, sooner}
use Rattle.wm_arrange.specs.Maps.{value_at}
use Rattle.wm_arrange.proofs.choosing.+choose.Given as goal

abbrev pub decreases-choose : goal.decreases-choose
decreases-choose l = node_count l.row

-- the nearest node so far and that of the rest, and what is kept so far and what of the rest, are those of all
abbrev pub invariant-loop-part : goal.invariant-loop-part
invariant-loop-part l = record {
  left : node_count l.left ≤ node_count l.fn.row;
  fewer : (c : ConId) → tally c l.left ≤ tally c l.fn.row;
  nearest : sooner l.near (nearest l.recency.ids l.left) ≡ nearest l.recency.ids l.fn.row;
  kept : (c : ConId) → tally c l.fn.row ≤ 1 → option_or (choice_in l.recency.ids c l.left) (value_at l.chosen c) ≡ option_or (choice_in l.recency.ids c l.fn.row) (value_at l.initial.chosen c);
}

abbrev pub decreases-loop-part : goal.decreases-loop-part
decreases-loop-part l = node_count l.left
