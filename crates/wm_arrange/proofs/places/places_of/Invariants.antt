use Rattle.std.proofs.Common.{◌≡◌, ◌+◌, length}
use Rattle.std.specs.Option.{option_or}
use Rattle.wm_base.specs.declared.ids.ConId.{ConId}
use Rattle.wm_forest.specs.Recency.{place_from}
use Rattle.wm_arrange.specs.Maps.{value_at}
use Rattle.wm_arrange.proofs.places.places_of.Given as goal

-- the place that the map has, or else that in the rest, is the place in the list
abbrev pub invariant-loop-id : goal.invariant-loop-id
invariant-loop-id l = record {
  counted : l.at + length l.ids ≡ length l.initial.ids;
  found : (c : ConId) → option_or (value_at l.map c) (place_from l.at c l.ids) ≡ place_from 0 c l.initial.ids;
}

abbrev pub decreases-loop-id : goal.decreases-loop-id
decreases-loop-id l = length l.ids
