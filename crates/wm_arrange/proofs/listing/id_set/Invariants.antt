use Rattle.std.proofs.Common.{◌≡◌, ◌||◌, length}
use Rattle.wm_base.specs.declared.ids.ConId.{ConId}
use Rattle.wm_forest.specs.Recency.{lists}
use Rattle.wm_arrange.specs.Maps.{holds}
use Rattle.wm_arrange.proofs.listing.id_set.Given as goal

-- what the map has or the rest lists is what the whole list has
abbrev pub invariant-loop-rest : goal.invariant-loop-rest
invariant-loop-rest l = (c : ConId) → (holds l.map c || lists c l.rest) ≡ lists c l.list

abbrev pub decreases-loop-rest : goal.decreases-loop-rest
decreases-loop-rest l = length l.rest
