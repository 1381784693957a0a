use Rattle.std.proofs.Common.{◌≡◌, ◌+◌, length}
use Rattle.wm_forest.specs.Recency.{place_from}
use Rattle.wm_forest.proofs.recency.place.Given as goal

-- the place in all of the list is the place in what is left of it
abbrev pub invariant-loop-rest : goal.invariant-loop-rest
invariant-loop-rest l = record {
  counted : l.at + length l.rest ≡ length l.ids;
  found : place_from l.at l.id l.rest ≡ place_from 0 l.id l.ids;
}

abbrev pub decreases-loop-rest : goal.decreases-loop-rest
decreases-loop-rest l = length l.rest
