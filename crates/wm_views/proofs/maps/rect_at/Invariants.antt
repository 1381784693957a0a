use Rattle.std.proofs.Common.{◌≡◌, length}
use Rattle.wm_views.specs.Maps.{rect_at}
use Rattle.wm_views.proofs.maps.rect_at.Given as goal

-- the first wanted part of the node is not before the rest
abbrev pub invariant-loop-rest : goal.invariant-loop-rest
invariant-loop-rest l = rect_at l.wanted l.id l.rest ≡ rect_at l.wanted l.id l.parts

abbrev pub decreases-loop-rest : goal.decreases-loop-rest
decreases-loop-rest l = length l.rest
