use Rattle.std.proofs.Common.{◌≡◌, length}
use Rattle.std.specs.Option.{option_or}
use Rattle.wm_base.specs.declared.ids.ConId.{ConId}
use Rattle.wm_views.specs.declared.maps.Wanted.{Wanted}
use Rattle.wm_views.specs.Maps.{rect_at, rect_kept, value_at}
use Rattle.wm_views.proofs.maps.rects.Given as goal

-- what the map has, or else the rest, is what all parts have
abbrev pub invariant-loop-rest : goal.invariant-loop-rest
invariant-loop-rest l = (w : Wanted) (c : ConId) → option_or (rect_kept w (value_at l.map c)) (rect_at w c l.rest) ≡ rect_at w c l.parts

abbrev pub decreases-loop-rest : goal.decreases-loop-rest
decreases-loop-rest l = length l.rest
