-- The outer rectangles of windows that float, and the numbers that a place may have.
use Rattle.std.specs.Prelude.{ℤ, pos, negsuc, int_le, int_lt, Bool, ◌&&◌, if◌then◌else◌, Option, None, Some, option_and_then}
use Rattle.wm_base.specs.declared.geometry.Rect.{Rect}
use Rattle.wm_base.specs.declared.ids.ConId.{ConId}
use Rattle.wm_shared.specs.Outputs.{output_of}
use Rattle.wm_forest.specs.declared.part.ConPart.{ConPart}
use Rattle.wm_forest.specs.declared.part.OutputPart.{OutputPart}
use Rattle.wm_tree.specs.Along.{nowhere}
use Rattle.wm_forest.specs.Look.{con_kind, kind_of, output_kind}
use Rattle.wm_tree.specs.TreeValue.{TreeValue}

-- a place may have this number
abbrev pub is_in_range : ℤ → Bool
is_in_range z = int_le (negsuc 131071) z && int_le z (pos 131071)

-- the nearest number that a place may have
abbrev pub held : ℤ → ℤ
held z = if int_lt z (negsuc 131071) then negsuc 131071 else if int_lt (pos 131071) z then pos 131071 else z

-- the output of a container or workspace, as it is
abbrev pub output_part_of : ConId → TreeValue → Option OutputPart
output_part_of c t = option_and_then (λ (o : ConId). kind_of output_kind o t.nodes) (output_of c t)

abbrev pub or_nowhere : Option Rect → Rect
or_nowhere None = nowhere
or_nowhere (Some r) = r

abbrev pub state_rect : Option ConPart → Rect
state_rect None = nowhere
state_rect (Some part) = or_nowhere part.state.rect

-- the outer rectangle of a floating window
abbrev pub rect_of : ConId → TreeValue → Rect
rect_of c t = state_rect (kind_of con_kind c t.nodes)
