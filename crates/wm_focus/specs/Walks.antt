-- What walks down to a container come to.
use Rattle.std.specs.Prelude.{if◌then◌else◌, Option, None, Some}
use Rattle.std.specs.Option.{option_or}
use Rattle.wm_base.specs.declared.geometry.Dir.{Dir}
use Rattle.wm_base.specs.declared.ids.ConId.{ConId}
use Rattle.wm_focus.specs.declared.rungs.Aim.TheVariants.{Around, Beside, Out}
use Rattle.wm_focus.specs.declared.rungs.Climbed.{Climbed}
use Rattle.wm_focus.specs.declared.rungs.Ways.{Ways}
use Rattle.wm_focus.specs.Rungs.{Rung, aimed, nearest, rung}
use Rattle.wm_forest.specs.Forest.{Forest, end, con}
use Rattle.wm_forest.specs.Look.{same}
use Rattle.wm_forest.specs.Focus.{row_holder}

-- what is found in the direction above c, each at the nearest node that has it
abbrev pub ways : Dir → ConId → Forest → Ways
ways d c row = record { beside = nearest Beside d c row; around = nearest Around d c row; out = nearest Out d c row }

-- what was found further down, and else at the next node above
abbrev pub further : Ways → Dir → Rung → Ways
further w d r = record { beside = option_or w.beside (aimed Beside d r); around = option_or w.around (aimed Around d r); out = option_or w.out (aimed Out d r) }

abbrev pub climbed_by : Option ConId → Ways → Option Climbed
climbed_by None w = None
climbed_by (Some child) w = Some (record { child = child; ways = w })

-- the node of the row that is c or holds it, and what is found above c
abbrev pub climbed : Dir → ConId → Forest → Option Climbed
climbed d c row = climbed_by (row_holder c row) (ways d c row)

-- the neighbour of c on that side among the children of the node p; None where p is not there
abbrev pub neighbour_at : Dir → ConId → ConId → Forest → Option (Option ConId)
neighbour_at d c p end = None
neighbour_at d c p (con part kids floats rest) =
    if same part.id p then Some (aimed Beside d (rung part.kind kids c))
    else option_or (neighbour_at d c p kids) (option_or (neighbour_at d c p floats) (neighbour_at d c p rest))
