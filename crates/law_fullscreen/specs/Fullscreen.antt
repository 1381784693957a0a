-- How many fullscreen containers stand in each workspace.
use Rattle.std.specs.Prelude.{◌≢◌, ℕ, ◌+◌, ◌≤◌, if◌then◌else◌, Option, None}
use Rattle.wm_base.specs.declared.ids.ConId.{ConId}
use Rattle.wm_floats.specs.Fullscreen.{is_full}
use Rattle.wm_forest.specs.Change.{is_id}
use Rattle.wm_forest.specs.Counts.{count}
use Rattle.wm_forest.specs.declared.part.Part.{Part}
use Rattle.wm_forest.specs.Forest.{Forest, end, con}
use Rattle.wm_forest.specs.Look.{kind_of, only, space_kind}
use Rattle.wm_forest.specs.Spot.{space_at}
use Rattle.wm_tree.specs.TreeValue.{TreeValue}

-- a fullscreen container counts one, any other node nothing
abbrev pub full_of : Part → ℕ
full_of part = if is_full part.kind then 1 else 0

-- how many fullscreen containers stand in the workspace w
abbrev pub full_count : ConId → TreeValue → ℕ
full_count w t = count full_of (only w t.nodes)

-- each workspace of the tree has at most one fullscreen container
abbrev pub HasOne : TreeValue → Type 0
HasOne t = (w : ConId) → kind_of space_kind w t.nodes ≢ None → full_count w t ≤ 1

-- ---- the same, counted row by row

-- what those nodes count that stand in the workspace w, in a row that stands in the workspace `space` or in none
abbrev pub within : (Part → ℕ) → ConId → Option ConId → Forest → ℕ
within m w space end = 0
within m w space (con part kids floats rest) =
    (if is_id w (space_at space part) then m part else 0) + within m w (space_at space part) kids + within m w (space_at space part) floats + within m w space rest

-- at most one fullscreen container of the forest stands in each workspace
abbrev pub IsSingle : Forest → Type 0
IsSingle f = (w : ConId) → within full_of w None f ≤ 1
