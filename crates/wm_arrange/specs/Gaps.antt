-- The gaps of a workspace: around all of its children, and between them.
use Rattle.std.specs.Prelude.{ℕ, zero, suc, ◌+◌, ◌-◌, ◌/◌, Bool, true, false, if◌then◌else◌}
use Rattle.wm_base.specs.declared.geometry.Axis.{Axis}
use Rattle.wm_base.specs.declared.geometry.Axis.TheVariants.{Across, Down}
use Rattle.wm_base.specs.declared.geometry.Edges.{Edges}
use Rattle.wm_base.specs.declared.geometry.Rect.{Rect}
use Rattle.wm_base.specs.Rect.{inset}
use Rattle.wm_forest.specs.Forest.{Forest, end, con}

-- the same width along all sides
abbrev pub all_sides : ℕ → Edges
all_sides n = record { top = n; right = n; bottom = n; left = n }

-- the area of a workspace: the output's rectangle without the reserved edges, then without the outer and the inner
-- gap along all sides
abbrev pub ground : Rect → Edges → ℕ → ℕ → Rect
ground rect reserved outer inner = inset (inset rect reserved) (all_sides (outer + inner))

-- a width at the left or upper side, and one at the right or lower side
abbrev pub edges_along : Axis → ℕ → ℕ → Edges
edges_along Across before after = record { top = 0; right = after; bottom = 0; left = before }
edges_along Down before after = record { top = before; right = 0; bottom = after; left = 0 }

abbrev pub is_first : ℕ → Bool
is_first zero = true
is_first (suc i) = false

-- the row behind a child has no more children
abbrev pub is_last : Forest → Bool
is_last end = true
is_last (con part kids floats rest) = false

-- what a child loses before it, unless it is the first: half of the inner gap, rounded up
abbrev pub gap_before : ℕ → Bool → ℕ
gap_before inner first = if first then 0 else inner - inner / 2

-- what a child loses behind it, unless it is the last: half of the inner gap, rounded down
abbrev pub gap_after : ℕ → Bool → ℕ
gap_after inner last = if last then 0 else inner / 2

abbrev pub gaps : Axis → ℕ → Bool → Bool → Edges
gaps axis inner first last = edges_along axis (gap_before inner first) (gap_after inner last)
