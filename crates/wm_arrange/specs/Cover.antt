-- Which pixels the areas of windows and placeholders cover.
use Rattle.std.specs.Prelude.{◌≡◌, ℕ, ◌+◌, ◌≤◌, Bool, true, false, ◌&&◌, ◌||◌, if◌then◌else◌, ℤ, pos, ◌+ℤ◌, int_le, int_lt, List, [], ◌∷◌}
use Rattle.wm_base.specs.declared.geometry.Rect.{Rect}
use Rattle.wm_base.specs.declared.ids.ConId.{ConId}
use Rattle.wm_base.specs.declared.plan.Layout.{Layout}
use Rattle.wm_base.specs.declared.plan.Layout.TheVariants.{SplitH, SplitV, Tabbed, Stacked}
use Rattle.wm_forest.specs.declared.part.ConKind.{ConKind}
use Rattle.wm_forest.specs.declared.part.ConKind.TheVariants.{Split, Window, Placeholder}
use Rattle.wm_forest.specs.declared.part.NodeKind.{NodeKind}
use Rattle.wm_forest.specs.declared.part.NodeKind.TheVariants.{Root, Output, Space, Con}
use Rattle.wm_forest.specs.Change.{is_end}
use Rattle.wm_forest.specs.Forest.{Forest, end, con}
use Rattle.wm_forest.specs.Look.{same}
use Rattle.wm_forest.specs.SoundRow.{tally}
use Rattle.wm_arrange.specs.declared.parts.Placed.{Placed}
use Rattle.wm_arrange.specs.declared.parts.PlacedPart.{PlacedPart}
use Rattle.wm_arrange.specs.declared.parts.PlacedPart.TheVariants as parts
use Rattle.wm_arrange.specs.Arranged.{kids_parts}
use Rattle.wm_arrange.specs.Scene.{Seen}
use Rattle.wm_arrange.specs.Slots.{IsTiledRow}

-- the place z is one of those from start on
abbrev pub in_span : ℤ → ℕ → ℤ → Bool
in_span start length z = int_le start z && int_lt z (start +ℤ pos length)

-- the pixel at this place is in the rectangle
abbrev pub has_pixel : ℤ → ℤ → Rect → Bool
has_pixel x y r = in_span r.x r.w x && in_span r.y r.h y

abbrev pub one_if : Bool → ℕ
one_if b = if b then 1 else 0

abbrev pub is_leaf_con : ConKind → Bool
is_leaf_con (Split layout last) = false
is_leaf_con (Window props owner natural) = true
is_leaf_con (Placeholder props swallows) = true

-- a window or placeholder
abbrev pub is_leaf : NodeKind → Bool
is_leaf (Root c) = false
is_leaf (Output o) = false
is_leaf (Space w) = false
is_leaf (Con c) = is_leaf_con c.kind

-- c is a window or placeholder of the row, or below it
abbrev pub leaf_in : Forest → ConId → Bool
leaf_in end c = false
leaf_in (con part kids floats rest) c = (same part.id c && is_leaf part.kind) || (leaf_in kids c || leaf_in rest c)

abbrev pub is_area : PlacedPart → Bool
is_area parts.Back = false
is_area parts.Area = true
is_area (parts.Title ink text) = false
is_area (parts.Border ink) = false
is_area parts.Content = false

-- how many of the parts are areas of these containers and have the pixel
abbrev pub covered : (ConId → Bool) → ℤ → ℤ → List Placed → ℕ
covered of x y [] = 0
covered of x y (p ∷ ps) = one_if (is_area p.part && (of p.con && has_pixel x y p.rect)) + covered of x y ps

-- ---- containers whose children stand beside each other

abbrev pub is_split : Layout → Bool
is_split SplitH = true
is_split SplitV = true
is_split Tabbed = false
is_split Stacked = false

abbrev pub SplitsCon : ConKind → Forest → Type 0 → Type 0
SplitsCon (Split layout last) kids below = (is_split layout ≡ true) × (is_end kids ≡ false) × below
SplitsCon (Window props owner natural) kids below = Unit {0}
SplitsCon (Placeholder props swallows) kids below = Unit {0}

abbrev pub SplitsNode : NodeKind → Forest → Type 0 → Type 0
SplitsNode (Root c) kids below = Unit {0}
SplitsNode (Output o) kids below = Unit {0}
SplitsNode (Space w) kids below = Unit {0}
SplitsNode (Con c) kids below = SplitsCon c.kind kids below

-- each split of the row, and below it, has a child and the layout splith or splitv
abbrev pub AreSplits : Forest → Type 0
AreSplits end = Unit {0}
AreSplits (con part kids floats rest) = SplitsNode part.kind kids (AreSplits kids) × AreSplits rest

-- with no inner gap, the areas of the windows and placeholders below a container cover its area, no pixel twice, where
-- it and each split below it have a child and the layout splith or splitv
abbrev pub CoversOnce : Type 0
CoversOnce = (s : Seen) (kids : Forest) (layout : Layout) (area : Rect) (x y : ℤ) → s.inner ≡ 0 → is_split layout ≡ true → is_end kids ≡ false → AreSplits kids
    → IsTiledRow kids → ((c : ConId) → tally c kids ≤ 1) → covered (leaf_in kids) x y (kids_parts s kids area layout) ≡ one_if (has_pixel x y area)
