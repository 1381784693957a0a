-- Laws of floating windows that get another size or place: nothing changes but the rectangle of that window.
use Rattle.std.specs.Prelude.{◌≡◌, ℕ, ℤ, Bool, true, false, None, if◌then◌else◌}
use Rattle.wm_base.specs.declared.geometry.Dir.{Dir}
use Rattle.wm_base.specs.declared.geometry.Rect.{Rect}
use Rattle.wm_base.specs.declared.ids.ConId.{ConId}
use Rattle.wm_floats.specs.Placing.{place_at_tree}
use Rattle.wm_floats.specs.Rounds.{shift_tree, shifted_x, shifted_y}
use Rattle.wm_language.specs.declared.arguments.Side.{Side}
use Rattle.wm_shared.specs.Rects.{rect_of}
use Rattle.wm_shared.specs.Subject.{is_container}
use Rattle.wm_sizes.specs.Floating.{as_rect, grown, resize_set_tree, step}
use Rattle.wm_sizes.specs.Resizing.{resize_tree}
use Rattle.wm_forest.specs.declared.part.NodeKind.{NodeKind}
use Rattle.wm_forest.specs.declared.part.NodeKind.TheVariants.{Root, Output, Space, Con}
use Rattle.wm_forest.specs.Forest.{Forest, end, con}
use Rattle.wm_forest.specs.Look.{same}
use Rattle.wm_tree.specs.TreeValue.{TreeValue, is_tiled_con}

-- a container without its outer rectangle
abbrev pub rectless_kind : NodeKind → NodeKind
rectless_kind (Root c) = Root c
rectless_kind (Output o) = Output o
rectless_kind (Space s) = Space s
rectless_kind (Con c) = Con (record c { state = record c.state { rect = None } })

-- the forest in which c has no outer rectangle; all else is as it was
abbrev pub rectless : ConId → Forest → Forest
rectless c end = end
rectless c (con part kids floats rest) =
    con (if same part.id c then record part { kind = rectless_kind part.kind } else part) (rectless c kids) (rectless c floats) (rectless c rest)

-- c has this outer rectangle in the new tree, and that is all in which this differs from the old one
pub record IsPlaced (c : ConId) (r : Rect) (old new : TreeValue) : Type 0 where
  pub rect : rect_of c new ≡ r
  pub rest : record new { nodes = rectless c new.nodes } ≡ record old { nodes = rectless c old.nodes }

-- a container that gets a size keeps its place, and nothing else changes
abbrev pub SizeKeeps : Type 0
SizeKeeps =
    (c : ConId) (w h : ℕ) (t : TreeValue) → is_container t c ≡ true
    → IsPlaced c (record { x = (rect_of c t).x; y = (rect_of c t).y; w = w; h = h }) t (resize_set_tree c w h t)

-- a container that gets a place keeps its size, and nothing else changes
abbrev pub PlaceKeeps : Type 0
PlaceKeeps =
    (c : ConId) (x y : ℤ) (t : TreeValue) → is_container t c ≡ true
    → IsPlaced c (record { x = x; y = y; w = (rect_of c t).w; h = (rect_of c t).h }) t (place_at_tree c x y t)

-- a container that is shifted in a direction keeps its size, and nothing else changes
abbrev pub ShiftKeeps : Type 0
ShiftKeeps =
    (c : ConId) (d : Dir) (px : ℕ) (t : TreeValue) → is_container t c ≡ true
    → IsPlaced c (record { x = shifted_x d px (rect_of c t); y = shifted_y d px (rect_of c t); w = (rect_of c t).w; h = (rect_of c t).h }) t (shift_tree c d px t)

-- a container that is not tiled and grows or shrinks has the rectangle that does so at that side, and nothing else changes
abbrev pub GrowthKeeps : Type 0
GrowthKeeps =
    (c : ConId) (grow : Bool) (side : Side) (px ppt : ℕ) (t : TreeValue) → is_container t c ≡ true → is_tiled_con t c ≡ false
    → IsPlaced c (as_rect (grown side (step grow px) (rect_of c t))) t (resize_tree c grow side px ppt t)
