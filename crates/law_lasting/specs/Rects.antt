-- Outer rectangles within the limits, and what floats.
use Rattle.std.specs.Prelude.{◌≡◌, ◌≤◌, ◌⊎◌, true, false, Option, None, Some}
use Rattle.wm_base.specs.declared.geometry.Rect.{Rect}
use Rattle.wm_base.specs.declared.ids.ConId.{ConId}
use Rattle.law_lasting.specs.Each.{Each}
use Rattle.wm_forest.specs.declared.kind.KindEdit.{KindEdit}
use Rattle.wm_forest.specs.declared.kind.KindEdit.TheVariants as edits
use Rattle.wm_forest.specs.declared.part.NodeKind.{NodeKind}
use Rattle.wm_forest.specs.declared.part.NodeKind.TheVariants.{Root, Output, Space, Con}
use Rattle.wm_forest.specs.declared.place.Place.{Place}
use Rattle.wm_forest.specs.declared.place.Place.TheVariants.{After, Before, First, Last, Float, Scratchpad}
use Rattle.wm_forest.specs.Place.{rect_at}
use Rattle.wm_forest.specs.SoundRow.{IsOutputRect}
use Rattle.wm_opens.specs.Opens.{is_window_of}
use Rattle.wm_shared.specs.Subject.{is_hidden}
use Rattle.wm_tree.specs.TreeValue.{TreeValue, is_tiled_con}

-- where there is a rectangle, its place is from -131,072 to 131,071, and its sides are at most 16,384
abbrev pub FitsRect : Option Rect → Type 0
FitsRect None = Unit {0}
FitsRect (Some r) = IsOutputRect r

-- so is the outer rectangle of a container
abbrev pub FitsKind : NodeKind → Type 0
FitsKind (Root c) = Unit {0}
FitsKind (Output o) = Unit {0}
FitsKind (Space s) = Unit {0}
FitsKind (Con c) = FitsRect c.state.rect

-- each outer rectangle of the tree is within those limits
abbrev pub RectsFit : TreeValue → Type 0
RectsFit t = Each (λ part. FitsKind part.kind) t.nodes

-- a change that gives a share gives one that a tiled container may have
abbrev pub GivesShare : KindEdit → Type 0
GivesShare (edits.Share s) = 1 ≤ s
GivesShare other = Unit {0}

-- what comes among floating windows is a window, or floats or is hidden already
abbrev pub MayFloat : ConId → Place → TreeValue → Type 0
MayFloat c (After d) t = Unit {0}
MayFloat c (Before d) t = Unit {0}
MayFloat c (First d) t = Unit {0}
MayFloat c (Last d) t = Unit {0}
MayFloat c (Float w r) t = (is_window_of t c ≡ true) ⊎ (is_tiled_con t c ≡ false) ⊎ (is_hidden t c ≡ true)
MayFloat c (Scratchpad r) t = Unit {0}

-- and its rectangle there is within the limits, where all others are
abbrev pub Floats : ConId → Place → TreeValue → Type 0
Floats c p t = (RectsFit t → FitsRect (rect_at p)) × MayFloat c p t
