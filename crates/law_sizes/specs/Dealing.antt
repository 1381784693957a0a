-- A law of growing and shrinking tiled containers: what one child gets is what the others lose, and how much each does.
use Rattle.std.specs.Prelude.{◌≡◌, ℕ, ◌+◌, Bool, true, false, not, if◌then◌else◌, Option, None, Some}
use Rattle.wm_base.specs.declared.ids.ConId.{ConId}
use Rattle.wm_language.specs.declared.arguments.Side.{Side}
use Rattle.wm_sizes.specs.Climbing.{rung_of, side_axis}
use Rattle.wm_sizes.specs.Deals.{is_partner, part, siblings, turn_after}
use Rattle.wm_sizes.specs.declared.climbing.Rung.{Rung}
use Rattle.wm_sizes.specs.declared.deals.Deal.{Deal}
use Rattle.wm_sizes.specs.declared.tiled.Growth.{Growth}
use Rattle.wm_sizes.specs.Laws.{share_among}
use Rattle.wm_sizes.specs.Resizing.{resize_refusal, resize_tree}
use Rattle.wm_sizes.specs.Tiled.{children_of, rung_deal}
use Rattle.wm_forest.specs.Counts.{share_sum}
use Rattle.wm_forest.specs.Forest.{Forest, end, con}
use Rattle.wm_forest.specs.Look.{in_row, same}
use Rattle.wm_tree.specs.Sound.{IsSound}
use Rattle.wm_tree.specs.TreeValue.{TreeValue, is_tiled_con}

-- the share of the child i of a row
abbrev pub share_in : ConId → Forest → ℕ
share_in i row = share_among i (siblings row)

-- a share is greater by so much, or smaller by so much
abbrev pub Changes : Bool → ℕ → ℕ → ℕ → Type 0
Changes true by old new = new ≡ old + by
Changes false by old new = new + by ≡ old

-- how many partners stand in the row before the child i
abbrev pub turn_of : Deal → ConId → Forest → ℕ
turn_of d i end = 0
turn_of d i (con own kids floats rest) = if same own.id i then 0 else turn_after d own.id (turn_of d i rest)

-- what the partners of a row give or take together, where so many stand before it
abbrev pub parts : Deal → ℕ → Forest → ℕ
parts d turn end = 0
parts d turn (con own kids floats rest) = (if is_partner d own.id then part d turn else 0) + parts d (turn_after d own.id turn) rest

-- the deal's node gets the amount and each partner loses its part, or the other way round where the node shrinks; who is
-- none of these keeps its share; and the parts together are the amount, so that the sum of the shares is as it was
pub record AreDealt (d : Deal) (old new : Forest) : Type 0 where
  pub node : Changes d.grow d.amount (share_in d.node old) (share_in d.node new)
  pub partner : (i : ConId) → in_row i old ≡ true → is_partner d i ≡ true → Changes (not d.grow) (part d (turn_of d i old)) (share_in i old) (share_in i new)
  pub other : (i : ConId) → in_row i old ≡ true → same i d.node ≡ false → is_partner d i ≡ false → share_in i new ≡ share_in i old
  pub together : parts d 0 old ≡ d.amount
  pub sum : share_sum new ≡ share_sum old

-- there is a rung, and the children of its parent share anew by its deal
abbrev pub AreDealtBy : Growth → Option Rung → TreeValue → TreeValue → Type 0
AreDealtBy g None old new = ⊥
AreDealtBy g (Some r) old new = AreDealt (rung_deal g r old) (children_of r.parent old) (children_of r.parent new)

-- where a tiled container is not refused to grow or shrink, what it, or the node above it that stands beside others along
-- the axis, gets is what these lose
abbrev pub ResizeDeals : Type 0
ResizeDeals =
    (c : ConId) (grow : Bool) (side : Side) (px ppt : ℕ) (t : TreeValue) → IsSound t → is_tiled_con t c ≡ true → resize_refusal c grow side px ppt t ≡ None
    → AreDealtBy (record { grow = grow; side = side; px = px; ppt = ppt }) (rung_of (side_axis side) c t) t (resize_tree c grow side px ppt t)
