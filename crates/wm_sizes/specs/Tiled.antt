-- Sizes of tiled containers: the children of a node give shares to each other.
use Rattle.std.specs.Prelude.{◌≡◌, ℕ, ◌-◌, ◌/◌, ◌≤◌, ◌==◌, Bool, true, false, ◌&&◌, ◌||◌, not, List, [], ◌∷◌, length, Option, None, Some, is_none}
use Rattle.wm_arrange.specs.AreaOf.{area_of}
use Rattle.wm_arrange.specs.Areas.{side_of}
use Rattle.wm_base.specs.declared.errors.ErrorText.TheVariants as texts
use Rattle.wm_base.specs.declared.errors.Refusal.{Refusal}
use Rattle.wm_base.specs.declared.errors.Refusal.TheVariants.{NoTarget}
use Rattle.wm_base.specs.declared.ids.ConId.{ConId}
use Rattle.wm_shared.specs.Neighbours.{neighbour}
use Rattle.wm_language.specs.declared.arguments.Side.{Side}
use Rattle.wm_language.specs.declared.arguments.Side.TheVariants.{Width, Height, At}
use Rattle.wm_shared.specs.Refusing.{error_if}
use Rattle.wm_sizes.specs.Climbing.{has_two, rung_of, side_axis}
use Rattle.wm_sizes.specs.Deals.{amount, dealt, fits_all, siblings}
use Rattle.wm_sizes.specs.declared.climbing.Rung.{Rung}
use Rattle.wm_sizes.specs.declared.deals.Deal.{Deal}
use Rattle.wm_sizes.specs.declared.tiled.Growth.{Growth}
use Rattle.wm_forest.specs.declared.kind.KindEdit.TheVariants as edits
use Rattle.wm_forest.specs.declared.shares.Sibling.{Sibling}
use Rattle.wm_forest.specs.Counts.{row_length, share_sum}
use Rattle.wm_forest.specs.Forest.{Forest}
use Rattle.wm_forest.specs.Look.{first_kids, has, in_row, only}
use Rattle.wm_forest.specs.SoundRow.{IsSoundRow, containers}
use Rattle.wm_tree.specs.TreeValue.{TreeValue}
use Rattle.wm_forest.specs.Focus.{tiled_kids}
use Rattle.wm_tree.specs.Words.{edited}

-- the children of the node p
abbrev pub children_of : ConId → TreeValue → Forest
children_of p t = first_kids (only p t.nodes)

-- the length of the area of p along the axis of the side
abbrev pub length_of : Side → ConId → TreeValue → ℕ
length_of side p t = side_of (side_axis side) (area_of t p)

-- ---- who gives, and how much

-- the one child that gives to the node or takes from it; none where all others do
abbrev pub partner_of : Side → ConId → Forest → Option ConId
partner_of Width node row = None
partner_of Height node row = None
partner_of (At d) node row = neighbour d node row

-- how many children give to the node or take from it
abbrev pub partners_of : Side → Forest → ℕ
partners_of Width row = row_length row - 1
partners_of Height row = row_length row - 1
partners_of (At d) row = 1

-- the node needs a neighbour on that side and has none
abbrev pub lacks : Side → ConId → Forest → Bool
lacks Width node row = false
lacks Height node row = false
lacks (At d) node row = is_none (neighbour d node row)

-- how the children of a row share anew: who gives keeps a hundredth of all shares
abbrev pub deal_of : Growth → ConId → ℕ → Forest → Deal
deal_of g node length row = record {
  node = node;
  partner = partner_of g.side node row;
  partners = partners_of g.side row;
  grow = g.grow;
  amount = amount (share_sum row) length g.px g.ppt;
  least = share_sum row / 100;
}

-- pixels are asked for and there is no length, or a share would not be such as it may be
abbrev pub cannot : Growth → ℕ → Deal → Forest → Bool
cannot g length deal row = (g.ppt == 0 && length == 0) || not (fits_all deal 0 (siblings row))

-- ---- the tree

-- each of the siblings has this share
abbrev pub shares_set : List Sibling → TreeValue → TreeValue
shares_set [] t = t
shares_set (s ∷ siblings) t = edited s.id (edits.Share s.share) (shares_set siblings t)

-- how the children of the rung's parent share anew
abbrev pub rung_deal : Growth → Rung → TreeValue → Deal
rung_deal g r t = deal_of g r.node (length_of g.side r.parent t) (children_of r.parent t)

abbrev pub rung_refusal : Growth → Option Rung → TreeValue → Option Refusal
rung_refusal g None t = Some (NoTarget texts.CannotResize)
rung_refusal g (Some r) t =
    error_if (lacks g.side r.node (children_of r.parent t)) texts.NoNeighbour
    (error_if (cannot g (length_of g.side r.parent t) (rung_deal g r t) (children_of r.parent t)) texts.CannotResize None)

abbrev pub rung_tree : Growth → Option Rung → TreeValue → TreeValue
rung_tree g None t = t
rung_tree g (Some r) t = shares_set (dealt (rung_deal g r t) 0 (siblings (children_of r.parent t))) t

-- c is below a node with two or more children along the axis, has a neighbour where it needs one, and all shares are such
-- as they may be
abbrev pub tiled_refusal : ConId → Growth → TreeValue → Option Refusal
tiled_refusal c g t = rung_refusal g (rung_of (side_axis g.side) c t) t

-- the children of the nearest such node have their shares after the deal
abbrev pub tiled_tree : ConId → Growth → TreeValue → TreeValue
tiled_tree c g t = rung_tree g (rung_of (side_axis g.side) c t) t

-- ---- what is known on the way

-- a sound row of tiled children
pub record IsFamily (row : Forest) : Type 0 where
  pub few : row_length row ≤ 256
  pub sound : (room : ℕ) × IsSoundRow containers true room row

-- the rung's parent is there, its children are tiled and two or more, and the rung's node is one of them
pub record HasFamily (r : Rung) (f : Forest) : Type 0 where
  pub there : has r.parent f ≡ true
  pub tiled : tiled_kids (only r.parent f) ≡ first_kids (only r.parent f)
  pub family : IsFamily (first_kids (only r.parent f))
  pub node : in_row r.node (first_kids (only r.parent f)) ≡ true
  pub two : has_two (first_kids (only r.parent f)) ≡ true

-- at most as many siblings as a node has, all of which have such shares after the deal as they may
pub record IsReady (deal : Deal) (siblings : List Sibling) : Type 0 where
  pub small : deal.amount ≤ 2305843009213693952
  pub few : length siblings ≤ 256
  pub fit : fits_all deal 0 siblings ≡ true
