-- What a deal keeps, in the words of the tree: the shares of the children of one node before and after.
use Rattle.std.specs.Prelude.{◌≡◌, ℕ, if◌then◌else◌, List, [], ◌∷◌, Option, None, Some}
use Rattle.wm_base.specs.declared.ids.ConId.{ConId}
use Rattle.wm_sizes.specs.Deals.{dealt, gained, siblings}
use Rattle.wm_sizes.specs.declared.climbing.Rung.{Rung}
use Rattle.wm_sizes.specs.declared.tiled.Growth.{Growth}
use Rattle.wm_sizes.specs.Tiled.{children_of, rung_deal}
use Rattle.wm_forest.specs.declared.shares.Sibling.{Sibling}
use Rattle.wm_forest.specs.Counts.{share_sum}
use Rattle.wm_forest.specs.Look.{same}
use Rattle.wm_tree.specs.TreeValue.{TreeValue}

-- the share of the node among siblings
abbrev pub share_among : ConId → List Sibling → ℕ
share_among c [] = 0
share_among c (s ∷ siblings) = if same s.id c then s.share else share_among c siblings

-- the children of the rung's parent have their shares after the deal, the sum of these is as it was, and the node's share
-- became larger or smaller by the amount
pub record SharesAnew (g : Growth) (r : Rung) (old new : TreeValue) : Type 0 where
  pub row : siblings (children_of r.parent new) ≡ dealt (rung_deal g r old) 0 (siblings (children_of r.parent old))
  pub sum : share_sum (children_of r.parent new) ≡ share_sum (children_of r.parent old)
  pub node : share_among r.node (siblings (children_of r.parent new)) ≡ gained g.grow (share_among r.node (siblings (children_of r.parent old))) (rung_deal g r old).amount

abbrev pub IsSharedAnew : Growth → Option Rung → TreeValue → TreeValue → Type 0
IsSharedAnew g None old new = Unit {0}
IsSharedAnew g (Some r) old new = SharesAnew g r old new
