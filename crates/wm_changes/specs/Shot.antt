-- A tree with its arrangement, of which views are made.
use Rattle.std.specs.Prelude.{◌≡◌, List, refl}
use Rattle.std.specs.Coded.{Coded, code_by, coded×, coded_list}
use Rattle.wm_arrange.specs.contracts.parts.Placed as placed_of
use Rattle.wm_arrange.specs.declared.parts.Placed.{Placed}
use Rattle.wm_tree.specs.TreeValue.{TreeValue, tree_code}
use Rattle.wm_views.specs.declared.sight.Sight.{Sight}
use Rattle.wm_views.specs.Sight.{IsSight}

pub record Shot : Type 0 where
  pub tree : TreeValue
  pub parts : List Placed

-- the maps of views are those of the tree and of its arrangement
pub record IsOf (tree : TreeValue) (parts : List Placed) (s : Sight) : Type 0 where
  pub sight : IsSight s
  pub tree_is : s.tree.now ≡ tree
  pub parts_are : s.arrangement.now.parts ≡ parts

-- ---- how the logic stores it

abbrev pub shot_code : Coded Shot
shot_code = code_by (TreeValue × List Placed) (coded× tree_code (coded_list placed_of.the_row.coded)) (λ s. (s.tree, s.parts)) (λ p. record { tree = p.0; parts = p.1 }) (λ _. refl)
