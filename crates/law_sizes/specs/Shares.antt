-- A law of growing and shrinking tiled containers: nothing changes but the shares of the children of one node.
use Rattle.std.specs.Prelude.{◌≡◌, ℕ, Bool, true, false, Option, None, Some}
use Rattle.wm_base.specs.declared.ids.ConId.{ConId}
use Rattle.wm_language.specs.declared.arguments.Side.{Side}
use Rattle.wm_sizes.specs.Climbing.{rung_of, side_axis}
use Rattle.wm_sizes.specs.declared.climbing.Rung.{Rung}
use Rattle.wm_sizes.specs.Resizing.{resize_tree}
use Rattle.wm_sizes.specs.Tiled.{children_of}
use Rattle.wm_forest.specs.declared.part.NodeKind.{NodeKind}
use Rattle.wm_forest.specs.declared.part.NodeKind.TheVariants.{Root, Output, Space, Con}
use Rattle.wm_forest.specs.Forest.{Forest, end, con}
use Rattle.wm_forest.specs.Look.{first_part, in_row, only}
use Rattle.wm_tree.specs.TreeValue.{TreeValue, is_tiled_con}

-- a container without its share
abbrev pub unshared_kind : NodeKind → NodeKind
unshared_kind (Root c) = Root c
unshared_kind (Output o) = Output o
unshared_kind (Space s) = Space s
unshared_kind (Con c) = Con (record c { share = 0 })

-- the forest without shares: ids, kinds, marks, states, order, and who stands where are as they were
abbrev pub unshared : Forest → Forest
unshared end = end
unshared (con part kids floats rest) = con (record part { kind = unshared_kind part.kind }) (unshared kids) (unshared floats) (unshared rest)

-- i is one of the children that share anew
abbrev pub shares_anew : ConId → Option Rung → TreeValue → Bool
shares_anew i None t = false
shares_anew i (Some r) t = in_row i (children_of r.parent t)

-- two trees differ in nothing but shares, and a node that is none of the children of the rung's parent says the same of
-- itself in both
pub record DifferInShares (r : Option Rung) (old new : TreeValue) : Type 0 where
  pub rest : record new { nodes = unshared new.nodes } ≡ record old { nodes = unshared old.nodes }
  pub others : (i : ConId) → shares_anew i r old ≡ false → first_part (only i new.nodes) ≡ first_part (only i old.nodes)

-- a tiled container that grows or shrinks changes nothing but shares of the children of the nearest node above it that
-- has two or more along the axis
abbrev pub ResizeKeeps : Type 0
ResizeKeeps =
    (c : ConId) (grow : Bool) (side : Side) (px ppt : ℕ) (t : TreeValue) → is_tiled_con t c ≡ true
    → DifferInShares (rung_of (side_axis side) c t) t (resize_tree c grow side px ppt t)
