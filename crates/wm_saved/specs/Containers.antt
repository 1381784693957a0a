-- The containers of a layout: what each says of itself, in order, and how many levels they have.
use Rattle.std.specs.Prelude.{ℕ, suc, max, List, [], ◌∷◌, length, map}
use Rattle.std.specs.List.{flat_map}
use Rattle.wm_base.specs.declared.plan.Border.{Border}
use Rattle.wm_saved.specs.declared.saved.SavedKind.{SavedKind}
use Rattle.wm_saved.specs.declared.saved.SavedKind.TheFolds.{fold-SavedNode}
use Rattle.wm_saved.specs.declared.saved.SavedKind.TheOpen as open_kinds
use Rattle.wm_saved.specs.declared.saved.SavedKind.TheOpen.{SavedKind-F, SavedNode-F}
use Rattle.wm_saved.specs.declared.saved.SavedKind.TheViews.{out-SavedKind}
use Rattle.wm_saved.specs.declared.saved.SavedNode.{SavedNode}

-- the children of a container: those of a split, none of a placeholder
abbrev pub kids_of : SavedKind-F SavedKind SavedNode → List SavedNode
kids_of (open_kinds.Split layout nodes) = nodes
kids_of (open_kinds.Placeholder name swallows) = []

abbrev pub kids : SavedNode → List SavedNode
kids n = kids_of (out-SavedKind n.kind)

-- what a container says of itself: its border, its marks, and how many children it has
pub record Own : Type 0 where
  pub border : Border
  pub marks : List (List ℕ)
  pub children : ℕ

-- how many children it has, and all containers below it
abbrev pub below_kind : SavedKind-F (ℕ × List Own) (List Own) → ℕ × List Own
below_kind (open_kinds.Split layout trees) = (length trees, flat_map (λ x. x) trees)
below_kind (open_kinds.Placeholder name swallows) = (0, [])

abbrev pub with_below : SavedNode-F (ℕ × List Own) (List Own) → List Own
with_below n = record { border = n.border; marks = n.marks; children = n.kind.0 } ∷ n.kind.1

-- a container, and behind it all that are below it, in order
unfoldable pub tree_containers : SavedNode → List Own
tree_containers = fold-SavedNode (ℕ × List Own) (List Own) below_kind with_below

-- all containers of these trees
abbrev pub containers : List SavedNode → List Own
containers trees = flat_map tree_containers trees

-- the greatest of these numbers, 0 where there is none
abbrev pub most : List ℕ → ℕ
most [] = 0
most (n ∷ ns) = max n (most ns)

abbrev pub kind_levels : SavedKind-F ℕ ℕ → ℕ
kind_levels (open_kinds.Split layout trees) = most trees
kind_levels (open_kinds.Placeholder name swallows) = 0

abbrev pub node_levels : SavedNode-F ℕ ℕ → ℕ
node_levels n = suc n.kind

-- on how many levels the containers of a tree stand: one more than those below its root
unfoldable pub tree_levels : SavedNode → ℕ
tree_levels = fold-SavedNode ℕ ℕ kind_levels node_levels

abbrev pub levels : List SavedNode → ℕ
levels trees = most (map tree_levels trees)
