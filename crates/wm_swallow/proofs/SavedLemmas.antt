-- The rows of a saved layout are those of its lists of nodes.
use Rattle.std.proofs.Common.{◌≡◌, List, [], ◌∷◌, length, refl, sym, ◌∙◌, ap, arith}
use mathlib.Core.Former.{Count}
use Rattle.wm_base.specs.declared.plan.Layout.{Layout}
use Rattle.wm_saved.specs.declared.saved.SavedKind.{SavedKind, Split, Split', Placeholder, Row_of-SavedNode, end_of-SavedNode, more_of-SavedNode, items-the_row-SavedNode, items_hidden-the_row-SavedNode-0}
use Rattle.wm_saved.specs.declared.saved.SavedNode.{SavedNode}
use Rattle.wm_swallow.specs.SavedRows.{saved, newcomer, row_below, row_of, row_size, rows}

listed : (n : _) (row : Row_of-SavedNode n) → row_of row ≡ rows (items-the_row-SavedNode n row)
listed n end_of-SavedNode = refl
listed n (more_of-SavedNode border marks kind rest) = ap (λ r. saved border marks (newcomer kind) (row_below kind) r) (listed _ rest)

abbrev parts : SavedKind → (n : Count) × Row_of-SavedNode n
parts (Split' _ _ row) = (_, row)
parts (Placeholder _ _) = (_, end_of-SavedNode)

-- below a split is the row of its nodes
pub below_split : (layout : Layout) (nodes : List SavedNode) → row_below (Split layout nodes) ≡ rows nodes
below_split layout nodes =
    let row = parts (Split layout nodes) in
    listed row.0 row.1 ∙ ap rows (items_hidden-the_row-SavedNode-0 nodes)

-- the same of a kind that is a split, and a list that has its nodes
pub below_is : (kind : SavedKind) (layout : Layout) (nodes list : List SavedNode) → kind ≡ Split layout nodes → list ≡ nodes → row_below kind ≡ rows list
below_is kind layout nodes list e f = ap row_below e ∙ below_split layout nodes ∙ ap rows (sym f)

-- a row has as many containers as its list has nodes
pub row_length_is : (nodes : List SavedNode) → row_size (rows nodes) ≡ length nodes
row_length_is [] = refl
row_length_is (n ∷ ns) = omega (arith, row_length_is ns)
