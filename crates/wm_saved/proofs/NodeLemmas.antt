-- The containers of a tree, by its root and the trees below it.
use Rattle.std.proofs.Common.{◌≡◌, ℕ, ◌+◌, ◌<◌, suc, max, Bool, true, false, nat_lt, ◌&&◌, ◌||◌, List, ◌∷◌, ◌++◌, drop, get_or, length, refl, sym, ◌∙◌, ap}
use Rattle.std.specs.List.{flat_map, list_all, list_any}
use Rattle.std.proofs.lemmas.List.{drop_more, length-append, length-map}
use Rattle.std.proofs.lemmas.Grind.{flat_map-append}
use Rattle.std.proofs.lemmas.List.Folds.{flat_map-map, list_all-append, list_any-append}
use Rattle.wm_saved.specs.Containers.{Own, below_kind, containers, kids, kids_of, kind_levels, levels, node_levels, tree_containers, tree_levels, with_below}
use Rattle.wm_saved.specs.Limits.{all_marks, is_wide, is_wide_own}
use Rattle.wm_saved.specs.declared.saved.SavedKind.{SavedKind}
use Rattle.wm_saved.specs.declared.saved.SavedKind.TheFolds.{fold-SavedKind, fold-SavedNode, fold_out-SavedKind, fold_out-SavedNode, map-SavedKind}
use Rattle.wm_saved.specs.declared.saved.SavedKind.TheOpen as open_kinds
use Rattle.wm_saved.specs.declared.saved.SavedKind.TheOpen.{SavedKind-F}
use Rattle.wm_saved.specs.declared.saved.SavedKind.TheViews.{out-SavedKind}
use Rattle.wm_saved.specs.declared.saved.SavedNode.{SavedNode}

-- what a container says of itself
abbrev pub own : SavedNode → Own
own n = record { border = n.border; marks = n.marks; children = length (kids n) }

below_open : (x : SavedKind-F SavedKind SavedNode)
    → below_kind (map-SavedKind SavedKind SavedNode (ℕ × List Own) (List Own) (fold-SavedKind (ℕ × List Own) (List Own) below_kind with_below) (fold-SavedNode (ℕ × List Own) (List Own) below_kind with_below) x)
    ≡ (length (kids_of x), containers (kids_of x))
unfolding tree_containers
below_open (open_kinds.Split layout nodes) = λ i. (length-map nodes (fold-SavedNode (ℕ × List Own) (List Own) below_kind with_below) i, flat_map-map (λ x. x) (fold-SavedNode (ℕ × List Own) (List Own) below_kind with_below) nodes i)
below_open (open_kinds.Placeholder name swallows) = refl

-- a tree's containers: its root, and those of the trees below it
pub tree_containers-is : (n : SavedNode) → tree_containers n ≡ own n ∷ containers (kids n)
unfolding tree_containers
tree_containers-is n =
    fold_out-SavedNode (ℕ × List Own) (List Own) below_kind with_below n
    ∙ ap (λ k. with_below (record { border = n.border; marks = n.marks; kind = k })) (fold_out-SavedKind (ℕ × List Own) (List Own) below_kind with_below n.kind ∙ below_open (out-SavedKind n.kind))

levels_open : (x : SavedKind-F SavedKind SavedNode)
    → kind_levels (map-SavedKind SavedKind SavedNode ℕ ℕ (fold-SavedKind ℕ ℕ kind_levels node_levels) (fold-SavedNode ℕ ℕ kind_levels node_levels) x) ≡ levels (kids_of x)
unfolding tree_levels
levels_open (open_kinds.Split layout nodes) = refl
levels_open (open_kinds.Placeholder name swallows) = refl

-- a tree has one level more than the trees below it
pub tree_levels-is : (n : SavedNode) → tree_levels n ≡ suc (levels (kids n))
unfolding tree_levels
tree_levels-is n =
    fold_out-SavedNode ℕ ℕ kind_levels node_levels n
    ∙ ap suc (fold_out-SavedKind ℕ ℕ kind_levels node_levels n.kind ∙ levels_open (out-SavedKind n.kind))

first_left : (ns : List SavedNode) (i : ℕ) (n : SavedNode) → i < length ns → n ≡ get_or ns i n → drop i ns ≡ n ∷ drop (i + 1) ns
first_left ns i n l is = drop_more ns i n l ∙ ap (λ x. x ∷ drop (i + 1) ns) (sym is)

-- the containers of the first tree that is left, and those behind it
pub containers_left : (ns : List SavedNode) (i : ℕ) (n : SavedNode) → i < length ns → n ≡ get_or ns i n → containers (drop i ns) ≡ own n ∷ (containers (kids n) ++ containers (drop (i + 1) ns))
containers_left ns i n l is = ap containers (first_left ns i n l is) ∙ ap (λ x. x ++ containers (drop (i + 1) ns)) (tree_containers-is n)

-- how many they are
pub count_left : (ns : List SavedNode) (i : ℕ) (n : SavedNode) → i < length ns → n ≡ get_or ns i n → length (containers (drop i ns)) ≡ suc (length (containers (kids n)) + length (containers (drop (i + 1) ns)))
count_left ns i n l is = ap length (containers_left ns i n l is) ∙ ap suc (length-append (containers (kids n)) (containers (drop (i + 1) ns)))

-- their levels
pub levels_left : (ns : List SavedNode) (i : ℕ) (n : SavedNode) → i < length ns → n ≡ get_or ns i n → levels (drop i ns) ≡ max (suc (levels (kids n))) (levels (drop (i + 1) ns))
levels_left ns i n l is = ap levels (first_left ns i n l is) ∙ ap (λ x. max x (levels (drop (i + 1) ns))) (tree_levels-is n)

-- whether a container says something of itself
pub any_left : (p : Own → Bool) (ns : List SavedNode) (i : ℕ) (n : SavedNode) → i < length ns → n ≡ get_or ns i n
    → list_any p (containers (drop i ns)) ≡ (p (own n) || (list_any p (containers (kids n)) || list_any p (containers (drop (i + 1) ns))))
any_left p ns i n l is = ap (list_any p) (containers_left ns i n l is) ∙ ap (λ b. p (own n) || b) (list_any-append p (containers (kids n)) (containers (drop (i + 1) ns)))

-- whether each does
pub all_left : (p : Own → Bool) (ns : List SavedNode) (i : ℕ) (n : SavedNode) → i < length ns → n ≡ get_or ns i n
    → list_all p (containers (drop i ns)) ≡ (p (own n) && (list_all p (containers (kids n)) && list_all p (containers (drop (i + 1) ns))))
all_left p ns i n l is = ap (list_all p) (containers_left ns i n l is) ∙ ap (λ b. p (own n) && b) (list_all-append p (containers (kids n)) (containers (drop (i + 1) ns)))

-- their marks
pub marks_left : (ns : List SavedNode) (i : ℕ) (n : SavedNode) → i < length ns → n ≡ get_or ns i n → all_marks (drop i ns) ≡ n.marks ++ (all_marks (kids n) ++ all_marks (drop (i + 1) ns))
marks_left ns i n l is = ap (flat_map (λ o. o.marks)) (containers_left ns i n l is) ∙ ap (λ x. n.marks ++ x) (flat_map-append (λ o. o.marks) (containers (kids n)) (containers (drop (i + 1) ns)))

here_first : (a b c : Bool) → (a || (b || c)) ≡ ((b || a) || c)
here_first true true c = refl
here_first true false c = refl
here_first false true c = refl
here_first false false c = refl

-- whether one has too many children
pub wide_left : (ns : List SavedNode) (i : ℕ) (n : SavedNode) → i < length ns → n ≡ get_or ns i n
    → list_any is_wide_own (containers (drop i ns)) ≡ (is_wide (kids n) || list_any is_wide_own (containers (drop (i + 1) ns)))
wide_left ns i n l is = any_left is_wide_own ns i n l is ∙ here_first (nat_lt 256 (length (kids n))) (list_any is_wide_own (containers (kids n))) (list_any is_wide_own (containers (drop (i + 1) ns)))
