-- Marks that are added one after another.
use Rattle.std.proofs.Common.{◌≡◌, ℕ, ◌+◌, ◌<◌, ◌≤◌, Bool, true, false, if◌then◌else◌, List, [], ◌∷◌, ◌++◌, length, drop, get_or, refl, ap, ◌∙◌, arith}
use Rattle.std.proofs.lemmas.List.{length-append}
use Rattle.std.specs.List.{list_any}
use Rattle.std.specs.Str.{bytes_eq}
use Rattle.wm_saved.specs.Containers.{kids}
use Rattle.wm_saved.specs.Limits.{all_marks, with_mark, with_marks}
use Rattle.wm_saved.specs.declared.saved.SavedNode.{SavedNode}
use Rattle.wm_saved.proofs.NodeLemmas.{marks_left}

-- first the one marks, and then the others
pub with_marks-append : (held xs ys : List (List ℕ)) → with_marks held (xs ++ ys) ≡ with_marks (with_marks held xs) ys
with_marks-append held [] ys = refl
with_marks-append held (x ∷ xs) ys = with_marks-append (with_mark held x) xs ys

with_mark-grows : (held : List (List ℕ)) (m : List ℕ) (b : Bool) → length held ≤ length (if b then held else (held ++ m ∷ []))
with_mark-grows held m true = omega arith
with_mark-grows held m false = let e = length-append held (m ∷ []) in omega arith

-- none is lost
pub with_marks-grows : (held ms : List (List ℕ)) → length held ≤ length (with_marks held ms)
with_marks-grows held [] = omega arith
with_marks-grows held (m ∷ ms) =
    let a = with_mark-grows held m (list_any (bytes_eq m) held) in
    let b = with_marks-grows (with_mark held m) ms in
    omega arith

-- with the marks of the first tree that is left, and then with those behind it
pub total_left : (held : List (List ℕ)) (ns : List SavedNode) (i : ℕ) (n : SavedNode) → i < length ns → n ≡ get_or ns i n
    → with_marks held (all_marks (drop i ns)) ≡ with_marks (with_marks (with_marks held n.marks) (all_marks (kids n))) (all_marks (drop (i + 1) ns))
total_left held ns i n l is =
    ap (with_marks held) (marks_left ns i n l is)
    ∙ (with_marks-append held n.marks (all_marks (kids n) ++ all_marks (drop (i + 1) ns))
    ∙ with_marks-append (with_marks held n.marks) (all_marks (kids n)) (all_marks (drop (i + 1) ns)))
