-- The marks of a layout that is fit have 1 to 256 bytes.
use Rattle.std.proofs.Common.{◌≡◌, ℕ, Bool, true, false, ◌&&◌, leb, ltb, List, [], ◌∷◌, ◌++◌, length, refl, sym, ◌∙◌, ap}
use Rattle.std.specs.List.{list_all}
use Rattle.std.proofs.lemmas.List.Folds.{list_all-append}
use Rattle.wm_base.specs.declared.plan.Layout.{Layout}
use Rattle.wm_focus.specs.Marks.{is_mark}
use Rattle.wm_saved.specs.Containers.{containers, kids, kids_of, tree_containers}
use Rattle.wm_saved.specs.Fields.{is_fit_mark}
use Rattle.wm_saved.specs.Limits.{are_fit, is_fit_border, is_fit_own}
use Rattle.wm_saved.specs.declared.saved.SavedKind.{SavedKind, Split', Placeholder, Row_of-SavedNode, end_of-SavedNode, more_of-SavedNode, items-the_row-SavedNode, items_shown-the_row-SavedNode-0}
use Rattle.wm_saved.specs.declared.saved.SavedKind.TheVariants.{outs-Split'}
use Rattle.wm_saved.specs.declared.saved.SavedKind.TheViews.{out-SavedKind}
use Rattle.wm_saved.specs.declared.saved.SavedNode.{SavedNode}
use Rattle.wm_saved.proofs.NodeLemmas.{own, tree_containers-is}
use Rattle.wm_swallow.specs.Limits.{HasFitMarks}
use Rattle.wm_swallow.specs.SavedRows.{all_marks, row_below, row_of, rows}

and2 : (a b : Bool) → (a && b) ≡ true → (a ≡ true) × (b ≡ true)
and2 true b h = (refl, h)
and2 false b h = cc

both : (a b : Bool) → a ≡ true → b ≡ true → (a && b) ≡ true
both true b e f = f
both false b e f = cc

low_is : (n : ℕ) → ltb 0 n ≡ leb 1 n
low_is n = refl

mark_is : (m : List ℕ) → is_mark m ≡ is_fit_mark m
mark_is m = ap (λ b. b && leb (length m) 256) (low_is (length m))

marks_are : (ms : List (List ℕ)) → list_all is_fit_mark ms ≡ true → list_all is_mark ms ≡ true
marks_are [] h = refl
marks_are (m ∷ ms) h = let x = and2 (is_fit_mark m) (list_all is_fit_mark ms) h in both (is_mark m) (list_all is_mark ms) (mark_is m ∙ x.0) (marks_are ms x.1)

-- a fit container, those below it, and those behind it
record FitParts (n : SavedNode) (ns : List SavedNode) : Type 0 where
  pub marks : list_all is_mark n.marks ≡ true
  pub below : are_fit (kids n) ≡ true
  pub behind : are_fit ns ≡ true

fit_parts : (n : SavedNode) (ns : List SavedNode) → are_fit (n ∷ ns) ≡ true → FitParts n ns
fit_parts n ns h =
    let x = and2 (list_all is_fit_own (tree_containers n)) (are_fit ns) (sym (list_all-append is_fit_own (tree_containers n) (containers ns)) ∙ h) in
    let y = and2 (is_fit_own (own n)) (are_fit (kids n)) (ap (list_all is_fit_own) (sym (tree_containers-is n)) ∙ x.0) in
    let z = and2 (is_fit_border n.border) (list_all is_fit_mark n.marks) y.0 in
    record { marks = marks_are n.marks z.1; below = y.1; behind = x.1 }

joined : (a b c : List (List ℕ)) → list_all is_mark a ≡ true → list_all is_mark b ≡ true → list_all is_mark c ≡ true → list_all is_mark (a ++ (b ++ c)) ≡ true
joined a b c p q r =
    list_all-append is_mark a (b ++ c)
    ∙ both (list_all is_mark a) (list_all is_mark (b ++ c)) p (list_all-append is_mark b c ∙ both (list_all is_mark b) (list_all is_mark c) q r)

kids_shown : (layout : Layout) (shape : _) (nodes : Row_of-SavedNode _) → kids_of (out-SavedKind (Split' layout shape nodes)) ≡ items-the_row-SavedNode _ nodes
kids_shown layout shape nodes = ap kids_of (outs-Split' layout shape nodes) ∙ items_shown-the_row-SavedNode-0 shape nodes

mutual
  fit_below : (kind : SavedKind) → are_fit (kids_of (out-SavedKind kind)) ≡ true → list_all is_mark (all_marks (row_below kind)) ≡ true
  fit_below (Split' layout shape nodes) h = fit_row _ nodes (ap are_fit (sym (kids_shown layout shape nodes)) ∙ h)
  fit_below (Placeholder name swallows) h = refl

  fit_row : (n : _) (nodes : Row_of-SavedNode n) → are_fit (items-the_row-SavedNode n nodes) ≡ true → list_all is_mark (all_marks (row_of nodes)) ≡ true
  fit_row n end_of-SavedNode h = refl
  fit_row n (more_of-SavedNode border marks kind rest) h =
      let f = fit_parts (record { border = border; marks = marks; kind = kind }) _ h in
      joined marks (all_marks (row_below kind)) (all_marks (row_of rest)) f.marks (fit_below kind f.below) (fit_row _ rest f.behind)

pub fit_marks : (ns : List SavedNode) → are_fit ns ≡ true → HasFitMarks (rows ns)
fit_marks [] h = refl
fit_marks (n ∷ ns) h =
    let f = fit_parts n ns h in
    joined n.marks (all_marks (row_below n.kind)) (all_marks (rows ns)) f.marks (fit_below n.kind f.below) (fit_marks ns f.behind)
