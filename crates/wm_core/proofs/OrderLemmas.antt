-- What a look tells is in order, and is all there is.
use Rattle.std.proofs.Common.{◌≡◌, ℕ, ◌+◌, Bool, true, false, cond, ltb, List, [], ◌∷◌, ◌++◌, get_or, count_by, bytes_eq, refl, ◌∙◌, arith}
use Rattle.std.proofs.lemmas.Bool.{ltb-false}
use Rattle.std.proofs.lemmas.Cmp.{nat_list_cmp_total}
use Rattle.std.proofs.lemmas.List.MinMax.{IsStrictWeakOrder-by_number, ranks_by}
use Rattle.std.proofs.lemmas.List.Sorted.{IsNonDecreasingBy-from_all_adjacent}
use Rattle.std.proofs.lemmas.List.Sums.{sum_by-append}
use Rattle.wm_base.specs.declared.ids.ConId.{ConId}
use Rattle.wm_forest.specs.Counts.{count}
use Rattle.wm_forest.specs.Forest.{Forest, end, con}
use Rattle.wm_forest.specs.Look.{con_kind, kind_of, same}
use Rattle.wm_tree.specs.Sound.{IsSound}
use Rattle.wm_forest.specs.SoundRow.{times}
use Rattle.wm_tree.specs.TreeValue.{TreeValue}
use Rattle.wm_forest.proofs.TimesLemmas.{times-dropped, times-kept}
use Rattle.wm_history.specs.Look.{all_marks, is_before, put_mark, put_marks}
use Rattle.wm_core.specs.Order.{MarksAreAll, MarksRise, WindowsAreAll, WindowsAreOnce, WindowsRise, mark_times}
use Rattle.wm_history.specs.Windows.{is_window, owned, put_id, put_ids}
use Rattle.wm_history.proofs.OpenLemmas.{found_is_counted, ranked_tally, ranked_window}
use Rattle.wm_history.proofs.OwnedLemmas.{caller_window}
use Rattle.wm_core.proofs.PutLemmas.{puts_sorted, puts_sum}

-- ---- marks

pub marks_rise : MarksRise
marks_rise t = puts_sorted put_mark put_marks is_before (λ x. refl) (λ x y ys. refl) (λ ys. refl) (λ x xs ys. refl) (ranks_by nat_list_cmp_total (λ m. m)) (all_marks t.nodes) [] (λ k d from within. absurd (omega (arith, within)))

marks_counted : (m : List ℕ) (f : Forest) → count_by (bytes_eq m) (all_marks f) ≡ count (mark_times m) f
marks_counted m end = refl
marks_counted m (con part kids floats rest) =
    let one : List ℕ → ℕ = λ x. cond (bytes_eq m x) 1 0 in
    omega (
      arith,
      sum_by-append one part.marks (all_marks kids ++ (all_marks floats ++ all_marks rest)),
      sum_by-append one (all_marks kids) (all_marks floats ++ all_marks rest),
      sum_by-append one (all_marks floats) (all_marks rest),
      marks_counted m kids,
      marks_counted m floats,
      marks_counted m rest,
    )

pub marks_are_all : MarksAreAll
marks_are_all t m =
    omega (arith, puts_sum put_mark put_marks is_before (λ x. refl) (λ x y ys. refl) (λ ys. refl) (λ x xs ys. refl) (λ x. cond (bytes_eq m x) 1 0) (all_marks t.nodes) [], marks_counted m t.nodes)

-- ---- the windows of a caller

pub windows_rise : WindowsRise
windows_rise who t =
    let sorted = puts_sorted put_id put_ids (λ v w. ltb v.0 w.0) (λ x. refl) (λ x y ys. refl) (λ ys. refl) (λ x xs ys. refl) (IsStrictWeakOrder-by_number (λ (v : ConId). v.0)) (owned who t) [] (λ k d from within. absurd (omega (arith, within))) in
    let ids = put_ids (owned who t) [] in
    IsNonDecreasingBy-from_all_adjacent (λ (v : ConId). v.0) ids (λ k d within. ltb-false (get_or ids (k + 1) d).0 (get_or ids k d).0 (sorted k d (omega arith) within))

put_times : (v w : ConId) (ids : List ConId) → times v (put_id w ids) ≡ cond (same w v) 1 0 + times v ids
put_times v w [] = refl
put_times v w (x ∷ ids) = by_test (ltb w.0 x.0) (put_times v w ids)
  where
    by_test : (b : Bool) → times v (put_id w ids) ≡ cond (same w v) 1 0 + times v ids → times v (cond b (w ∷ x ∷ ids) (x ∷ put_id w ids)) ≡ cond (same w v) 1 0 + times v (x ∷ ids)
    by_test true h = refl
    by_test false h = omega (arith, h)

puts_times : (v : ConId) (ws ids : List ConId) → times v (put_ids ws ids) ≡ times v ws + times v ids
puts_times v [] ids = omega arith
puts_times v (w ∷ ws) ids = omega (arith, puts_times v ws (put_id w ids), put_times v w ids)

pub windows_are_all : WindowsAreAll
windows_are_all who t v = by_test (is_window t who v) refl
  where
    all : times v (put_ids (owned who t) []) ≡ times v (owned who t)
    all = omega (arith, puts_times v (owned who t) [])

    by_test : (b : Bool) → is_window t who v ≡ b → times v (put_ids (owned who t) []) ≡ cond b (times v t.recency) 0
    by_test true e = all ∙ times-kept (is_window t who) v t.recency e
    by_test false e = all ∙ times-dropped (is_window t who) v t.recency e

-- the order of recency has a window of the caller once
window_once : (who : ℕ) (t : TreeValue) (v : ConId) → IsSound t → is_window t who v ≡ true → times v t.recency ≡ 1
window_once who t v s h =
    let counted = found_is_counted v t s (caller_window who (kind_of con_kind v t.nodes) h) in
    omega (arith, s.known v, s.once v, counted, ranked_window v t.nodes, ranked_tally v t.nodes)

pub windows_are_once : WindowsAreOnce
windows_are_once who t v s = windows_are_all who t v ∙ by_test (is_window t who v) refl
  where
    by_test : (b : Bool) → is_window t who v ≡ b → cond b (times v t.recency) 0 ≡ cond b 1 0
    by_test true e = window_once who t v s e
    by_test false e = refl
