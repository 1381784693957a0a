-- Taking a mark off the first node that has it, again and again.
use Rattle.std.proofs.Common.{◌≡◌, ℕ, suc, ◌+◌, ◌≤◌, ◌<◌, Bool, true, false, cond, ◌&&◌, ◌||◌, not, List, [], ◌∷◌, length, Option, None, Some, refl, ap, ◌∙◌, arith}
use Rattle.std.specs.Option.{option_or}
use Rattle.std.specs.Str.{bytes_eq}
use Rattle.wm_base.specs.declared.ids.ConId.{ConId}
use Rattle.wm_tree.specs.Marks.{bearer, bears, part_off, taken_off}
use Rattle.wm_forest.proofs.ChangeLemmas.{by_change}
use Rattle.wm_forest.proofs.CountLemmas.{counted}
use Rattle.wm_forest.proofs.RecencyLemmas.{same_is, same_self}
use Rattle.wm_forest.specs.Change.{at, is_id}
use Rattle.wm_forest.specs.Counts.{mark_count}
use Rattle.wm_forest.specs.Forest.{Forest, end, con}
use Rattle.wm_forest.specs.Look.{first_marks, has, only, same}
use Rattle.wm_tree.specs.Move.{marks_in}
use Rattle.wm_forest.specs.Marks.{other_marks, unmark_word}
use Rattle.wm_forest.specs.SoundRow.{tally}

-- ---- lists

other_none : (n : List ℕ) (ms : List (List ℕ)) → bears n ms ≡ false → other_marks n ms ≡ ms
other_none n [] h = refl
other_none n (m ∷ ms) h = by (bytes_eq m n) (other_none n ms) h where
  by : (b : Bool) → (bears n ms ≡ false → other_marks n ms ≡ ms) → (b || bears n ms) ≡ false → cond (not b) (m ∷ other_marks n ms) (other_marks n ms) ≡ m ∷ ms
  by true r h = cc
  by false r h = ap (λ ys. m ∷ ys) (r h)

pub none_other : (n : List ℕ) (ms : List (List ℕ)) → bears n (other_marks n ms) ≡ false
none_other n [] = refl
none_other n (m ∷ ms) = by (bytes_eq m n) refl (none_other n ms) where
  by : (b : Bool) → bytes_eq m n ≡ b → bears n (other_marks n ms) ≡ false → bears n (other_marks n (m ∷ ms)) ≡ false
  by true e h = simp e h
  by false e h = simp e h

pub other_most : (n : List ℕ) (ms : List (List ℕ)) → length (other_marks n ms) ≤ length ms
other_most n [] = omega arith
other_most n (m ∷ ms) = by (not (bytes_eq m n)) (other_most n ms) where
  by : (b : Bool) → length (other_marks n ms) ≤ length ms → length (cond b (m ∷ other_marks n ms) (other_marks n ms)) ≤ suc (length ms)
  by true h = omega (arith, h)
  by false h = omega (arith, h)

other_fewer : (n : List ℕ) (ms : List (List ℕ)) → bears n ms ≡ true → length (other_marks n ms) < length ms
other_fewer n [] h = cc
other_fewer n (m ∷ ms) h = by (bytes_eq m n) (other_fewer n ms) h where
  by : (b : Bool) → (bears n ms ≡ true → length (other_marks n ms) < length ms) → (b || bears n ms) ≡ true → length (cond (not b) (m ∷ other_marks n ms) (other_marks n ms)) < suc (length ms)
  by true r h = omega (arith, other_most n ms)
  by false r h = omega (arith, r h)

-- ---- who is found

test_true : (a b : Bool) → (a && b) ≡ true → (a ≡ true) × (b ≡ true)
test_true true b h = (refl, h)
test_true false b h = cc

-- the one that is kept is not found
pub bearer_other : (keep : Option ConId) (n : List ℕ) (f : Forest) (c : ConId) → bearer keep n f ≡ Some c → is_id c keep ≡ false
bearer_other keep n end c h = cc
bearer_other keep n (con part kids floats rest) c h =
    step (not (is_id part.id keep) && bears n part.marks) (bearer keep n kids) (bearer keep n floats) refl refl refl
    (bearer_other keep n kids c) (bearer_other keep n floats c) (bearer_other keep n rest c) h
  where
    negated : (b : Bool) → not b ≡ true → b ≡ false
    negated true h = cc
    negated false h = refl

    step : (a : Bool) (x y : Option ConId) → (not (is_id part.id keep) && bears n part.marks) ≡ a → bearer keep n kids ≡ x → bearer keep n floats ≡ y
        → (bearer keep n kids ≡ Some c → is_id c keep ≡ false) → (bearer keep n floats ≡ Some c → is_id c keep ≡ false) → (bearer keep n rest ≡ Some c → is_id c keep ≡ false)
        → cond a (Some part.id) (option_or x (option_or y (bearer keep n rest))) ≡ Some c → is_id c keep ≡ false
    step true x y e p q u v w h =
        let one : part.id ≡ c = cc in
        rw (← one) (negated (is_id part.id keep) (test_true (not (is_id part.id keep)) (bears n part.marks) e).0)
    step false (Some i) y e p q u v w h = u (p ∙ h)
    step false None (Some i) e p q u v w h = v (q ∙ h)
    step false None None e p q u v w h = w h

-- a node that has a mark is there
marked_there : (n : List ℕ) (c : ConId) (f : Forest) → bears n (marks_in c f) ≡ true → has c f ≡ true
marked_there n c end h = cc
marked_there n c (con part kids floats rest) h = by (same part.id c) (has c kids) (has c floats) (marked_there n c rest) h where
  by : (a k l : Bool) → (bears n (marks_in c rest) ≡ true → has c rest ≡ true)
      → bears n (first_marks (cond a (con part kids floats end) (cond k (only c kids) (cond l (only c floats) (only c rest))))) ≡ true → (a || k || l || has c rest) ≡ true
  by true k l r h = refl
  by false true l r h = refl
  by false false true r h = refl
  by false false false r h = r h

abbrev Once : Forest → Type 0
Once f = (i : ConId) → tally i f ≤ 1

-- where each id is there once, the one that is found has the mark
pub bearer_marks : (keep : Option ConId) (n : List ℕ) (f : Forest) (c : ConId) → Once f → bearer keep n f ≡ Some c → bears n (marks_in c f) ≡ true
bearer_marks keep n end c once h = cc
bearer_marks keep n (con part kids floats rest) c once h =
    step (not (is_id part.id keep) && bears n part.marks) (bearer keep n kids) (bearer keep n floats) refl refl refl
    (bearer_marks keep n kids c (λ j. omega (arith, once j))) (bearer_marks keep n floats c (λ j. omega (arith, once j))) (bearer_marks keep n rest c (λ j. omega (arith, once j))) h
  where
    at_part : (b : Bool) → same part.id c ≡ b → 1 ≤ tally c kids + tally c floats + tally c rest → same part.id c ≡ false
    at_part false e more = e
    at_part true e more = let much : 1 + tally c kids + tally c floats + tally c rest ≤ 1 = rw e at (once c) in absurd (omega (arith, much, more))

    absent : (g : Forest) (b : Bool) → has c g ≡ b → tally c g ≡ 0 → has c g ≡ false
    absent g false e none = e
    absent g true e none = absurd (omega (arith, counted c g e, none))

    step : (a : Bool) (x y : Option ConId) → (not (is_id part.id keep) && bears n part.marks) ≡ a → bearer keep n kids ≡ x → bearer keep n floats ≡ y
        → (bearer keep n kids ≡ Some c → bears n (marks_in c kids) ≡ true) → (bearer keep n floats ≡ Some c → bears n (marks_in c floats) ≡ true) → (bearer keep n rest ≡ Some c → bears n (marks_in c rest) ≡ true)
        → cond a (Some part.id) (option_or x (option_or y (bearer keep n rest))) ≡ Some c → bears n (marks_in c (con part kids floats rest)) ≡ true
    step true x y e p q u v w h =
        let one : part.id ≡ c = cc in
        simp (same_self part.id c one) (test_true (not (is_id part.id keep)) (bears n part.marks) e).1
    step false (Some i) y e p q u v w h =
        let m = u (p ∙ h) in
        let there = marked_there n c kids m in
        let other = at_part (same part.id c) refl (omega (arith, counted c kids there)) in
        simp (other, there) m
    step false None (Some i) e p q u v w h =
        let m = v (q ∙ h) in
        let there = marked_there n c floats m in
        let other = at_part (same part.id c) refl (omega (arith, counted c floats there)) in
        let not_kids = absent kids (has c kids) refl (omega (arith, counted c floats there, once c)) in
        simp (other, not_kids, there) m
    step false None None e p q u v w h =
        let m = w h in
        let there = marked_there n c rest m in
        let other = at_part (same part.id c) refl (omega (arith, counted c rest there)) in
        let not_kids = absent kids (has c kids) refl (omega (arith, counted c rest there, once c)) in
        let not_floats = absent floats (has c floats) refl (omega (arith, counted c rest there, once c)) in
        simp (other, not_kids, not_floats) m

-- ---- what a turn does

-- a mark off a node that has it makes the marks fewer
pub fewer_marks : (c : ConId) (n : List ℕ) (f : Forest) → bears n (marks_in c f) ≡ true → mark_count (at c unmark_word n f) < mark_count f
fewer_marks c n =
    by_change c unmark_word n (λ old new found. bears n (first_marks found) ≡ true → mark_count new < mark_count old) (λ h. cc)
    (λ part kids floats rest h. omega (arith, other_fewer n part.marks h))
    (λ part kids floats rest new found p h. omega (arith, p h))
    (λ part kids floats rest new found p h. omega (arith, p h))
    (λ part kids floats rest new found p h. omega (arith, p h))

-- the mark off one node, and then off all
pub off_unmarked : (keep : Option ConId) (n : List ℕ) (c : ConId) (f : Forest) → is_id c keep ≡ false → taken_off keep n (at c unmark_word n f) ≡ taken_off keep n f
off_unmarked keep n c end other = refl
off_unmarked keep n c (con part kids floats rest) other =
    step (same part.id c) (has c kids) (has c floats) refl (off_unmarked keep n c kids other) (off_unmarked keep n c floats other) (off_unmarked keep n c rest other)
  where
    part_twice : (b : Bool) → b ≡ false → cond b (record part { marks = other_marks n part.marks }) (record part { marks = other_marks n (other_marks n part.marks) }) ≡ cond b part (record part { marks = other_marks n part.marks })
    part_twice true e = cc
    part_twice false e = ap (λ ms. record part { marks = ms }) (other_none n (other_marks n part.marks) (none_other n part.marks))

    step : (a k l : Bool) → same part.id c ≡ a → taken_off keep n (at c unmark_word n kids) ≡ taken_off keep n kids → taken_off keep n (at c unmark_word n floats) ≡ taken_off keep n floats → taken_off keep n (at c unmark_word n rest) ≡ taken_off keep n rest
        → taken_off keep n (cond a (con (record part { marks = other_marks n part.marks }) kids floats rest) (cond k (con part (at c unmark_word n kids) floats rest) (cond l (con part kids (at c unmark_word n floats) rest) (con part kids floats (at c unmark_word n rest)))))
        ≡ taken_off keep n (con part kids floats rest)
    step true k l e p q r =
        let one : part.id ≡ c = same_is part.id c e in
        let not_kept : is_id part.id keep ≡ false = rw one other in
        ap (λ z. con z (taken_off keep n kids) (taken_off keep n floats) (taken_off keep n rest)) (part_twice (is_id part.id keep) not_kept)
    step false true l e p q r = ap (λ z. con (part_off keep n part) z (taken_off keep n floats) (taken_off keep n rest)) p
    step false false true e p q r = ap (λ z. con (part_off keep n part) (taken_off keep n kids) z (taken_off keep n rest)) q
    step false false false e p q r = ap (λ z. con (part_off keep n part) (taken_off keep n kids) (taken_off keep n floats) z) r

-- where none is found there is nothing to take off
pub off_none : (keep : Option ConId) (n : List ℕ) (f : Forest) → bearer keep n f ≡ None → taken_off keep n f ≡ f
off_none keep n end h = refl
off_none keep n (con part kids floats rest) h =
    step (is_id part.id keep) (bears n part.marks) (bearer keep n kids) (bearer keep n floats) refl refl refl refl (off_none keep n kids) (off_none keep n floats) (off_none keep n rest) h
  where
    step : (i b : Bool) (x y : Option ConId) → is_id part.id keep ≡ i → bears n part.marks ≡ b → bearer keep n kids ≡ x → bearer keep n floats ≡ y
        → (bearer keep n kids ≡ None → taken_off keep n kids ≡ kids) → (bearer keep n floats ≡ None → taken_off keep n floats ≡ floats) → (bearer keep n rest ≡ None → taken_off keep n rest ≡ rest)
        → cond (not i && b) (Some part.id) (option_or x (option_or y (bearer keep n rest))) ≡ None → taken_off keep n (con part kids floats rest) ≡ con part kids floats rest
    step false true x y ei eb p q u v w h = cc
    step true b (Some j) y ei eb p q u v w h = cc
    step true b None (Some j) ei eb p q u v w h = cc
    step true b None None ei eb p q u v w h = rw (ei, u p, v q, w h) refl
    step false false (Some j) y ei eb p q u v w h = cc
    step false false None (Some j) ei eb p q u v w h = cc
    step false false None None ei eb p q u v w h =
        rw (ei, u p, v q, w h) (ap (λ ms. con (record part { marks = ms }) kids floats rest) (other_none n part.marks eb))
