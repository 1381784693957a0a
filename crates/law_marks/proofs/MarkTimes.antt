-- How often a mark is among marks that are taken off and given.
use Rattle.std.proofs.Common.{◌≡◌, ℕ, ◌+◌, ◌≤◌, Bool, true, false, cond, not, ◌||◌, List, [], ◌∷◌, ◌++◌, refl, ap, arith}
use Rattle.std.specs.Prelude.{filter}
use Rattle.std.specs.Str.{bytes_eq}
use Rattle.std.proofs.lemmas.Slice.Eq.{bytes_eq-Decides}
use Rattle.law_marks.specs.Marks.{mark_times}
use Rattle.wm_focus.specs.Marks.{bears, kept_marks, with_mark}
use Rattle.wm_forest.specs.Marks.{other_marks}

-- a filter lets through no more
times_filter : (p : List ℕ → Bool) (n : List ℕ) (ms : List (List ℕ)) → mark_times n (filter p ms) ≤ mark_times n ms
times_filter p n [] = omega arith
times_filter p n (m ∷ ms) = step (p m) (times_filter p n ms)
  where
    step : (b : Bool) → mark_times n (filter p ms) ≤ mark_times n ms → mark_times n (cond b (m ∷ filter p ms) (filter p ms)) ≤ cond (bytes_eq m n) 1 0 + mark_times n ms
    step true h = omega (arith, h)
    step false h = omega (arith, h)

pub times_other : (k n : List ℕ) (ms : List (List ℕ)) → mark_times n (other_marks k ms) ≤ mark_times n ms
times_other k n ms = times_filter (λ m. not (bytes_eq m k)) n ms

-- a mark that is taken off is there no longer
pub times_off : (n : List ℕ) (ms : List (List ℕ)) → mark_times n (other_marks n ms) ≡ 0
times_off n [] = refl
times_off n (m ∷ ms) = step (bytes_eq m n) refl (times_off n ms)
  where
    step : (b : Bool) → bytes_eq m n ≡ b → mark_times n (other_marks n ms) ≡ 0 → mark_times n (cond (not b) (m ∷ other_marks n ms) (other_marks n ms)) ≡ 0
    step true e h = h
    step false e h = rw e (omega (arith, h))

pub times_kept : (k n : List ℕ) (add : Bool) (ms : List (List ℕ)) → mark_times n (kept_marks k add ms) ≤ mark_times n ms
times_kept k n true ms = omega arith
times_kept k n false ms = times_filter (λ m. bytes_eq m k) n ms

times_last : (k n : List ℕ) (ms : List (List ℕ)) → mark_times n (ms ++ k ∷ []) ≡ mark_times n ms + cond (bytes_eq k n) 1 0
times_last k n [] = omega arith
times_last k n (m ∷ ms) = omega (arith, times_last k n ms)

-- one that is not among them is not counted
times_none : (n : List ℕ) (ms : List (List ℕ)) → bears n ms ≡ false → mark_times n ms ≡ 0
times_none n [] h = refl
times_none n (m ∷ ms) h = step (bytes_eq m n) h (times_none n ms)
  where
    step : (b : Bool) → (b || bears n ms) ≡ false → (bears n ms ≡ false → mark_times n ms ≡ 0) → cond b 1 0 + mark_times n ms ≡ 0
    step true h ih = cc
    step false h ih = omega (arith, ih h)

-- a mark that is given is there once, where it was there once at most
pub times_given : (n : List ℕ) (ms : List (List ℕ)) → mark_times n ms ≤ 1 → mark_times n (with_mark n ms) ≤ 1
times_given n ms h = step (bears n ms) refl
  where
    step : (b : Bool) → bears n ms ≡ b → mark_times n (cond b ms (ms ++ n ∷ [])) ≤ 1
    step true e = h
    step false e =
        let own : bytes_eq n n ≡ true = (bytes_eq-Decides n n).1 refl in
        let last : mark_times n (ms ++ n ∷ []) ≡ mark_times n ms + cond (bytes_eq n n) 1 0 = times_last n n ms in
        let one : cond {A = ℕ} (bytes_eq n n) 1 0 ≡ 1 = ap (λ b. cond {A = ℕ} b 1 0) own in
        omega (arith, last, one, times_none n ms e)

-- and another one is there as often as before
pub times_beside : (k n : List ℕ) (ms : List (List ℕ)) → bytes_eq k n ≡ false → mark_times n (with_mark k ms) ≤ mark_times n ms
times_beside k n ms other = step (bears k ms)
  where
    step : (b : Bool) → mark_times n (cond b ms (ms ++ k ∷ [])) ≤ mark_times n ms
    step true = omega arith
    step false =
        let last : mark_times n (ms ++ k ∷ []) ≡ mark_times n ms + cond (bytes_eq k n) 1 0 = times_last k n ms in
        let none : cond {A = ℕ} (bytes_eq k n) 1 0 ≡ 0 = ap (λ b. cond {A = ℕ} b 1 0) other in
        omega (arith, last, none)
