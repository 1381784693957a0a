-- Marks that are given one after the other: how many are new, and how many there are afterwards.
use Rattle.std.proofs.Common.{◌≡◌, ℕ, ◌+◌, ◌≤◌, Bool, true, false, cond, ◌||◌, List, [], ◌∷◌, refl, sym, ◌∙◌, ap, arith}
use Rattle.std.specs.Str.{bytes_eq}
use Rattle.wm_focus.specs.Marks.{bears}
use Rattle.wm_focus.proofs.MarkLists.{bytes_one}
use Rattle.wm_swallow.specs.Limits.{different}

-- tests that differ in the mark m alone, which the second one passes
pub record LearnsOf (m : List ℕ) (known later : List ℕ → Bool) : Type 0 where
  pub own : later m ≡ true
  pub others : (x : List ℕ) → bytes_eq x m ≡ false → later x ≡ known x

-- what counts as known makes the number
pub different_same : (known later : List ℕ → Bool) → ((x : List ℕ) → later x ≡ known x) → (ms : List (List ℕ)) → different later ms ≡ different known ms
different_same known later h [] = refl
different_same known later h (m ∷ ms) = rw (h m, different_same known later h ms) refl

module _ (m : List ℕ) (known later : List ℕ → Bool) (learns : LearnsOf m known later) where
  same_mark : (x : List ℕ) → bytes_eq x m ≡ true → later x ≡ true
  same_mark x e = rw (bytes_one x m e) learns.own

  -- a mark that was not known is one the fewer
  fewer : known m ≡ false → (ms : List (List ℕ)) → different later ms + cond (bears m ms) 1 0 ≤ different known ms
  fewer unknown [] = omega arith
  fewer unknown (x ∷ xs) = by (bytes_eq x m) refl (fewer unknown xs)
    where
      by : (e : Bool) → bytes_eq x m ≡ e → different later xs + cond (bears m xs) 1 0 ≤ different known xs
          → (cond (bears x xs || later x) 0 1 + different later xs) + cond (bytes_eq x m || bears m xs) 1 0 ≤ cond (bears x xs || known x) 0 1 + different known xs
      by true e h =
          let same : x ≡ m = bytes_one x m e in
          let unknown_x : known x ≡ false = rw same unknown in
          rw (e, same_mark x e, unknown_x) (own (bears x xs) (bears m xs) (ap (λ z. bears z xs) same) (different later xs) (different known xs) h)
        where
          own : (b c : Bool) → b ≡ c → (l k : ℕ) → l + cond c 1 0 ≤ k → (cond (b || true) 0 1 + l) + 1 ≤ cond (b || false) 0 1 + k
          own true true e l k h = omega (arith, h)
          own true false e l k h = cc
          own false true e l k h = cc
          own false false e l k h = omega (arith, h)
      by false e h = rw (e, learns.others x e) (other (bears x xs) (known x) (different later xs) (different known xs) (cond (bears m xs) 1 0) h)
        where
          other : (b k : Bool) (l n c : ℕ) → l + c ≤ n → (cond (b || k) 0 1 + l) + c ≤ cond (b || k) 0 1 + n
          other true k l n c h = omega (arith, h)
          other false true l n c h = omega (arith, h)
          other false false l n c h = omega (arith, h)

  -- after a mark that was known nothing changes
  known_same : known m ≡ true → (x : List ℕ) → later x ≡ known x
  known_same h x = by (bytes_eq x m) refl
    where
      by : (e : Bool) → bytes_eq x m ≡ e → later x ≡ known x
      by true e = same_mark x e ∙ sym (rw (bytes_one x m e) h)
      by false e = learns.others x e

  -- a mark that was not known takes one from those that are new
  pub takes_one : (ms : List (List ℕ)) → cond (known m) 0 1 + different later ms ≤ different known (m ∷ ms)
  takes_one ms = by (known m) refl
    where
      by : (b : Bool) → known m ≡ b → cond b 0 1 + different later ms ≤ cond (bears m ms || b) 0 1 + different known ms
      by true h = let e = different_same known later (known_same h) ms in omega (arith, e)
      by false h = step (bears m ms) (fewer h ms)
        where
          step : (b : Bool) → different later ms + cond b 1 0 ≤ different known ms → 1 + different later ms ≤ cond (b || false) 0 1 + different known ms
          step true h = omega (arith, h)
          step false h = omega (arith, h)
