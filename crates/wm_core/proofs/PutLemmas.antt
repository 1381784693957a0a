-- Elements that are put one after the other, each before the first that is greater: they stand in order, and none is lost.
use Rattle.std.proofs.Common.{◌≡◌, ℕ, zero, suc, ◌+◌, ◌<◌, Bool, true, false, cond, List, [], ◌∷◌, length, get_or, IsSortedBy, sum_by, refl, subst, arith}
use Rattle.std.proofs.lemmas.List.Sums.{sum_by-cons}
use Rattle.std.specs.Cmp.{IsStrictWeakOrder}

module _ {X : Type 0} (lt : X → X → Bool) where
  -- x stands in front of what rises from it
  sorted_cons : (x : X) (xs : List X) → ((d : X) → 0 < length xs → lt (get_or xs 0 d) x ≡ false) → IsSortedBy lt xs → IsSortedBy lt (x ∷ xs)
  sorted_cons x xs first h zero d from within = first d (omega arith)
  sorted_cons x xs first h (suc k) d from within =
      let next : suc (k + 1) ≡ suc k + 1 = omega arith in
      subst (λ n. lt (get_or (x ∷ xs) n d) (get_or xs k d) ≡ false) next (h k d (omega arith) (omega arith))

  sorted_tail : (x : X) (xs : List X) → IsSortedBy lt (x ∷ xs) → IsSortedBy lt xs
  sorted_tail x xs h k d from within =
      let next : suc k + 1 ≡ suc (k + 1) = omega arith in
      subst (λ n. lt (get_or (x ∷ xs) n d) (get_or xs k d) ≡ false) next (h (suc k) d (omega arith) (omega arith))

  sorted_head : (x : X) (xs : List X) → IsSortedBy lt (x ∷ xs) → (d : X) → 0 < length xs → lt (get_or xs 0 d) x ≡ false
  sorted_head x xs h d long = h 0 d (omega arith) (omega arith)

module _ {X : Type 0} (put : X → List X → List X) (puts : List X → List X → List X) (lt : X → X → Bool)
    (put_none : (x : X) → put x [] ≡ x ∷ []) (put_more : (x y : X) (ys : List X) → put x (y ∷ ys) ≡ cond (lt x y) (x ∷ y ∷ ys) (y ∷ put x ys))
    (puts_none : (ys : List X) → puts [] ys ≡ ys) (puts_more : (x : X) (xs ys : List X) → puts (x ∷ xs) ys ≡ puts xs (put x ys)) where
  put_sum : (f : X → ℕ) (x : X) (ys : List X) → sum_by f (put x ys) ≡ f x + sum_by f ys
  put_sum f x [] = rw (put_none x) (sum_by-cons f x [])
  put_sum f x (y ∷ ys) = rw (put_more x y ys) (by_test (lt x y) (put_sum f x ys))
    where
      by_test : (b : Bool) → sum_by f (put x ys) ≡ f x + sum_by f ys → sum_by f (cond b (x ∷ y ∷ ys) (y ∷ put x ys)) ≡ f x + sum_by f (y ∷ ys)
      by_test true h = sum_by-cons f x (y ∷ ys)
      by_test false h = omega (arith, sum_by-cons f y (put x ys), h, sum_by-cons f y ys)

  -- what is put counts with what was there
  pub puts_sum : (f : X → ℕ) (xs ys : List X) → sum_by f (puts xs ys) ≡ sum_by f xs + sum_by f ys
  puts_sum f [] ys = rw (puts_none ys) (omega arith)
  puts_sum f (x ∷ xs) ys = rw (puts_more x xs ys) (omega (arith, puts_sum f xs (put x ys), put_sum f x ys, sum_by-cons f x xs))

  -- what is put in front of ys, or in them, is not less than w
  starts : (x w : X) (ys : List X) → lt x w ≡ false → ((d : X) → 0 < length ys → lt (get_or ys 0 d) w ≡ false) → (d : X) → 0 < length (put x ys) → lt (get_or (put x ys) 0 d) w ≡ false
  starts x w [] high h d long = rw (put_none x) high
  starts x w (y ∷ ys) high h d long = rw (put_more x y ys) (by_test (lt x y))
    where
      by_test : (b : Bool) → lt (get_or (cond b (x ∷ y ∷ ys) (y ∷ put x ys)) 0 d) w ≡ false
      by_test true = high
      by_test false = h d (omega arith)

  put_sorted : IsStrictWeakOrder lt → (x : X) (ys : List X) → IsSortedBy lt ys → IsSortedBy lt (put x ys)
  put_sorted o x [] h = rw (put_none x) (sorted_cons lt x [] (λ d long. absurd (omega (arith, long))) h)
  put_sorted o x (y ∷ ys) h = rw (put_more x y ys) (by_test (lt x y) refl (put_sorted o x ys (sorted_tail lt y ys h)))
    where
      by_test : (b : Bool) → lt x y ≡ b → IsSortedBy lt (put x ys) → IsSortedBy lt (cond b (x ∷ y ∷ ys) (y ∷ put x ys))
      by_test true e k = sorted_cons lt x (y ∷ ys) (λ d long. o.one_way x y e) h
      by_test false e k = sorted_cons lt y (put x ys) (starts x y ys e (sorted_head lt y ys h)) k

  -- what is put among elements in order leaves them in order
  pub puts_sorted : IsStrictWeakOrder lt → (xs ys : List X) → IsSortedBy lt ys → IsSortedBy lt (puts xs ys)
  puts_sorted o [] ys h = rw (puts_none ys) h
  puts_sorted o (x ∷ xs) ys h = rw (puts_more x xs ys) (puts_sorted o xs (put x ys) (put_sorted o x ys h))
