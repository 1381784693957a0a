-- A deal leaves the sum of the shares as it was.
use Rattle.std.proofs.Common.{◌≡◌, ℕ, ◌+◌, ◌*◌, ◌/◌, ◌%◌, ◌≤◌, ◌<◌, Bool, true, false, cond, not, ◌&&◌, List, [], ◌∷◌, refl, arith}
use Rattle.std.proofs.lemmas.Bool.Decides.{nat_tests}
use Rattle.std.proofs.Math.Nat.{mul-add}
use Rattle.std.specs.Prelude.{nat_lt, ◌==◌}
use Rattle.wm_sizes.proofs.BoolLemmas.{both}
use Rattle.wm_sizes.proofs.HandLemmas.{fitting}
use Rattle.wm_sizes.specs.Deals.{dealt, fits, fits_all, gained, is_named, is_partner, part, share_after, turn_after}
use Rattle.wm_sizes.specs.declared.deals.Deal.{Deal}
use Rattle.wm_forest.specs.declared.shares.Sibling.{Sibling}
use Rattle.wm_forest.specs.Look.{same}

abbrev pub total : List Sibling → ℕ
total [] = 0
total (s ∷ l) = s.share + total l

-- what the partners give or take in all
abbrev pub given : Deal → ℕ → List Sibling → ℕ
given d turn [] = 0
given d turn (x ∷ l) = cond (is_partner d x.id) (part d turn) 0 + given d (turn_after d x.id turn) l

-- how many partners there are behind the last sibling
abbrev pub ends : Deal → ℕ → List Sibling → ℕ
ends d turn [] = turn
ends d turn (x ∷ l) = ends d (turn_after d x.id turn) l

-- what the node takes or gives
abbrev pub taken : Deal → List Sibling → ℕ
taken d [] = 0
taken d (x ∷ l) = cond (same x.id d.node) d.amount 0 + taken d l

-- ---- one sibling, then all

abbrev Even : Bool → ℕ → ℕ → ℕ → ℕ → Type 0
Even true new gave old took = new + gave ≡ old + took
Even false new gave old took = new + took ≡ old + gave

one_even : (g a n : Bool) (share amount piece : ℕ) → 1 ≤ cond a (gained g share amount) (cond (not a && n) (gained (not g) share piece) share)
    → Even g (cond a (gained g share amount) (cond (not a && n) (gained (not g) share piece) share)) (cond (not a && n) piece 0) share (cond a amount 0)
one_even true true n share amount piece h = omega arith
one_even false true n share amount piece h = omega (arith, h)
one_even true false true share amount piece h = omega (arith, h)
one_even false false true share amount piece h = omega arith
one_even true false false share amount piece h = omega arith
one_even false false false share amount piece h = omega arith

add_even : (g : Bool) (a b c e k l m n : ℕ) → Even g a b c e → Even g k l m n → Even g (a + k) (b + l) (c + m) (e + n)
add_even true a b c e k l m n p q = omega (arith, p, q)
add_even false a b c e k l m n p q = omega (arith, p, q)

none_even : (g : Bool) → Even g 0 0 0 0
none_even true = refl
none_even false = refl

all_even : (d : Deal) (turn : ℕ) (l : List Sibling) → fits_all d turn l ≡ true → Even d.grow (total (dealt d turn l)) (given d turn l) (total l) (taken d l)
all_even d turn [] h = none_even d.grow
all_even d turn (x ∷ l) h =
    let b = both (fits d x turn) (fits_all d (turn_after d x.id turn) l) h in
    let f = fitting d x turn b.0 in
    let one = one_even d.grow (same x.id d.node) (is_named d.partner x.id) x.share d.amount (part d turn) f.0 in
    add_even d.grow (share_after d x turn) (cond (is_partner d x.id) (part d turn) 0) x.share (cond (same x.id d.node) d.amount 0)
    (total (dealt d (turn_after d x.id turn) l)) (given d (turn_after d x.id turn) l) (total l) (taken d l) one (all_even d (turn_after d x.id turn) l b.1)

-- ---- the parts are the amount

-- what the first partners give
abbrev firsts : ℕ → ℕ → ℕ → ℕ
firsts q r m = q * m + cond (nat_lt m r) m r

next_first : (q r m : ℕ) → firsts q r m + (q + cond (nat_lt m r) 1 0) ≡ firsts q r (m + 1)
next_first q r m = by (nat_lt m r) refl (nat_lt (m + 1) r) refl where
  more : q * (m + 1) ≡ q * m + q
  more = let e = mul-add q m 1 in omega (arith, e)

  by : (a : Bool) → nat_lt m r ≡ a → (b : Bool) → nat_lt (m + 1) r ≡ b → q * m + cond a m r + (q + cond a 1 0) ≡ q * (m + 1) + cond b (m + 1) r
  by true e true f = omega (arith, more)
  by true e false f = let p : m < r = grind (arith, nat_tests) in let z : r ≤ m + 1 = grind (arith, nat_tests) in omega (arith, more, p, z)
  by false e true f = let p : r ≤ m = grind (arith, nat_tests) in let z : m + 1 < r = grind (arith, nat_tests) in absurd (omega (arith, p, z))
  by false e false f = omega (arith, more)

given_firsts : (d : Deal) (turn : ℕ) (l : List Sibling) → (d.partners == 0) ≡ false → firsts (d.amount / d.partners) (d.amount % d.partners) turn + given d turn l ≡ firsts (d.amount / d.partners) (d.amount % d.partners) (ends d turn l)
given_firsts d turn [] some = omega arith
given_firsts d turn (x ∷ l) some = by (is_partner d x.id) (given_firsts d (turn + 1) l some) (given_firsts d turn l some) where
  by : (a : Bool) → firsts (d.amount / d.partners) (d.amount % d.partners) (turn + 1) + given d (turn + 1) l ≡ firsts (d.amount / d.partners) (d.amount % d.partners) (ends d (turn + 1) l)
      → firsts (d.amount / d.partners) (d.amount % d.partners) turn + given d turn l ≡ firsts (d.amount / d.partners) (d.amount % d.partners) (ends d turn l)
      → firsts (d.amount / d.partners) (d.amount % d.partners) turn + (cond a (part d turn) 0 + given d (cond a (turn + 1) turn) l) ≡ firsts (d.amount / d.partners) (d.amount % d.partners) (ends d (cond a (turn + 1) turn) l)
  by true h k =
      let mine : part d turn ≡ d.amount / d.partners + cond (nat_lt turn (d.amount % d.partners)) 1 0 = rw some refl in
      omega (arith, h, mine, next_first (d.amount / d.partners) (d.amount % d.partners) turn)
  by false h k = omega (arith, k)

all_given : (d : Deal) (l : List Sibling) → 0 < d.partners → ends d 0 l ≡ d.partners → given d 0 l ≡ d.amount
all_given d l some h =
    let there : (d.partners == 0) ≡ false = grind (arith, nat_tests) in
    let k = given_firsts d 0 l there in
    let small : d.amount % d.partners < d.partners = omega arith in
    let last : nat_lt d.partners (d.amount % d.partners) ≡ false = grind (arith, nat_tests) in
    let all : firsts (d.amount / d.partners) (d.amount % d.partners) (ends d 0 l) ≡ d.amount / d.partners * d.partners + d.amount % d.partners = rw (h, last) refl in
    let none : firsts (d.amount / d.partners) (d.amount % d.partners) 0 ≡ 0 = first_none (d.amount / d.partners) (d.amount % d.partners) in
    omega (arith, k, all, none)
  where
    first_none : (q r : ℕ) → firsts q r 0 ≡ 0
    first_none q r = by (nat_lt 0 r) refl where
      by : (b : Bool) → nat_lt 0 r ≡ b → q * 0 + cond b 0 r ≡ 0
      by true e = omega arith
      by false e = let z : r ≤ 0 = grind (arith, nat_tests) in omega (arith, z)

-- the sum is as it was where the node is there once and there are as many partners as the deal says
pub deal_keeps : (d : Deal) (l : List Sibling) → fits_all d 0 l ≡ true → 0 < d.partners → ends d 0 l ≡ d.partners → taken d l ≡ d.amount → total (dealt d 0 l) ≡ total l
deal_keeps d l h some e t = by d.grow (all_even d 0 l h) where
  by : (g : Bool) → Even g (total (dealt d 0 l)) (given d 0 l) (total l) (taken d l) → total (dealt d 0 l) ≡ total l
  by true k = omega (arith, k, t, all_given d l some e)
  by false k = omega (arith, k, t, all_given d l some e)
