-- The first and the last of some keys in the order: a step on and a step back come to the key where one was.
use Rattle.std.proofs.Common.{◌≡◌, ℕ, Bool, true, false, cond, ◌⊎◌, inl, inr, List, [], ◌∷◌, ◌++◌, Option, None, Some, refl, ap, sym, ◌∙◌, subst, arith}
use Rattle.std.specs.Prelude.{not}
use Rattle.std.specs.Option.{option_or}
use Rattle.std.proofs.lemmas.Bool.Decides.{nat_tests}
use Rattle.wm_shared.specs.declared.keys.Key.{Key}
use Rattle.wm_shared.specs.Keys.{comes_before}
use Rattle.wm_spaces.specs.declared.order.Pick.{Pick}
use Rattle.wm_spaces.specs.declared.order.Pick.TheVariants as picking
use Rattle.wm_spaces.specs.Order.{better, picks}
use Rattle.wm_spaces.specs.Targets.{past}

-- ---- one key goes before another, going on or back

abbrev pub beats : Bool → Key → Key → Bool
beats false a b = comes_before a b
beats true a b = comes_before b a

before_self : (a : Key) → comes_before a a ≡ false
before_self a = grind (arith, nat_tests)

before_once : (a b : Key) → comes_before a b ≡ true → comes_before b a ≡ false
before_once a b h = grind (arith, nat_tests)

before_not : (a b c : Key) → comes_before a b ≡ false → comes_before b c ≡ false → comes_before a c ≡ false
before_not a b c h k = grind (arith, nat_tests)

before_one : (a b : Key) → comes_before a b ≡ false → comes_before b a ≡ false → a ≡ b
before_one a b h k =
    let first : a.first ≡ b.first = grind (arith, nat_tests) in
    let number : a.id.0 ≡ b.id.0 = grind (arith, nat_tests) in
    let of : ℕ → ℕ → Key = λ f n. record { first = f; id = record { 0 = n } } in
    ap (λ (z : ℕ). of z a.id.0) first ∙ ap (λ (z : ℕ). of b.first z) number

beats_self : (back : Bool) (a : Key) → beats back a a ≡ false
beats_self false a = before_self a
beats_self true a = before_self a

beats_once : (back : Bool) (a b : Key) → beats back a b ≡ true → beats back b a ≡ false
beats_once false a b h = before_once a b h
beats_once true a b h = before_once b a h

beats_not : (back : Bool) (a b c : Key) → beats back a b ≡ false → beats back b c ≡ false → beats back a c ≡ false
beats_not false a b c h k = before_not a b c h k
beats_not true a b c h k = before_not c b a k h

beats_one : (back : Bool) (a b : Key) → beats back a b ≡ false → beats back b a ≡ false → a ≡ b
beats_one false a b h k = before_one a b h k
beats_one true a b h k = before_one a b k h

beats_other : (back : Bool) (a b : Key) → beats (not back) a b ≡ beats back b a
beats_other false a b = refl
beats_other true a b = refl

past_picks : (back : Bool) (k j : Key) → picks (past back k) j ≡ beats back k j
past_picks false k j = refl
past_picks true k j = refl

better_is : (back : Bool) (j m : Key) → better back (Some j) (Some m) ≡ cond (beats back m j) (Some m) (Some j)
better_is false j m = refl
better_is true j m = refl

better_none : (back : Bool) (j : Key) → better back (Some j) None ≡ Some j
better_none false j = refl
better_none true j = refl

-- ---- the best of those that are looked at

-- the last or first of those keys that are looked at, and another one
abbrev pub best_of : Bool → Pick → List Key → Option Key → Option Key
best_of back p [] m = m
best_of back p (k ∷ ks) m = cond (picks p k) (better back (Some k) (best_of back p ks m)) (best_of back p ks m)

abbrev pub In : Key → List Key → Type 0
In k [] = ⊥
In k (j ∷ js) = (j ≡ k) ⊎ In k js

-- none is looked at, or none that is goes before it
abbrev IsBest : Bool → Pick → List Key → Option Key → Type 0
IsBest back p ks None = (k : Key) → In k ks → picks p k ≡ false
IsBest back p ks (Some m) = In m ks × (picks p m ≡ true) × ((k : Key) → In k ks → picks p k ≡ true → beats back k m ≡ false)

best_is : (back : Bool) (p : Pick) (ks : List Key) → IsBest back p ks (best_of back p ks None)
best_is back p [] = λ k i. absurd i
best_is back p (j ∷ js) = by (picks p j) refl (best_of back p js None) (best_is back p js)
  where
    skip_none : picks p j ≡ false → ((k : Key) → In k js → picks p k ≡ false) → (k : Key) → (j ≡ k) ⊎ In k js → picks p k ≡ false
    skip_none e ih k (inl one) = ap (picks p) (sym one) ∙ e
    skip_none e ih k (inr i) = ih k i

    skip_some : (m : Key) → picks p j ≡ false → ((k : Key) → In k js → picks p k ≡ true → beats back k m ≡ false) → (k : Key) → (j ≡ k) ⊎ In k js → picks p k ≡ true → beats back k m ≡ false
    skip_some m e ih k (inl one) h = let no : picks p k ≡ false = ap (picks p) (sym one) ∙ e in cc
    skip_some m e ih k (inr i) h = ih k i h

    only_one : ((k : Key) → In k js → picks p k ≡ false) → (k : Key) → (j ≡ k) ⊎ In k js → picks p k ≡ true → beats back k j ≡ false
    only_one ih k (inl one) h = ap (λ z. beats back z j) (sym one) ∙ beats_self back j
    only_one ih k (inr i) h = let no : picks p k ≡ false = ih k i in cc

    older : (m : Key) → beats back m j ≡ true → ((k : Key) → In k js → picks p k ≡ true → beats back k m ≡ false) → (k : Key) → (j ≡ k) ⊎ In k js → picks p k ≡ true → beats back k m ≡ false
    older m e ih k (inl one) h = ap (λ z. beats back z m) (sym one) ∙ beats_once back m j e
    older m e ih k (inr i) h = ih k i h

    newer : (m : Key) → beats back m j ≡ false → ((k : Key) → In k js → picks p k ≡ true → beats back k m ≡ false) → (k : Key) → (j ≡ k) ⊎ In k js → picks p k ≡ true → beats back k j ≡ false
    newer m e ih k (inl one) h = ap (λ z. beats back z j) (sym one) ∙ beats_self back j
    newer m e ih k (inr i) h = beats_not back k m j (ih k i h) e

    choose : (m : Key) (b : Bool) → beats back m j ≡ b → picks p j ≡ true → IsBest back p js (Some m) → IsBest back p (j ∷ js) (cond b (Some m) (Some j))
    choose m true d e ih = (inr ih.0, ih.1, older m d ih.2)
    choose m false d e ih = (inl refl, e, newer m d ih.2)

    by : (b : Bool) → picks p j ≡ b → (r : Option Key) → IsBest back p js r → IsBest back p (j ∷ js) (cond b (better back (Some j) r) r)
    by false e None ih = skip_none e ih
    by false e (Some m) ih = (inr ih.0, ih.1, skip_some m e ih.2)
    by true e None ih = subst (λ z. IsBest back p (j ∷ js) z) (sym (better_none back j)) (inl refl, e, only_one ih)
    by true e (Some m) ih = subst (λ z. IsBest back p (j ∷ js) z) (sym (better_is back j m)) (choose m (beats back m j) refl e ih)

pub append_best : (back : Bool) (p : Pick) (xs ys : List Key) (m : Option Key) → best_of back p (xs ++ ys) m ≡ best_of back p xs (best_of back p ys m)
append_best back p [] ys m = refl
append_best back p (x ∷ xs) ys m = ap (λ z. cond (picks p x) (better back (Some x) z) z) (append_best back p xs ys m)

pub in_left : (k : Key) (xs ys : List Key) → In k xs → In k (xs ++ ys)
in_left k [] ys i = absurd i
in_left k (x ∷ xs) ys (inl e) = inl e
in_left k (x ∷ xs) ys (inr i) = inr (in_left k xs ys i)

pub in_right : (k : Key) (xs ys : List Key) → In k ys → In k (xs ++ ys)
in_right k [] ys i = i
in_right k (x ∷ xs) ys i = inr (in_right k xs ys i)

pub in_either : (k : Key) (xs ys : List Key) → In k (xs ++ ys) → In k xs ⊎ In k ys
in_either k [] ys i = inr i
in_either k (x ∷ xs) ys (inl e) = inl (inl e)
in_either k (x ∷ xs) ys (inr i) = lift (in_either k xs ys i)
  where
    lift : In k xs ⊎ In k ys → In k (x ∷ xs) ⊎ In k ys
    lift (inl i) = inl (inr i)
    lift (inr i) = inr i

-- ---- a step, and a step back

-- the neighbour of a key, from the end to the other end
abbrev pub beside : Bool → Key → List Key → Option Key
beside back k ks = option_or (best_of back (past back k) ks None) (best_of back picking.All ks None)

-- k is the key of that option, which is one of the keys
pub record IsStep (ks : List Key) (r : Option Key) : Type 0 where
  pub key : Key
  pub is : r ≡ Some key
  pub listed : In key ks

pub steps : (back : Bool) (k : Key) (ks : List Key) → In k ks → IsStep ks (beside back k ks)
steps back k ks i = by (best_of back (past back k) ks None) (best_is back (past back k) ks) (best_of back picking.All ks None) (best_is back picking.All ks)
  where
    by : (r : Option Key) → IsBest back (past back k) ks r → (a : Option Key) → IsBest back picking.All ks a → IsStep ks (option_or r a)
    by (Some m) x a y = record { key = m; is = refl; listed = x.0 }
    by None x (Some m) y = record { key = m; is = refl; listed = y.0 }
    by None x None y = let no : true ≡ false = y k i in cc

-- the step back comes to the key itself
module _ (back : Bool) (k : Key) (ks : List Key) (i : In k ks) where
  -- what it knows of the neighbour m
  record IsBeside (m : Key) : Type 0 where
    there : In m ks
    near : ((beats back k m ≡ true) × ((j : Key) → In j ks → beats back k j ≡ true → beats back j m ≡ false))
        ⊎ (((j : Key) → In j ks → beats back k j ≡ false) × ((j : Key) → In j ks → beats back j m ≡ false))

  beside_is : (m : Key) → beside back k ks ≡ Some m → IsBeside m
  beside_is m = by (best_of back (past back k) ks None) (best_is back (past back k) ks) (best_of back picking.All ks None) (best_is back picking.All ks)
    where
      by : (r : Option Key) → IsBest back (past back k) ks r → (a : Option Key) → IsBest back picking.All ks a → option_or r a ≡ Some m → IsBeside m
      by (Some n) x a y e =
          let one : n ≡ m = cc in
          subst (λ z. IsBeside z) one (record {
            there = x.0;
            near = inl (sym (past_picks back k n) ∙ x.1, λ j in_j b. x.2 j in_j (past_picks back k j ∙ b));
          })
      by None x (Some n) y e =
          let one : n ≡ m = cc in
          subst (λ z. IsBeside z) one (record {
            there = y.0;
            near = inr (λ j in_j. sym (past_picks back k j) ∙ x j in_j, λ j in_j. y.2 j in_j refl);
          })
      by None x None y e = cc

  returns : (m : Key) → IsBeside m → beside (not back) m ks ≡ Some k
  returns m b = by (best_of (not back) (past (not back) m) ks None) (best_is (not back) (past (not back) m) ks) (best_of (not back) picking.All ks None) (best_is (not back) picking.All ks) b.near
    where
      Near : Type 0
      Near = ((beats back k m ≡ true) × ((j : Key) → In j ks → beats back k j ≡ true → beats back j m ≡ false)) ⊎ (((j : Key) → In j ks → beats back k j ≡ false) × ((j : Key) → In j ks → beats back j m ≡ false))

      -- the picks behind m, going the other way
      other : (j : Key) → picks (past (not back) m) j ≡ beats back j m
      other j = past_picks (not back) m j ∙ beats_other back m j

      -- a key that lies before m and not before k is k
      found : (g : Key) → In g ks → beats back g m ≡ true → ((j : Key) → In j ks → beats back k j ≡ true → beats back j m ≡ false) → beats back g k ≡ false → g ≡ k
      found g in_g before none h = by_g (beats back k g) refl
        where
          by_g : (x : Bool) → beats back k g ≡ x → g ≡ k
          by_g false e = beats_one back g k h e
          by_g true e = let no : beats back g m ≡ false = none g in_g e in absurd (cc (no, before))

      by : (r : Option Key) → IsBest (not back) (past (not back) m) ks r → (a : Option Key) → IsBest (not back) picking.All ks a → Near → option_or r a ≡ Some k
      by (Some g) x a y (inl n) =
          let before : beats back g m ≡ true = sym (other g) ∙ x.1 in
          let not_k : beats back g k ≡ false = sym (beats_other back k g) ∙ x.2 k i (other k ∙ n.0) in
          ap (λ z. Some z) (found g x.0 before n.1 not_k)
      by None x a y (inl n) = let no : beats back k m ≡ false = sym (other k) ∙ x k i in absurd (cc (no, n.0))
      by (Some g) x a y (inr n) = let no : beats back g m ≡ false = n.1 g x.0 in absurd (cc (no, sym (other g) ∙ x.1))
      by None x (Some g) y (inr n) =
          let not_k : beats back g k ≡ false = sym (beats_other back k g) ∙ y.2 k i refl in
          ap (λ z. Some z) (beats_one back g k not_k (n.0 g y.0))
      by None x None y (inr n) = let no : true ≡ false = y k i in cc

  pub comes_back : (m : Key) → beside back k ks ≡ Some m → beside (not back) m ks ≡ Some k
  comes_back m e = returns m (beside_is m e)

-- nor do others of the keys keep it from that, where they are fewer then
pub comes_back_in : (back : Bool) (k : Key) (ks : List Key) (i : In k ks) (m : Key) → beside back k ks ≡ Some m → (js : List Key) → ((j : Key) → In j js → In j ks) → In k js → In m js → beside (not back) m js ≡ Some k
comes_back_in back k ks i m e js sub in_k in_m = returns back k js in_k m (record { there = in_m; near = fewer (beside_is back k ks i m e).near })
  where
    fewer : ((beats back k m ≡ true) × ((j : Key) → In j ks → beats back k j ≡ true → beats back j m ≡ false)) ⊎ (((j : Key) → In j ks → beats back k j ≡ false) × ((j : Key) → In j ks → beats back j m ≡ false))
        → ((beats back k m ≡ true) × ((j : Key) → In j js → beats back k j ≡ true → beats back j m ≡ false)) ⊎ (((j : Key) → In j js → beats back k j ≡ false) × ((j : Key) → In j js → beats back j m ≡ false))
    fewer (inl n) = inl (n.0, λ j x b. n.1 j (sub j x) b)
    fewer (inr n) = inr (λ j x. n.0 j (sub j x), λ j x. n.1 j (sub j x))
