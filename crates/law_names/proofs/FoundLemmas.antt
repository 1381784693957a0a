-- Nodes that pass a test: none is counted, or one is found by its id; and at most one is counted where all that are found have one id.
use Rattle.std.proofs.Common.{◌≡◌, ℕ, ◌+◌, ◌≤◌, Bool, true, false, cond, not, ◌&&◌, ◌⊎◌, inl, inr, Some, refl, ap, sym, ◌∙◌, arith}
use Rattle.wm_base.specs.declared.ids.ConId.{ConId}
use Rattle.wm_forest.proofs.CountLemmas.{count-without}
use Rattle.wm_forest.proofs.OnceLemmas.{in_floats, in_kids, in_rest, only_floats, only_kids, only_rest}
use Rattle.wm_forest.proofs.RecencyLemmas.{same_is, same_self}
use Rattle.wm_forest.specs.Counts.{count}
use Rattle.wm_forest.specs.declared.part.Part.{Part}
use Rattle.wm_forest.specs.Forest.{Forest, end, con}
use Rattle.wm_forest.specs.Look.{first_part, has, only, same}
use Rattle.wm_forest.specs.SoundRow.{tally}

-- one where the node passes the test
abbrev pub one_if : (Part → Bool) → Part → ℕ
one_if q p = cond (q p) 1 0

-- a node of the forest that passes the test, and is found by its id
pub record Found (q : Part → Bool) (f : Forest) : Type 0 where
  pub part : Part
  pub passes : q part ≡ true
  pub there : has part.id f ≡ true
  pub first : first_part (only part.id f) ≡ Some part

pub found : (q : Part → Bool) (f : Forest) → ((c : ConId) → tally c f ≤ 1) → (count (one_if q) f ≡ 0) ⊎ Found q f
found q end once = inl refl
found q (con part kids floats rest) once = step (q part) refl (found q kids (λ c. omega (arith, once c))) (found q floats (λ c. omega (arith, once c))) (found q rest (λ c. omega (arith, once c)))
  where
    whole : Forest
    whole = con part kids floats rest

    step : (b : Bool) → q part ≡ b → (count (one_if q) kids ≡ 0) ⊎ Found q kids → (count (one_if q) floats ≡ 0) ⊎ Found q floats → (count (one_if q) rest ≡ 0) ⊎ Found q rest
        → (cond b 1 0 + count (one_if q) kids + count (one_if q) floats + count (one_if q) rest ≡ 0) ⊎ Found q (con part kids floats rest)
    step true e x y z = inr (record { part = part; passes = e; there = rw (same_self part.id part.id refl) refl; first = rw (same_self part.id part.id refl) refl })
    step false e (inr x) y z = inr (record {
      part = x.part;
      passes = x.passes;
      there = in_kids x.part.id part kids floats rest x.there;
      first = ap first_part (only_kids x.part.id part kids floats rest (once x.part.id) x.there) ∙ x.first;
    })
    step false e (inl x) (inr y) z = inr (record {
      part = y.part;
      passes = y.passes;
      there = in_floats y.part.id part kids floats rest y.there;
      first = ap first_part (only_floats y.part.id part kids floats rest (once y.part.id) y.there) ∙ y.first;
    })
    step false e (inl x) (inl y) (inr z) = inr (record {
      part = z.part;
      passes = z.passes;
      there = in_rest z.part.id part kids floats rest z.there;
      first = ap first_part (only_rest z.part.id part kids floats rest (once z.part.id) z.there) ∙ z.first;
    })
    step false e (inl x) (inl y) (inl z) = inl (omega (arith, x, y, z))

-- ---- at most one

abbrev other_than : (Part → Bool) → ConId → Part → Bool
other_than q c p = q p && not (same p.id c)

one_or_other : (a b : Bool) → cond a 1 0 ≤ cond (a && not b) 1 0 + cond b 1 0
one_or_other true true = omega arith
one_or_other true false = omega arith
one_or_other false b = by b
  where
    by : (b : Bool) → 0 ≤ 0 + cond b 1 0
    by true = omega arith
    by false = omega arith

one_and_others : (q : Part → Bool) (c : ConId) (f : Forest) → count (one_if q) f ≤ count (one_if (other_than q c)) f + tally c f
one_and_others q c end = omega arith
one_and_others q c (con part kids floats rest) =
    omega (arith, one_or_other (q part) (same part.id c), one_and_others q c kids, one_and_others q c floats, one_and_others q c rest)

both_of : (a b : Bool) → (a && not b) ≡ true → (a ≡ true) × (b ≡ false)
both_of true true h = cc
both_of true false h = (refl, refl)
both_of false b h = cc

pub at_most_one : (q : Part → Bool) (f : Forest) → ((c : ConId) → tally c f ≤ 1) → ((x y : Found q f) → x.part.id ≡ y.part.id) → count (one_if q) f ≤ 1
at_most_one q f once alike = step (found q f once)
  where
    next : (x : Found q f) → (count (one_if (other_than q x.part.id)) f ≡ 0) ⊎ Found (other_than q x.part.id) f → count (one_if q) f ≤ 1
    next x (inl e) = omega (arith, e, one_and_others q x.part.id f, once x.part.id)
    next x (inr y) =
        let both = both_of (q y.part) (same y.part.id x.part.id) y.passes in
        let other : Found q f = record { part = y.part; passes = both.0; there = y.there; first = y.first } in
        let one : same y.part.id x.part.id ≡ true = same_self y.part.id x.part.id (alike other x) in
        absurd (cc (one, both.1))

    step : (count (one_if q) f ≡ 0) ⊎ Found q f → count (one_if q) f ≤ 1
    step (inl e) = omega (arith, e)
    step (inr x) = next x (found (other_than q x.part.id) f once)

-- ---- two

abbrev at_id : (Part → Bool) → ConId → Part → Bool
at_id q c p = q p && same p.id c

first_counts : (m : Part → ℕ) (part : Part) (g : Forest) → first_part g ≡ Some part → m part ≤ count m g
first_counts m part end h = cc
first_counts m part (con p kids floats rest) h = let e : p ≡ part = cc in rw e (omega arith)

one_there : (q : Part → Bool) (part : Part) (f : Forest) → q part ≡ true → first_part (only part.id f) ≡ Some part → 1 ≤ count (one_if (at_id q part.id)) f
one_there q part f passes first =
    let m : Part → ℕ = one_if (at_id q part.id) in
    let one : one_if (at_id q part.id) part ≡ 1 = rw (passes, same_self part.id part.id refl) refl in
    omega (arith, one, first_counts (one_if (at_id q part.id)) part (only part.id f) first, count-without (one_if (at_id q part.id)) part.id f)

two_at : (q : Part → Bool) (c d : ConId) (p : Part) → same c d ≡ false → one_if (at_id q c) p + one_if (at_id q d) p ≤ one_if q p
two_at q c d p apart = step (q p) (same p.id c) refl (same p.id d) refl
  where
    step : (a b : Bool) → same p.id c ≡ b → (e : Bool) → same p.id d ≡ e → cond (a && b) 1 0 + cond (a && e) 1 0 ≤ cond a 1 0
    step false b eb e ee = omega arith
    step true true eb true ee = let one : same c d ≡ true = same_self c d (sym (same_is p.id c eb) ∙ same_is p.id d ee) in absurd (cc (one, apart))
    step true true eb false ee = omega arith
    step true false eb true ee = omega arith
    step true false eb false ee = omega arith

two_most : (q : Part → Bool) (c d : ConId) (f : Forest) → same c d ≡ false → count (one_if (at_id q c)) f + count (one_if (at_id q d)) f ≤ count (one_if q) f
two_most q c d end apart = omega arith
two_most q c d (con part kids floats rest) apart = omega (arith, two_at q c d part apart, two_most q c d kids apart, two_most q c d floats apart, two_most q c d rest apart)

-- two nodes of different ids that are found and pass the test are counted
pub two_counted : (q : Part → Bool) (a b : Part) (f : Forest) → q a ≡ true → first_part (only a.id f) ≡ Some a → q b ≡ true → first_part (only b.id f) ≡ Some b → same a.id b.id ≡ false → 2 ≤ count (one_if q) f
two_counted q a b f qa fa qb fb apart = omega (arith, one_there q a f qa fa, one_there q b f qb fb, two_most q a.id b.id f apart)
