-- How far a text reads is how far it is a spelling.
use Rattle.std.proofs.Common.{◌≡◌, ℕ, suc, ◌-◌, Bool, true, false, List, [], ◌∷◌, length, take, Option, Some, None, refl, sym, ap, ◌∙◌, arith, inl, inr}
use Rattle.std.specs.Prelude.{◌==◌, ◌||◌, option_map, is_some, slice_index}
use Rattle.std.proofs.lemmas.Bool.{or_cases, and_parts, eqb-true, eq-eqb, false≢true, true≢false}
use Rattle.wm_language.specs.declared.batch.Group.{Group}
use Rattle.wm_language.specs.declared.batch.Batch.{Batch}
use Rattle.wm_words.specs.Pieces.{skip}
use Rattle.wm_grammar.specs.Reading.{groups_at, groups_of, batch_of, ends_group, is_whole, IsReach}
use Rattle.wm_language.specs.Bytes.{Last}
use Rattle.wm_language.specs.Batches.{Spells}
use Rattle.wm_language.specs.Places.{IsWhole, IsFarthest}
use Rattle.wm_grammar.proofs.GroupLemmas.{spelled, reads}

abbrev IsSemicolon : ℕ → Type 0
IsSemicolon c = c ≡ 59

-- the last byte, by its place
at_next : (c d : ℕ) (t : List ℕ) → slice_index (c ∷ d ∷ t) (length (c ∷ d ∷ t) - 1) ≡ slice_index (d ∷ t) (length (d ∷ t) - 1)
at_next c d t =
    let a : length (c ∷ d ∷ t) - 1 ≡ suc (length t) = omega arith in
    let b : length (d ∷ t) - 1 ≡ length t = omega arith in
    ap (slice_index (c ∷ d ∷ t)) a ∙ ap (slice_index (d ∷ t)) (sym b)

last_told : (c : ℕ) (t : List ℕ) → slice_index (c ∷ t) (length (c ∷ t) - 1) ≡ 59 → Last IsSemicolon (c ∷ t)
last_told c [] e = e
last_told c (d ∷ t) e = last_told d t (sym (at_next c d t) ∙ e)

last_back : (c : ℕ) (t : List ℕ) → Last IsSemicolon (c ∷ t) → slice_index (c ∷ t) (length (c ∷ t) - 1) ≡ 59
last_back c [] e = e
last_back c (d ∷ t) e = at_next c d t ∙ last_back d t e

read_of : (o : Option (List Group)) → is_some o ≡ true → (b : Batch) × (option_map (λ gs. record { groups = gs }) o ≡ Some b)
read_of None h = absurd (false≢true h)
read_of (Some gs) h = (record { groups = gs }, refl)

some_of : (o : Option (List Group)) (b : Batch) → option_map (λ gs. record { groups = gs }) o ≡ Some b → is_some o ≡ true
some_of None b h = absurd cc
some_of (Some gs) b h = refl

nothing_whole : is_whole [] ≡ true
unfolding groups_of groups_at skip
nothing_whole = refl

whole_told : (t : List ℕ) → is_whole t ≡ true → IsWhole t
whole_told [] h = inl refl
whole_told (c ∷ t) h =
    let both = and_parts (ends_group (c ∷ t)) (is_some (groups_of (c ∷ t))) h in
    let b = read_of (groups_of (c ∷ t)) both.1 in
    let last : Last IsSemicolon (c ∷ t) = elim (or_cases (0 == length (c ∷ t)) (slice_index (c ∷ t) (length (c ∷ t) - 1) == 59) both.0) [
      | inl e ↦ absurd (omega (arith, eqb-true 0 (length (c ∷ t)) e))
      | inr e ↦ last_told c t (eqb-true (slice_index (c ∷ t) (length (c ∷ t) - 1)) 59 e)
    ] in
    inr (last, (b.0, spelled (c ∷ t) b.0 b.1))

or_second : (a b : Bool) → b ≡ true → (a || b) ≡ true
or_second true b h = refl
or_second false b h = h

whole_back : (t : List ℕ) → IsWhole t → is_whole t ≡ true
whole_back t (inl e) = ap is_whole e ∙ nothing_whole
whole_back [] (inr h) = nothing_whole
whole_back (c ∷ t) (inr h) =
    let last : ends_group (c ∷ t) ≡ true = or_second (0 == length (c ∷ t)) (slice_index (c ∷ t) (length (c ∷ t) - 1) == 59) (eq-eqb (slice_index (c ∷ t) (length (c ∷ t) - 1)) 59 (last_back c t h.0)) in
    let some : is_some (groups_of (c ∷ t)) ≡ true = some_of (groups_of (c ∷ t)) h.1.0 (reads (c ∷ t) h.1.0 h.1.1) in
    rw (last, some) refl

pub farthest_place : (text : List ℕ) (n : ℕ) → IsReach text n → IsFarthest text n
farthest_place text n h = record { within = h.within; whole = whole_told (take n text) h.whole; greatest = λ m lt le w. true≢false (sym (whole_back (take m text) w) ∙ h.greatest m lt le) }

none_some : (o : Option Batch) (b : Batch) → o ≡ None → o ≡ Some b → ⊥
none_some o b h k = absurd cc

pub refused : (text : List ℕ) → batch_of text ≡ None → (b : Batch) → Spells text b → ⊥
refused text h b k = none_some (batch_of text) b h (reads text b k)
