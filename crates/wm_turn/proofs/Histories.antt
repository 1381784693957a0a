-- Histories that begin one another, and the places of a caller's entries in them.
use Rattle.std.proofs.Common.{◌≡◌, ◌≢◌, ℕ, ◌+◌, ◌<◌, ◌≤◌, ◌==◌, ◌⊎◌, max, Bool, true, false, List, [], ◌∷◌, ◌++◌, length, refl, ap, sym, ◌∙◌, arith, append_assoc, length-append, inl, inr, ⊎_elim}
use Rattle.std.specs.Prelude.{nat_le, if◌then◌else◌}
use Rattle.std.specs.List.{All}
use Rattle.std.proofs.lemmas.List.Elements.{All-head, All-tail}
use Rattle.std.proofs.lemmas.Bool.{leb-true, leb-false}
use Rattle.std.proofs.lemmas.Bool.Decides.{nat_tests}
use Rattle.wm_turn.specs.declared.view.Entry.{Entry}
use Rattle.wm_turn.specs.History.{Begins, places, longer}

-- of two lists that end one list the shorter ends the longer
pub ends_both : {A : Type 0} (m n a b : List A) → m ++ a ≡ n ++ b → length a ≤ length b → (more : List A) × (b ≡ more ++ a)
ends_both m [] a b same le = (m, sym same)
ends_both [] (y ∷ n) a b same le = absurd (omega (arith, ap length same, length-append n b))
ends_both (x ∷ m) (y ∷ n) a b same le = ends_both m n a b (cc same) le

step_places : (b : Bool) (place : ℕ) (new old rest : List ℕ) → rest ≡ new ++ old
    → (more : List ℕ) × ((if b then place ∷ rest else rest) ≡ more ++ old)
step_places true place new old rest is = (place ∷ new, ap (λ ps. place ∷ ps) is)
step_places false place new old rest is = (new, is)

no_more : (new old : List ℕ) → length (new ++ old) ≤ length old → new ++ old ≡ old
no_more [] old le = refl
no_more (place ∷ new) old le = absurd (omega (arith, le, length-append new old))

module _ {S : Type 0} where
  pub begins_self : (history : List (Entry S)) → Begins history history
  begins_self history = ([], refl)

  pub begins_trans : (first second third : List (Entry S)) → Begins first second → Begins second third → Begins first third
  begins_trans first second third p q = (q.0 ++ p.0, q.1 ∙ (ap (λ rest. q.0 ++ rest) p.1 ∙ sym (append_assoc q.0 p.0 first)))

  pub begins_entry : (entry : Entry S) (seen history : List (Entry S)) → Begins seen history → Begins seen (entry ∷ history)
  begins_entry entry seen history p = (entry ∷ p.0, ap (λ rest. entry ∷ rest) p.1)

  pub begins_length : (seen history : List (Entry S)) → Begins seen history → length seen ≤ length history
  begins_length seen history p = omega (arith, ap length p.1 ∙ length-append p.0 seen)

  pub begins_both : (first second history : List (Entry S)) → Begins first history → Begins second history → length first ≤ length second → Begins first second
  begins_both first second history p q le = ends_both p.0 q.0 first second (sym p.1 ∙ q.1) le

  all_seen : (more seen history : List (Entry S)) → history ≡ more ++ seen → length history ≤ length seen → seen ≡ history
  all_seen [] seen history same le = sym same
  all_seen (entry ∷ more) seen history same le = absurd (omega (arith, ap length same, length-append more seen))

  -- who has seen as many entries as there are has seen them all
  pub begins_all : (seen history : List (Entry S)) → Begins seen history → length history ≤ length seen → seen ≡ history
  begins_all seen history p le = all_seen p.0 seen history p.1 le

  -- ---- the longer of two

  longer_cases : (first second : List (Entry S)) (b : Bool) → nat_le (length first) (length second) ≡ b
      → ((longer first second ≡ second) × (length first ≤ length second)) ⊎ ((longer first second ≡ first) × (length second < length first))
  longer_cases first second true is = inl (rw is refl, leb-true (length first) (length second) is)
  longer_cases first second false is = inr (rw is refl, leb-false (length first) (length second) is)

  pub longer_is : (first second : List (Entry S))
      → ((longer first second ≡ second) × (length first ≤ length second)) ⊎ ((longer first second ≡ first) × (length second < length first))
  longer_is first second = longer_cases first second (nat_le (length first) (length second)) refl

  pub longer_nothing : (seen : List (Entry S)) → longer seen [] ≡ seen
  longer_nothing seen =
      ⊎_elim
      (λ (is : (longer seen [] ≡ []) × (length seen ≤ 0)). is.0 ∙ sym (empty seen is.1))
      (λ (is : (longer seen [] ≡ seen) × (0 < length seen)). is.0)
      (longer_is seen [])
    where
      empty : (list : List (Entry S)) → length list ≤ 0 → list ≡ []
      empty [] le = refl
      empty (entry ∷ list) le = absurd (omega (arith, le))

  pub longer_length : (first second : List (Entry S)) → max (length second) (length first) ≡ length (longer first second)
  longer_length first second =
      ⊎_elim
      (λ (is : (longer first second ≡ second) × (length first ≤ length second)). omega (arith, ap length is.0, is.1))
      (λ (is : (longer first second ≡ first) × (length second < length first)). omega (arith, ap length is.0, is.1))
      (longer_is first second)

  pub record IsLongerOf (first second history : List (Entry S)) : Type 0 where
    pub first_begins : Begins first (longer first second)
    pub second_begins : Begins second (longer first second)
    pub begins : Begins (longer first second) history

  pub longer_of : (first second history : List (Entry S)) → Begins first history → Begins second history → IsLongerOf first second history
  longer_of first second history p q =
      ⊎_elim
      (λ (is : (longer first second ≡ second) × (length first ≤ length second)). record {
        first_begins = rw is.0 (begins_both first second history p q is.1);
        second_begins = rw is.0 (begins_self second);
        begins = rw is.0 q;
      })
      (λ (is : (longer first second ≡ first) × (length second < length first)). record {
        first_begins = rw is.0 (begins_self first);
        second_begins = rw is.0 (begins_both second first history q p (omega (arith, is.1)));
        begins = rw is.0 p;
      })
      (longer_is first second)

  -- where one of two has seen all, so has the longer one
  pub longer_all : (first second history : List (Entry S)) → Begins first history → Begins second history → (first ≡ history) ⊎ (second ≡ history) → longer first second ≡ history
  longer_all first second history p q one =
      let both = longer_of first second history p q in
      begins_all (longer first second) history both.begins
      (⊎_elim
      (λ (is : first ≡ history). omega (arith, ap length is, begins_length first (longer first second) both.first_begins))
      (λ (is : second ≡ history). omega (arith, ap length is, begins_length second (longer first second) both.second_begins))
      one)

  -- ---- places

  pub places_own : (entry : Entry S) (history : List (Entry S)) → places entry.who (entry ∷ history) ≡ length history ∷ places entry.who history
  places_own entry history = grind (arith, nat_tests)

  pub places_other : (who : ℕ) (entry : Entry S) (history : List (Entry S)) → entry.who ≢ who → places who (entry ∷ history) ≡ places who history
  places_other who entry history apart = grind (arith, nat_tests)

  pub places_more : (who : ℕ) (more seen : List (Entry S)) → (new : List ℕ) × (places who (more ++ seen) ≡ new ++ places who seen)
  places_more who [] seen = ([], refl)
  places_more who (entry ∷ more) seen =
      let rest = places_more who more seen in
      step_places (entry.who == who) (length (more ++ seen)) rest.0 (places who seen) (places who (more ++ seen)) rest.1

  -- where the whole history has no more of a caller's places than a beginning, nor has what is between
  pub places_between : (who : ℕ) (ps : List ℕ) (first second third : List (Entry S)) → Begins first second → Begins second third → places who first ≡ ps → places who third ≡ ps → places who second ≡ ps
  places_between who ps first second third p q of_first of_third =
      let low = places_more who p.0 first in
      let high = places_more who q.0 second in
      let low_is : places who second ≡ low.0 ++ ps = ap (places who) p.1 ∙ (low.1 ∙ ap (λ x. low.0 ++ x) of_first) in
      let high_is : ps ≡ high.0 ++ places who second = sym of_third ∙ (ap (places who) q.1 ∙ high.1) in
      let le : length (low.0 ++ ps) ≤ length ps =
      omega (arith, ap length high_is, length-append high.0 (places who second), ap length low_is) in
      low_is ∙ no_more low.0 ps le

  -- a number that no entry has, has no place
  pub places_none : (who spare seats : ℕ) (history : List (Entry S)) → seats ≤ who + spare → All (λ (entry : Entry S). entry.who + spare < seats) history → places who history ≡ []
  places_none who spare seats [] le below = refl
  places_none who spare seats (entry ∷ history) le below =
      let head = All-head (λ (entry : Entry S). entry.who + spare < seats) entry history below in
      places_other who entry history (λ same. omega (arith, same, head, le))
      ∙ places_none who spare seats history le (All-tail (λ (entry : Entry S). entry.who + spare < seats) entry history below)

  pub places_before : (who : ℕ) (seen history : List (Entry S)) → Begins seen history → places who history ≡ [] → places who seen ≡ []
  places_before who seen history p none =
      let more = places_more who p.0 seen in
      last_empty more.0 (places who seen) (sym more.1 ∙ (sym (ap (places who) p.1) ∙ none))
    where
      last_empty : (new old : List ℕ) → new ++ old ≡ [] → old ≡ []
      last_empty [] old is = is
      last_empty (place ∷ new) old is = absurd cc
