-- The first place at which a test holds.
use Rattle.std.proofs.Common.{◌≡◌, ℕ, ◌+◌, ◌≤◌, ◌<◌, leb, Bool, true, false, ◌&&◌, List, [], ◌∷◌, length, Option, Some, None, refl, ap, arith}
use Rattle.std.proofs.lemmas.Bool.{and_parts, le-leb, leb-true, lt-leb}
use Rattle.wm_txn.specs.History.{Entry}
use Rattle.wm_txn.specs.Schedule.{or_here, first_when}

-- what was found is found again when the history grows
pub first_stays : (test : List Entry → Bool) (n : ℕ) (history found : List Entry) (entry : Entry) → first_when test n history ≡ Some found → first_when test n (entry ∷ history) ≡ Some found
first_stays test n history found entry h = rw h refl

or_short : (o : Option (List Entry)) (b : Bool) (history : List Entry) → o ≡ None → b ≡ false → or_here o b history ≡ None
or_short o b history p q = rw (p, q) refl

not_yet : (n length : ℕ) (b : Bool) → length < n → (leb n length && b) ≡ false
not_yet n length b h = rw lt-leb refl

-- nothing is found in a history of fewer entries
pub first_short : (test : List Entry → Bool) (n : ℕ) (history : List Entry) → length history < n → first_when test n history ≡ None
first_short test n [] h = or_short None (leb n 0 && test []) [] refl (not_yet n 0 (test []) h)
first_short test n (entry ∷ history) h =
    or_short (first_when test n history) (leb n (length history + 1) && test (entry ∷ history)) (entry ∷ history)
    (first_short test n history (omega arith)) (not_yet n (length history + 1) (test (entry ∷ history)) (omega arith))

-- nothing was found before, so the entry is the first place where the test holds at it
pub first_here : (test : List Entry → Bool) (n : ℕ) (history : List Entry) (entry : Entry) → first_when test n history ≡ None → n ≤ length history + 1 → test (entry ∷ history) ≡ true
    → first_when test n (entry ∷ history) ≡ Some (entry ∷ history)
first_here test n history entry h enough holds = rw (h, le-leb n (length history + 1) enough, holds) refl

and_false : (a : Bool) → (a && false) ≡ false
and_false true = refl
and_false false = refl

pub first_none : (test : List Entry → Bool) (n : ℕ) (history : List Entry) (entry : Entry) → first_when test n history ≡ None → test (entry ∷ history) ≡ false → first_when test n (entry ∷ history) ≡ None
first_none test n history entry h fails =
    or_short (first_when test n history) (leb n (length history + 1) && test (entry ∷ history)) (entry ∷ history) h (rw fails (and_false (leb n (length history + 1))))

within_here : (found : Option (List Entry)) (passes : Bool) (history place : List Entry) (n : ℕ) → or_here found passes history ≡ Some place → (passes ≡ true → n ≤ length history)
    → ((z : List Entry) → found ≡ Some z → (n ≤ length z) × (length z ≤ length history)) → (n ≤ length place) × (length place ≤ length history)
within_here (Some z) passes history place n h enough before =
    let same_place : z ≡ place = cc in
    let bounds = before z refl in
    let at : length z ≡ length place = ap length same_place in
    (omega arith, omega arith)
within_here None true history place n h enough before =
    let same_place : history ≡ place = cc in
    let at : length history ≡ length place = ap length same_place in
    let bound = enough refl in
    (omega arith, omega arith)
within_here None false history place n h enough before = cc

-- what is found is a beginning of the history with n entries or more
pub first_within : (test : List Entry → Bool) (n : ℕ) (history place : List Entry) → first_when test n history ≡ Some place → (n ≤ length place) × (length place ≤ length history)
first_within test n [] place h =
    within_here None (leb n 0 && test []) [] place n h (λ passes. leb-true n 0 (and_parts (leb n 0) (test []) passes).0) (λ z none. cc)
first_within test n (entry ∷ history) place h =
    within_here (first_when test n history) (leb n (length history + 1) && test (entry ∷ history)) (entry ∷ history) place n h
    (λ passes. let le = leb-true n (length history + 1) (and_parts (leb n (length history + 1)) (test (entry ∷ history)) passes).0 in omega arith)
    (λ z found. let bounds = first_within test n history z found in (bounds.0, omega arith))
