-- Which lines wait, and which of them is answered.
use Rattle.std.proofs.Common.{◌≡◌, refl, sym, ◌∙◌, ap, ℕ, zero, suc, ◌+◌, ◌-◌, ◌<◌, ◌≤◌, inl, inr, true, false, if◌then◌else◌, nat_lt, List, [], ◌∷◌, ◌++◌, length, drop, map, Option, None, arith, append_assoc}
use Rattle.std.proofs.Math.Seq.{drop-nil}
use Rattle.std.proofs.lemmas.Bool.{cases_lt, le-ltb, lt-ltb}
use Rattle.std.proofs.lemmas.List.{append-nil, drop-append-le, drop-drop, drop-map, length-append, length-drop, length-map, map-append}
use Rattle.std.specs.List.{slice_get}
use Rattle.wm_habits.specs.Acting.{Acting, after_line, after_lines, first_of, late_by, opening, says}
use Rattle.wm_habits.specs.Asking.{asked_of}
use Rattle.wm_habits.specs.Late.{asked_before}
use Rattle.wm_habits.specs.Saying.{said_to}
use Rattle.wm_habits.specs.declared.asking.Asked.{Asked}
use Rattle.wm_habits.specs.declared.habit.Habit.{Habit}
use Rattle.wm_fields.specs.Fields.{or_none}

-- what the last n of these lines asked
last_asked : ℕ → List (List ℕ) → List (Option Asked)
last_asked n lines = map asked_of (drop (length lines - n) lines)

-- a client of this habit to which these lines came
acting_after : Habit → List (List ℕ) → Acting
acting_after habit lines = record { habit = habit; waiting = last_asked (late_by habit) lines }

last_count : (n : ℕ) (lines : List (List ℕ)) → length (last_asked n lines) ≡ length lines - (length lines - n)
unfolding last_asked
last_count n lines = length-map (drop (length lines - n) lines) asked_of ∙ length-drop (length lines - n) lines

-- ---- one more line

few : (n : ℕ) (lines : List (List ℕ)) (line : List ℕ) → length lines < n → last_asked n lines ++ (asked_of line ∷ []) ≡ last_asked n (lines ++ (line ∷ []))
unfolding last_asked
few n lines line less =
    let none : length lines - n ≡ 0 = omega (arith, less) in
    let none_then : length (lines ++ (line ∷ [])) - n ≡ 0 = omega (arith, less, length-append lines (line ∷ [])) in
    ap (λ k. map asked_of (drop k lines) ++ (asked_of line ∷ [])) none
    ∙ (sym (map-append asked_of lines (line ∷ [])) ∙ ap (λ k. map asked_of (drop k (lines ++ (line ∷ [])))) (sym none_then))

many : (n : ℕ) (lines : List (List ℕ)) (line : List ℕ) → n ≤ length lines
    → drop 1 (last_asked n lines ++ (asked_of line ∷ [])) ≡ last_asked n (lines ++ (line ∷ []))
unfolding last_asked
many n lines line more =
    let k = length lines - n in
    let count : k + 1 ≡ length (lines ++ (line ∷ [])) - n = omega (arith, more, length-append lines (line ∷ [])) in
    ap (λ xs. drop 1 xs) (sym (map-append asked_of (drop k lines) (line ∷ [])))
    ∙ (drop-map asked_of 1 (drop k lines ++ (line ∷ []))
    ∙ (ap (λ xs. map asked_of (drop 1 xs)) (sym (drop-append-le k lines (line ∷ []) (omega arith)))
    ∙ ap (λ xs. map asked_of xs) (drop-drop 1 k (lines ++ (line ∷ [])) ∙ ap (λ m. drop m (lines ++ (line ∷ []))) count)))

waits : (n : ℕ) (lines : List (List ℕ)) (line : List ℕ)
    → (if nat_lt (length (last_asked n lines)) n then last_asked n lines ++ (asked_of line ∷ []) else drop 1 (last_asked n lines ++ (asked_of line ∷ [])))
    ≡ last_asked n (lines ++ (line ∷ []))
waits n lines line =
    elim (cases_lt (length lines) n) [
      | inl less ↦
          let early : nat_lt (length (last_asked n lines)) n ≡ true = lt-ltb _ _ (omega (arith, less, last_count n lines)) in
          rw early (few n lines line less)
      | inr more ↦
          let late : nat_lt (length (last_asked n lines)) n ≡ false = le-ltb _ _ (omega (arith, more, last_count n lines)) in
          rw late (many n lines line more)
    ]

one_more : (habit : Habit) (lines : List (List ℕ)) (line : List ℕ) → after_line (acting_after habit lines) line ≡ acting_after habit (lines ++ (line ∷ []))
unfolding acting_after
one_more habit lines line = ap {A = List (Option Asked)} (λ w. record { habit = habit; waiting = w }) (waits (late_by habit) lines line)

after_more : (habit : Habit) (lines more : List (List ℕ)) → after_lines (acting_after habit lines) more ≡ acting_after habit (lines ++ more)
after_more habit lines [] = ap (λ ls. acting_after habit ls) (sym (append-nil lines))
after_more habit lines (line ∷ more) =
    ap (λ a. after_lines a more) (one_more habit lines line)
    ∙ (after_more habit (lines ++ (line ∷ [])) more ∙ ap (λ ls. acting_after habit ls) (append_assoc lines (line ∷ []) more))

none_asked : (n : ℕ) → [] ≡ last_asked n []
unfolding last_asked
none_asked n = ap (λ ls. map asked_of ls) (sym (drop-nil (0 - n)))

opening_is : (habit : Habit) → opening habit ≡ acting_after habit []
unfolding acting_after
opening_is habit = ap {A = List (Option Asked)} (λ w. record { habit = habit; waiting = w }) (none_asked (late_by habit))

-- ---- the line that is answered

first_at : (k : ℕ) (lines : List (List ℕ)) (line : List ℕ) → k ≤ length lines
    → first_of (map asked_of (drop k lines)) (asked_of line) ≡ or_none (slice_get (lines ++ (line ∷ [])) k) asked_of
first_at zero [] line within = refl
first_at zero (first ∷ lines) line within = refl
first_at (suc k) [] line within = absurd (omega (arith, within))
first_at (suc k) (first ∷ lines) line within = first_at k lines line (omega (arith, within))

first_then : (n : ℕ) (lines : List (List ℕ)) (line : List ℕ)
    → first_of (last_asked n lines) (asked_of line) ≡ or_none (slice_get (lines ++ (line ∷ [])) (length lines - n)) asked_of
unfolding last_asked
first_then n lines line = first_at (length lines - n) lines line (omega arith)

due_then : (n : ℕ) (lines : List (List ℕ)) (line : List ℕ)
    → (if nat_lt (length (last_asked n lines)) n then None else first_of (last_asked n lines) (asked_of line)) ≡ asked_before n (lines ++ (line ∷ []))
due_then n lines line =
    elim (cases_lt (length lines) n) [
      | inl less ↦
          let early : nat_lt (length (last_asked n lines)) n ≡ true = lt-ltb _ _ (omega (arith, less, last_count n lines)) in
          let none : nat_lt n (length (lines ++ (line ∷ []))) ≡ false = le-ltb _ _ (omega (arith, less, length-append lines (line ∷ []))) in
          rw (early, none) refl
      | inr more ↦
          let late : nat_lt (length (last_asked n lines)) n ≡ false = le-ltb _ _ (omega (arith, more, last_count n lines)) in
          let some : nat_lt n (length (lines ++ (line ∷ []))) ≡ true = lt-ltb _ _ (omega (arith, more, length-append lines (line ∷ []))) in
          let count : length lines - n ≡ length (lines ++ (line ∷ [])) - 1 - n = omega (arith, length-append lines (line ∷ [])) in
          rw (late, some) (first_then n lines line ∙ ap (λ k. or_none (slice_get (lines ++ (line ∷ [])) k) asked_of) count)
    ]

said_then : (habit : Habit) (lines : List (List ℕ)) (line : List ℕ)
    → says (acting_after habit lines) (asked_of line) ≡ said_to habit (asked_before (late_by habit) (lines ++ (line ∷ [])))
unfolding acting_after
said_then habit lines line = ap (λ a. said_to habit a) (due_then (late_by habit) lines line)

pub as_late : (habit : Habit) (lines : List (List ℕ)) (line : List ℕ)
    → says (after_lines (opening habit) lines) (asked_of line) ≡ said_to habit (asked_before (late_by habit) (lines ++ (line ∷ [])))
as_late habit lines line =
    ap (λ a. says (after_lines a lines) (asked_of line)) (opening_is habit)
    ∙ (ap (λ a. says a (asked_of line)) (after_more habit [] lines) ∙ said_then habit lines line)
