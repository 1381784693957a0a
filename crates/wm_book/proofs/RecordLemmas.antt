-- What a recorded desk stores of the entries that it stands for.
use Rattle.std.proofs.Common.{◌≡◌, ◌<◌, ◌≤◌, zero, suc, inl, inr, Option, ◌==◌, ◌++◌, ◌⊎◌, ℕ, Bool, true, false, List, [], ◌∷◌, None, Some, ap, arith, length, length-append, min, refl, sym, ◌∙◌}
use Rattle.std.proofs.lemmas.Bool.{eqb-false, eqb-true, ltb-false, ltb-true}
use Rattle.std.proofs.lemmas.Option.{none-some, slice_get_read, slice_get_within}
use Rattle.std.specs.Borrow.{Bor}
use Rattle.std.specs.List.{slice_get}
use Rattle.std.specs.Option.{option_map}
use Rattle.std.specs.Prelude.{MatchOption, get_or, if◌then◌else◌, nat_lt}
use Rattle.std.specs.Slice.{IsItemAt}
use Rattle.wm_book.specs.Recorded.{IsRecord, RecordedValue, entry_at, most_stored, stored, stored_entry}
use Rattle.wm_book.specs.declared.entry.Entry.{Entry}
use Rattle.wm_history.specs.Act.{act_of}
use Rattle.wm_core.specs.DeskValue.{Stands}
use Rattle.wm_core.specs.Entries.{bare, history_of}
use Rattle.wm_history.specs.declared.step.Step.{Step}
use Rattle.wm_criteria.specs.contracts.prepared.Prepared as prepared
use Rattle.wm_criteria.specs.declared.prepared.Prepared.{Prepared}
use Rattle.wm_turn.specs.declared.view.Entry as turn

-- a prepared text with the same text and verdict, and without built patterns, is the bare one
pub same_bare : (p q : Prepared) → p.text ≡ q.text → p.verdict ≡ q.verdict → p.forms ≡ None → p ≡ bare q
same_bare p q text verdict forms = prepared.the_row.coded.inj p (bare q) (rw (text, verdict, forms) refl)

-- ---- how many are stored

length_after : (n : ℕ) (xs : List Entry) (x : Entry) (b : Bool) → nat_lt n most_stored ≡ b → length xs ≡ min n most_stored
    → length (if b then xs ++ x ∷ [] else xs) ≡ min (suc n) most_stored
length_after n xs x true is long = omega (arith, length-append xs (x ∷ []), ltb-true n most_stored is, long)
length_after n xs x false is long = omega (arith, ltb-false n most_stored is, long)

-- as many are stored as there are, or as there is room for
pub stored_length : (entries : List (turn.Entry Step)) → length (stored entries) ≡ min (length entries) most_stored
stored_length [] = refl
stored_length (entry ∷ before) =
    length_after (length before) (stored before) (stored_entry entry) (nat_lt (length before) most_stored) refl (stored_length before)

module _ (entry : turn.Entry Step) (before : List (turn.Entry Step)) where
  after : (b : Bool) → nat_lt (length before) most_stored ≡ b → length (stored before) < most_stored
      → (if b then stored before ++ stored_entry entry ∷ [] else stored before) ≡ stored before ++ stored_entry entry ∷ []
  after true is room = refl
  after false is room = absurd (omega (arith, ltb-false (length before) most_stored is, stored_length before, room))

  -- where there is room the next entry is stored
  pub stored_next : length (stored before) < most_stored → stored (entry ∷ before) ≡ stored before ++ stored_entry entry ∷ []
  stored_next = after (nat_lt (length before) most_stored) refl

  full : (b : Bool) → nat_lt (length before) most_stored ≡ b → most_stored ≤ length (stored before)
      → (if b then stored before ++ stored_entry entry ∷ [] else stored before) ≡ stored before
  full true is none = absurd (omega (arith, ltb-true (length before) most_stored is, stored_length before, none))
  full false is none = refl

  -- where there is none it is not
  pub stored_full : most_stored ≤ length (stored before) → stored (entry ∷ before) ≡ stored before
  stored_full = full (nat_lt (length before) most_stored) refl

-- ---- what is stored

get_last : (xs : List Entry) (x : Entry) → slice_get (xs ++ x ∷ []) (length xs) ≡ Some x
get_last [] x = refl
get_last (y ∷ ys) x = get_last ys x

get_older : (xs : List Entry) (x : Entry) (place : ℕ) → place < length xs → slice_get (xs ++ x ∷ []) place ≡ slice_get xs place
get_older [] x place below = absurd (omega (arith, below))
get_older (y ∷ ys) x zero below = refl
get_older (y ∷ ys) x (suc place) below = get_older ys x place (omega (arith, below))

-- an entry that was stored
abbrev pub as_taken : Entry → turn.Entry Step
as_taken x = record { who = x.who; step = x.step }

module _ (entry : turn.Entry Step) (before : List (turn.Entry Step)) (place : ℕ) (x : Entry) where
  earlier : (c : Bool) → (length before == place) ≡ c → place < length before → entry_at place before ≡ Some (as_taken x)
      → (if c then Some entry else entry_at place before) ≡ Some (as_taken x)
  earlier true is below there = absurd (omega (arith, eqb-true (length before) place is, below))
  earlier false is below there = there

  newest : (c : Bool) → (length before == place) ≡ c → length (stored before) ≡ length before
      → (slice_get (stored before) place ≡ Some x → entry_at place before ≡ Some (as_taken x))
      → slice_get (stored before ++ stored_entry entry ∷ []) place ≡ Some x
      → (if c then Some entry else entry_at place before) ≡ Some (as_taken x)
  newest true is long there at =
      let same : length (stored before) ≡ place = long ∙ eqb-true (length before) place is in
      let last : slice_get (stored before ++ stored_entry entry ∷ []) place ≡ Some (stored_entry entry) = rw (sym same) (get_last (stored before) (stored_entry entry)) in
      ap (λ (o : Option Entry). option_map as_taken o) (sym last ∙ at)
  newest false is long there at =
      let within : place < length (stored before ++ stored_entry entry ∷ []) = slice_get_within (stored before ++ stored_entry entry ∷ []) place x at in
      let below : place < length (stored before) =
      omega (arith, within, length-append (stored before) (stored_entry entry ∷ []), eqb-false (length before) place is, long) in
      there (sym (get_older (stored before) (stored_entry entry) place below) ∙ at)

  found : (b : Bool) → nat_lt (length before) most_stored ≡ b
      → (slice_get (stored before) place ≡ Some x → entry_at place before ≡ Some (as_taken x))
      → slice_get (if b then stored before ++ stored_entry entry ∷ [] else stored before) place ≡ Some x
      → entry_at place (entry ∷ before) ≡ Some (as_taken x)
  found true is there at =
      newest (length before == place) refl (omega (arith, ltb-true (length before) most_stored is, stored_length before)) there at
  found false is there at =
      let within : place < length (stored before) = slice_get_within (stored before) place x at in
      earlier (length before == place) refl (omega (arith, within, ltb-false (length before) most_stored is, stored_length before)) (there at)

-- what is stored at a place is the entry there
stored_at : (entries : List (turn.Entry Step)) (place : ℕ) (x : Entry) → slice_get (stored entries) place ≡ Some x → entry_at place entries ≡ Some (as_taken x)
stored_at [] place x at = absurd (none-some x at)
stored_at (entry ∷ before) place x at = found entry before place x (nat_lt (length before) most_stored) refl (stored_at before place x) at

-- the same, and there is room for it
pub stored_there : (entries : List (turn.Entry Step)) (place : ℕ) (x : Entry) → place < length (stored entries) → x ≡ get_or (stored entries) place x → (place < most_stored) × (entry_at place entries ≡ Some (as_taken x))
stored_there entries place x within is = (
  omega (arith, within, stored_length entries),
  stored_at entries place x (slice_get_read (stored entries) (length (stored entries)) place x refl within is),
)

-- where nothing is stored there is no entry, or no room for it
pub stored_past : (entries : List (turn.Entry Step)) (place : ℕ) → length (stored entries) ≤ place → (length entries ≤ place) ⊎ (most_stored ≤ place)
stored_past entries place past = by (nat_lt place most_stored) refl where
  by : (b : Bool) → nat_lt place most_stored ≡ b → (length entries ≤ place) ⊎ (most_stored ≤ place)
  by true is = inl (omega (arith, past, ltb-true place most_stored is, stored_length entries))
  by false is = inr (ltb-false place most_stored is)

-- what is read at a place of what is stored
pub entry_told : (entries : List (turn.Entry Step)) (xs : List Entry) (place : ℕ) (r : Option (Bor Entry)) → xs ≡ stored entries → IsItemAt xs place r
    → MatchOption r ((length entries ≤ place) ⊎ (most_stored ≤ place)) (λ x. (place < most_stored) × (entry_at place entries ≡ Some (as_taken x.now)))
entry_told entries xs place None is item = stored_past entries place (rw is at item.3)
entry_told entries xs place (Some x) is item =
    stored_there entries place x.now (rw is at item.3.0) (rw is at (item.4 (omega arith) x.now))

-- where the desk took one more step, and the step was stored, the recorded desk stands for one more entry
pub record_next : (new : RecordedValue) (entries : List (turn.Entry Step)) (who : ℕ) (step form : Step) → act_of form ≡ act_of step
    → Stands new.desk (record { who = who; act = act_of step } ∷ history_of entries)
    → new.entries ≡ stored (record { who = who; step = form } ∷ entries)
    → IsRecord new (record { who = who; step = form } ∷ entries)
record_next new entries who step form says stands holds = record { desk_stands = rw says stands; stored_are = holds }
