-- Laws of the schedule: what has begun or ended stays so as the history grows, and one more entry brings an end, a
-- beginning, or none.
use Rattle.std.proofs.Common.{◌≡◌, ℕ, zero, suc, ◌+◌, ◌≤◌, true, false, List, [], ◌∷◌, length, Option, Some, None, refl, ap, ◌∙◌, arith}
use Rattle.std.specs.Option.{option_map, option_and_then}
use Rattle.wm_txn.specs.History.{Opening, Entry}
use Rattle.wm_txn.specs.Schedule.{Transaction, first_when, differs, transaction_from, may_end, ended, begun, next, past}
use Rattle.wm_txn.specs.Stands.{HasEnded, IsIdle, IsWaiting}
use Rattle.wm_txn.proofs.FirstLemmas.{first_stays, first_short, first_here, first_none}

pub mapped_some : {A B : Type 0} (f : A → B) (o : Option A) (y : B) → option_map f o ≡ Some y → (x : A) × (o ≡ Some x) × (f x ≡ y)
mapped_some f None y h = cc
mapped_some f (Some x) y h = (x, refl, cc)

pub mapped_none : {A B : Type 0} (f : A → B) (o : Option A) → option_map f o ≡ None → o ≡ None
mapped_none f None h = refl
mapped_none f (Some x) h = cc

pub then_some : {A B : Type 0} (f : A → Option B) (o : Option A) (y : B) → option_and_then f o ≡ Some y → (x : A) × (o ≡ Some x) × (f x ≡ Some y)
then_some f None y h = cc
then_some f (Some x) y h = (x, refl, h)

-- ---- what stays as the history grows

module _ (o : Opening) (history : List Entry) (entry : Entry) where
  -- what has ended stays ended
  pub ended_stays : (transactions : List Transaction) (place : List Entry) → ended o transactions history ≡ Some place → ended o transactions (entry ∷ history) ≡ Some place
  ended_stays [] place h = h
  ended_stays (t ∷ transactions) place h = first_stays (may_end o (length transactions + 1) t) t.prefix history place entry h

  pub begun_stays : (transactions : List Transaction) (place : List Entry) → begun o transactions history ≡ Some place → begun o transactions (entry ∷ history) ≡ Some place
  begun_stays transactions place h =
      let s = then_some (λ at. first_when (differs o transactions) (length at) history) (ended o transactions history) place h in
      rw (ended_stays transactions s.0 s.1) (first_stays (differs o transactions) (length s.0) history place entry s.2)

  next_stays : (before after : Option (List Transaction)) (transactions : List Transaction) → ((u : List Transaction) → before ≡ Some u → after ≡ Some u) → next o history before ≡ Some transactions → next o (entry ∷ history) after ≡ Some transactions
  next_stays None after transactions same h = cc
  next_stays (Some u) after transactions same h =
      let s = mapped_some (λ at. transaction_from o u at ∷ u) (begun o u history) transactions h in
      rw (same u refl) (ap (option_map (λ at. transaction_from o u at ∷ u)) (begun_stays u s.0 s.1) ∙ ap (λ z. Some z) s.2)

  -- what has begun stays begun
  pub past_stays : (i : ℕ) (transactions : List Transaction) → past o i history ≡ Some transactions → past o i (entry ∷ history) ≡ Some transactions
  past_stays zero transactions h = h
  past_stays (suc i) transactions h = next_stays (past o i history) (past o i (entry ∷ history)) transactions (past_stays i) h

  abbrev pub done_stays : (transactions : List Transaction) → HasEnded o history transactions → HasEnded o (entry ∷ history) transactions
  done_stays transactions h = record {
    past_is = past_stays (length transactions) transactions h.past_is;
    place = h.place;
    ended_at = ended_stays transactions h.place h.ended_at;
    within = omega (arith, h.within);
  }

-- ---- one more entry

-- these had ended when the entry came, and none had begun before it
pub record WasIdle (o : Opening) (entry : Entry) (history : List Entry) (transactions : List Transaction) : Type 0 where
  pub done : HasEnded o (entry ∷ history) transactions
  pub before : first_when (differs o transactions) (length done.place) history ≡ None

-- this one had begun when the entry came, and had not ended before it
pub record WasWaiting (o : Opening) (entry : Entry) (history : List Entry) (t : Transaction) (transactions : List Transaction) : Type 0 where
  pub done : HasEnded o (entry ∷ history) transactions
  pub begun_is : past o (suc (length transactions)) (entry ∷ history) ≡ Some (t ∷ transactions)
  pub before : first_when (may_end o (length transactions + 1) t) t.prefix history ≡ None
  pub within : t.prefix ≤ length history + 1

begun_none : (o : Opening) (history : List Entry) (transactions : List Transaction) (place : List Entry) → past o (length transactions) history ≡ Some transactions → ended o transactions history ≡ Some place → past o (suc (length transactions)) history ≡ None
    → first_when (differs o transactions) (length place) history ≡ None
begun_none o history transactions place known at none =
    let none_next : option_map (λ z. transaction_from o transactions z ∷ transactions) (begun o transactions history) ≡ None = rw known at none in
    let no_place = mapped_none (λ z. transaction_from o transactions z ∷ transactions) (begun o transactions history) none_next in
    rw at at no_place

module _ (o : Opening) (history : List Entry) (entry : Entry) where
  pub was_idle : (transactions : List Transaction) → IsIdle o history transactions → WasIdle o entry history transactions
  was_idle transactions h = record {
    done = done_stays o history entry transactions h.done;
    before = begun_none o history transactions h.done.place h.done.past_is h.done.ended_at h.none;
  }

  pub was_waiting : (t : Transaction) (transactions : List Transaction) → IsWaiting o history t transactions → WasWaiting o entry history t transactions
  was_waiting t transactions h = record {
    done = done_stays o history entry transactions h.done;
    begun_is = past_stays o history entry (suc (length transactions)) (t ∷ transactions) h.begun_is;
    before = h.not_ended;
    within = omega (arith, h.within);
  }

  -- it waits on where it may not end
  pub waits_on : (t : Transaction) (transactions : List Transaction) → WasWaiting o entry history t transactions → may_end o (length transactions + 1) t (entry ∷ history) ≡ false → IsWaiting o (entry ∷ history) t transactions
  waits_on t transactions h not_yet = record {
    done = h.done;
    begun_is = h.begun_is;
    not_ended = first_none (may_end o (length transactions + 1) t) t.prefix history entry h.before not_yet;
    within = omega (arith, h.within);
  }

  -- it ends at the entry where it may
  pub ends_here : (t : Transaction) (transactions : List Transaction) → WasWaiting o entry history t transactions → may_end o (length transactions + 1) t (entry ∷ history) ≡ true → WasIdle o entry history (t ∷ transactions)
  ends_here t transactions h may = record {
    done = record {
      past_is = h.begun_is;
      place = entry ∷ history;
      ended_at = first_here (may_end o (length transactions + 1) t) t.prefix history entry h.before h.within may;
      within = omega arith;
    };
    before = first_short (differs o (t ∷ transactions)) (length (entry ∷ history)) history (omega arith);
  }

  next_is : (transactions : List Transaction) (h : WasIdle o entry history transactions) (here : Option (List Entry)) → first_when (differs o transactions) (length h.done.place) (entry ∷ history) ≡ here
      → past o (suc (length transactions)) (entry ∷ history) ≡ option_map (λ at. transaction_from o transactions at ∷ transactions) here
  next_is transactions h here e = rw (h.done.past_is, h.done.ended_at) (ap (option_map (λ at. transaction_from o transactions at ∷ transactions)) e)

  -- none begins where the arrangement is that of the last one
  pub idles_on : (transactions : List Transaction) → WasIdle o entry history transactions → differs o transactions (entry ∷ history) ≡ false → IsIdle o (entry ∷ history) transactions
  idles_on transactions h same = record {
    done = h.done;
    none = next_is transactions h None (first_none (differs o transactions) (length h.done.place) history entry h.before same);
  }

  -- the next one begins at the entry where it differs
  pub begins_here : (transactions : List Transaction) → WasIdle o entry history transactions → differs o transactions (entry ∷ history) ≡ true → WasWaiting o entry history (transaction_from o transactions (entry ∷ history)) transactions
  begins_here transactions h other = record {
    done = h.done;
    begun_is = next_is transactions h (Some (entry ∷ history)) (first_here (differs o transactions) (length h.done.place) history entry h.before (omega (arith, h.done.within)) other);
    before = first_short (may_end o (length transactions + 1) (transaction_from o transactions (entry ∷ history))) (length (entry ∷ history)) history (omega arith);
    within = omega arith;
  }
