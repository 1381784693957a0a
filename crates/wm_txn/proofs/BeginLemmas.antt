-- Where transactions begin and end with one more entry.
use Rattle.std.proofs.Common.{◌≡◌, ℕ, zero, suc, ◌+◌, ◌≤◌, ◌<◌, Bool, true, false, not, ◌&&◌, leb, ◌⊎◌, inl, inr, List, [], ◌∷◌, length, Option, Some, None, refl, ap, sym, ◌∙◌, subst, arith}
use Rattle.std.proofs.lemmas.Bool.{and_parts}
use Rattle.std.specs.Option.{option_map}
use Rattle.wm_txn.specs.History.{Opening, Entry, arrangement}
use Rattle.wm_txn.specs.Lasting.{BeginsThere, BeginsOnce, EndsThere}
use Rattle.wm_txn.specs.Schedule.{Transaction, begun, differs, ended, first_when, may_end, next, or_here, past, transaction_from}
use Rattle.wm_txn.proofs.FirstLemmas.{first_none, first_short, first_within}
use Rattle.wm_txn.proofs.NumberLemmas.{beyond}
use Rattle.wm_txn.proofs.ScheduleLemmas.{ended_stays, mapped_none, mapped_some, past_stays, then_some}
use Rattle.wm_txn.proofs.SettleLemmas.{same_itself}

-- ---- what is found with one more entry

pub new_here : (found : Option (List Entry)) (passes : Bool) (history place : List Entry) → found ≡ None → or_here found passes history ≡ Some place → place ≡ history
new_here None true history place none h = cc
new_here None false history place none h = cc
new_here (Some z) passes history place none h = cc

pub first_new : (test : List Entry → Bool) (n : ℕ) (history place : List Entry) (entry : Entry) → first_when test n history ≡ None → first_when test n (entry ∷ history) ≡ Some place → place ≡ entry ∷ history
first_new test n history place entry none h = new_here (first_when test n history) _ (entry ∷ history) place none h

pub old_or_new : (found : Option (List Entry)) (passes : Bool) (history place : List Entry) → or_here found passes history ≡ Some place → (found ≡ Some place) ⊎ (place ≡ history)
old_or_new None true history place h = inr (cc)
old_or_new None false history place h = cc
old_or_new (Some z) passes history place h = inl h

-- what is found and has as many entries as there are is the whole history
pub first_late : (test : List Entry → Bool) (n : ℕ) (history place : List Entry) (entry : Entry) → first_when test n (entry ∷ history) ≡ Some place → length history < length place → place ≡ entry ∷ history
first_late test n history place entry h late =
    elim (old_or_new (first_when test n history) _ (entry ∷ history) place h) [
      | inl before ↦ let bounds = first_within test n history place before in absurd (omega arith)
      | inr here ↦ here
    ]

pub holds_here : (found : Option (List Entry)) (test : List Entry → Bool) (b : Bool) (history place : List Entry) → or_here found (b && test history) history ≡ Some place → ((z : List Entry) → found ≡ Some z → test z ≡ true) → test place ≡ true
holds_here (Some z) test b history place h before = let e : z ≡ place = cc in ap test (sym e) ∙ before z refl
holds_here None test b history place h before = by (b && test history) refl h
  where
    by : (c : Bool) → (b && test history) ≡ c → or_here None c history ≡ Some place → test place ≡ true
    by true e k = let same_place : history ≡ place = cc in ap test (sym same_place) ∙ (and_parts b (test history) e).1
    by false e k = cc

-- the test holds at what is found
pub first_holds : (test : List Entry → Bool) (n : ℕ) (history place : List Entry) → first_when test n history ≡ Some place → test place ≡ true
first_holds test n [] place h = holds_here None test (leb n 0) [] place h (λ z none. cc)
first_holds test n (entry ∷ history) place h = holds_here (first_when test n history) test (leb n (length history + 1)) (entry ∷ history) place h (λ z found. first_holds test n history z found)

pub ends_there : EndsThere
ends_there o history entry [] place none h = cc
ends_there o history entry (t ∷ transactions) place none h = first_new (may_end o (length transactions + 1) t) t.prefix history place entry none h

pub ended_late : (o : Opening) (history : List Entry) (t : Transaction) (transactions : List Transaction) (place : List Entry) → ended o (t ∷ transactions) history ≡ Some place → t.prefix ≤ length place
ended_late o history t transactions place h = (first_within (may_end o (length transactions + 1) t) t.prefix history place h).0

-- ---- how a transaction has begun

-- the transactions before it, where the last of them ended, and where it began
pub record Beginning (o : Opening) (history : List Entry) (before : Option (List Transaction)) (t : Transaction) (transactions : List Transaction) : Type 0 where
  pub before_is : before ≡ Some transactions
  pub ended_place : List Entry
  pub ended_at : ended o transactions history ≡ Some ended_place
  pub place : List Entry
  pub found : first_when (differs o transactions) (length ended_place) history ≡ Some place
  pub transaction_is : t ≡ transaction_from o transactions place

pub beginning : (o : Opening) (history : List Entry) (before : Option (List Transaction)) (t : Transaction) (transactions : List Transaction) → next o history before ≡ Some (t ∷ transactions) → Beginning o history before t transactions
beginning o history None t transactions h = cc
beginning o history (Some us) t transactions h =
    let s = mapped_some (λ at. transaction_from o us at ∷ us) (begun o us history) (t ∷ transactions) h in
    let f = then_some (λ at. first_when (differs o us) (length at) history) (ended o us history) s.0 s.1 in
    let same_transactions : us ≡ transactions = cc in
    let same_transaction : transaction_from o us s.0 ≡ t = cc in
    let Ended_at : List Transaction → Type 0 = λ z. ended o z history ≡ Some f.0 in
    let Found_at : List Transaction → Type 0 = λ z. first_when (differs o z) (length f.0) history ≡ Some s.0 in
    record {
      before_is = ap (λ z. Some z) same_transactions;
      ended_place = f.0;
      ended_at = subst Ended_at same_transactions f.1;
      place = s.0;
      found = subst Found_at same_transactions f.2;
      transaction_is = sym same_transaction ∙ ap (λ z. transaction_from o z s.0) same_transactions;
    }

pub length_step : (o : Opening) (history : List Entry) (before : Option (List Transaction)) (i : ℕ) (transactions : List Transaction) → ((us : List Transaction) → before ≡ Some us → length us ≡ i) → next o history before ≡ Some transactions → length transactions ≡ suc i
length_step o history None i transactions h e = cc
length_step o history (Some us) i transactions h e =
    let s = mapped_some (λ at. transaction_from o us at ∷ us) (begun o us history) transactions e in
    let l = h us refl in
    let cons : length transactions ≡ suc (length us) = ap length (sym s.2) in
    omega arith

-- the first i transactions are i
pub past_length : (o : Opening) (history : List Entry) (i : ℕ) (transactions : List Transaction) → past o i history ≡ Some transactions → length transactions ≡ i
past_length o history zero transactions h = let e : [] ≡ transactions = cc in ap length (sym e)
past_length o history (suc i) transactions h = length_step o history (past o i history) i transactions (past_length o history i) h

pub some_past : (o : Opening) (history later : List Entry) (i : ℕ) → past o i history ≡ None → past o i later ≡ Some [] → ⊥
some_past o history later zero none h = cc
some_past o history later (suc i) none h = let l = past_length o later (suc i) [] h in omega arith

module _ (o : Opening) (history : List Entry) (entry : Entry) where
  abbrev grown : List Entry
  grown = entry ∷ history

  from_late : (before : Option (List Transaction)) (t : Transaction) (transactions : List Transaction) → (b : Beginning o grown before t transactions) → length history < length b.ended_place → t ≡ transaction_from o transactions grown
  from_late before t transactions b late =
      let bounds = first_within (differs o transactions) (length b.ended_place) grown b.place b.found in
      let here = first_late (differs o transactions) (length b.ended_place) history b.place entry b.found (omega arith) in
      b.transaction_is ∙ ap (transaction_from o transactions) here

  from_new : (before : Option (List Transaction)) (t : Transaction) (transactions : List Transaction) → (b : Beginning o grown before t transactions) → first_when (differs o transactions) (length b.ended_place) history ≡ None → t ≡ transaction_from o transactions grown
  from_new before t transactions b none = b.transaction_is ∙ ap (transaction_from o transactions) (first_new (differs o transactions) (length b.ended_place) history b.place entry none b.found)

  by_end : (before : Option (List Transaction)) (t : Transaction) (transactions : List Transaction) → (b : Beginning o grown before t transactions) → begun o transactions history ≡ None → (was : Option (List Entry)) → ended o transactions history ≡ was → t ≡ transaction_from o transactions grown
  by_end before t transactions b none None was =
      let here = ends_there o history entry transactions b.ended_place was b.ended_at in
      from_late before t transactions b (subst (λ z. length history < length z) (sym here) (omega arith))
  by_end before t transactions b none (Some place) was =
      let later = ended_stays o history entry transactions place was in
      let same_place : place ≡ b.ended_place = let e : Some place ≡ Some b.ended_place = sym later ∙ b.ended_at in cc in
      let not_found : first_when (differs o transactions) (length place) history ≡ None = rw was at none in
      from_new before t transactions b (ap (λ z. first_when (differs o transactions) (length z) history) (sym same_place) ∙ not_found)

  begins_by : (i : ℕ) (was : Option (List Transaction)) → past o i history ≡ was → ((t : Transaction) (transactions : List Transaction) → was ≡ None → past o i grown ≡ Some (t ∷ transactions) → t ≡ transaction_from o transactions grown)
      → (t : Transaction) (transactions : List Transaction) → next o history was ≡ None → (b : Beginning o grown (past o i grown) t transactions) → t ≡ transaction_from o transactions grown
  begins_by i None at before t [] none b = absurd (some_past o history grown i at b.before_is)
  begins_by i None at before t (u ∷ transactions) none b =
      let started = before u transactions refl b.before_is in
      let late = ended_late o grown u transactions b.ended_place b.ended_at in
      let at_prefix : u.prefix ≡ length grown = ap (λ (z : Transaction). z.prefix) started in
      from_late (past o i grown) t (u ∷ transactions) b (omega arith)
  begins_by i (Some us) at before t transactions none b =
      let later = past_stays o history entry i us at in
      let same_transactions : us ≡ transactions = let e : Some us ≡ Some transactions = sym later ∙ b.before_is in cc in
      let not_begun = mapped_none (λ z. transaction_from o us z ∷ us) (begun o us history) none in
      by_end (past o i grown) t transactions b (ap (λ z. begun o z history) (sym same_transactions) ∙ not_begun) (ended o transactions history) refl

  pub begins_step : (i : ℕ) (t : Transaction) (transactions : List Transaction) → past o i history ≡ None → past o i grown ≡ Some (t ∷ transactions) → t ≡ transaction_from o transactions grown
  begins_step zero t transactions none h = cc
  begins_step (suc i) t transactions none h =
      begins_by i (past o i history) refl (λ u us was later. begins_step i u us was later) t transactions none (beginning o grown (past o i grown) t transactions h)

  after_new : (t : Transaction) (transactions : List Transaction) → t ≡ transaction_from o transactions grown → (found : Option (List Entry)) → ended o (t ∷ transactions) grown ≡ found → begun o (t ∷ transactions) grown ≡ None
  after_new t transactions new None at = rw at refl
  after_new t transactions new (Some place) at =
      let late = ended_late o grown t transactions place at in
      let prefix : t.prefix ≡ length grown = ap (λ (z : Transaction). z.prefix) new in
      let same_arrangement : t.parts ≡ arrangement o grown = ap (λ (z : Transaction). z.parts) new in
      let none_here : differs o (t ∷ transactions) grown ≡ false = rw same_arrangement (ap not (same_itself (arrangement o grown))) in
      rw at (first_none (differs o (t ∷ transactions)) (length place) history entry (first_short (differs o (t ∷ transactions)) (length place) history (omega arith)) none_here)

  once_by : (i : ℕ) → past o i history ≡ None → (found : Option (List Transaction)) → past o i grown ≡ found → next o grown found ≡ None
  once_by i none None at = refl
  once_by i none (Some []) at = absurd (some_past o history grown i none at)
  once_by i none (Some (t ∷ transactions)) at = ap (option_map (λ z. transaction_from o (t ∷ transactions) z ∷ t ∷ transactions)) (after_new t transactions (begins_step i t transactions none at) (ended o (t ∷ transactions) grown) refl)

  pub once_step : (i : ℕ) → past o i history ≡ None → past o (suc i) grown ≡ None
  once_step i none = once_by i none (past o i grown) refl

pub begins_there : BeginsThere
begins_there o history entry i t transactions none h = begins_step o history entry i t transactions none h

pub begins_once : BeginsOnce
begins_once o history entry i none = once_step o history entry i none

-- no more transactions have begun than there are entries
pub none_beyond : (o : Opening) (history : List Entry) (i : ℕ) → length history < i → past o i history ≡ None
none_beyond o [] i above = beyond_first i above
  where
    first_one : past o 1 [] ≡ None
    first_one = rw (same_itself o.parts) refl

    beyond_first : (i : ℕ) → 0 < i → past o i [] ≡ None
    beyond_first zero above = absurd (omega arith)
    beyond_first (suc zero) above = first_one
    beyond_first (suc (suc i)) above = beyond o [] 0 (suc (suc i)) first_one (omega arith)
none_beyond o (entry ∷ history) zero above = absurd (omega arith)
none_beyond o (entry ∷ history) (suc i) above = once_step o history entry i (none_beyond o history i (omega arith))
