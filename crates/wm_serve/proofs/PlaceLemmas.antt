-- The texts at the places of a caller's entries are those that its entries run.
use Rattle.std.proofs.Common.{◌≡◌, ◌∙◌, ◌≤◌, ◌<◌, refl, sym, ap, ap₂, arith, ℕ, suc, ◌+◌, ◌-◌, ◌==◌, Bool, true, false, if◌then◌else◌, List, [], ◌∷◌, ◌++◌, length, drop, Option, None, Some, append_assoc}
use Rattle.std.proofs.lemmas.List.{append-nil}
use Rattle.std.specs.List.{AllByRecursion}
use Rattle.wm_core.proofs.EntryLemmas.{history_length}
use Rattle.wm_history.specs.Act.{act_of}
use Rattle.wm_core.specs.Entries.{desk_entry, history_of}
use Rattle.wm_history.specs.History.{Entry, History}
use Rattle.wm_core.specs.declared.asked.Asked.{Asked}
use Rattle.wm_history.specs.declared.step.Step.{Step}
use Rattle.wm_session.specs.Places.{entry_at, newest}
use Rattle.wm_session.proofs.WalkLemmas.{begins_same, entry_later}
use Rattle.wm_turn.specs.History.{places, wrote}
use Rattle.wm_turn.specs.declared.view.Entry as turn
use Rattle.wm_turn.specs.declared.view.Mark.{Mark}
use Rattle.wm_turn.specs.declared.view.Mark.TheVariants.{Wrote, Read}
use Rattle.wm_serve.specs.Said.{text_in, texts_of}

abbrev pub text_at : Option Entry → List (List ℕ)
text_at None = []
text_at (Some entry) = text_in entry.act

-- the texts that the entries at these places run, in order; the newest place comes first
abbrev pub texts_at : History → List ℕ → List (List ℕ)
texts_at seen [] = []
texts_at seen (place ∷ places) = texts_at seen places ++ text_at (entry_at place seen)

pub texts_both : (seen : History) (xs ys : List ℕ) → texts_at seen (xs ++ ys) ≡ texts_at seen ys ++ texts_at seen xs
texts_both seen [] ys = sym (append-nil (texts_at seen ys))
texts_both seen (x ∷ xs) ys =
    ap (λ ts. ts ++ text_at (entry_at x seen)) (texts_both seen xs ys) ∙ append_assoc (texts_at seen ys) (texts_at seen xs) (text_at (entry_at x seen))

-- ---- marks

pub wrote_append : (xs ys : List (Mark Asked)) → wrote (xs ++ ys) ≡ wrote xs ++ wrote ys
wrote_append [] ys = refl
wrote_append (Wrote place ∷ xs) ys = ap (λ ps. place ∷ ps) (wrote_append xs ys)
wrote_append (Read question count ∷ xs) ys = wrote_append xs ys

-- ---- one entry more

entry_before : (place : ℕ) (entry : Entry) (before : History) → place < length before → entry_at place (entry ∷ before) ≡ entry_at place before
entry_before place entry before less =
    let count : length (entry ∷ before) - (place + 1) ≡ suc (length before - (place + 1)) = omega (arith, less) in
    ap (λ n. newest (drop n (entry ∷ before))) count

texts_before : (entry : Entry) (before : History) (ps : List ℕ) → AllByRecursion (λ place. place < length before) ps → texts_at (entry ∷ before) ps ≡ texts_at before ps
texts_before entry before [] every = refl
texts_before entry before (place ∷ ps) every =
    ap₂ (λ (ts us : List (List ℕ)). ts ++ us) (texts_before entry before ps every.1) (ap text_at (entry_before place entry before every.0))

-- ---- all entries

within_if : (b : Bool) (place most : ℕ) (ps : List ℕ) → place < most → AllByRecursion (λ p. p < most) ps → AllByRecursion (λ p. p < most) (if b then place ∷ ps else ps)
within_if true place most ps less every = (less, every)
within_if false place most ps less every = every

places_within : (who most : ℕ) (history : List (turn.Entry Step)) → length history ≤ most → AllByRecursion (λ p. p < most) (places who history)
places_within who most [] few = tt
places_within who most (entry ∷ history) few =
    within_if (entry.who == who) (length history) most (places who history) (omega (arith, few)) (places_within who most history (omega (arith, few)))

texts_more : (who : ℕ) (entry : turn.Entry Step) (history : List (turn.Entry Step)) → texts_at (history_of history) (places who history) ≡ texts_of who (history_of history)
    → texts_at (history_of (entry ∷ history)) (places who (entry ∷ history)) ≡ texts_of who (history_of (entry ∷ history))
texts_more who entry history are = goes (entry.who == who)
  where
    seen : History
    seen = history_of history

    later : History
    later = desk_entry entry ∷ history_of history

    before : texts_at later (places who history) ≡ texts_of who seen
    before = texts_before (desk_entry entry) seen (places who history) (places_within who (length seen) history (omega (arith, history_length history))) ∙ are

    here : entry_at (length history) later ≡ Some (desk_entry entry)
    here = ap (λ n. entry_at n later) (sym (history_length history)) ∙ entry_later (desk_entry entry) seen later (begins_same later)

    goes : (b : Bool) → texts_at later (if b then length history ∷ places who history else places who history) ≡ texts_of who seen ++ (if b then text_in (act_of entry.step) else [])
    goes true = ap₂ (λ (ts us : List (List ℕ)). ts ++ us) before (ap text_at here)
    goes false = before ∙ sym (append-nil (texts_of who seen))

pub texts_are : (who : ℕ) (history : List (turn.Entry Step)) → texts_at (history_of history) (places who history) ≡ texts_of who (history_of history)
texts_are who [] = refl
texts_are who (entry ∷ history) = texts_more who entry history (texts_are who history)
