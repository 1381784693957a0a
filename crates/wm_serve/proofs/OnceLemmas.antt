-- What a listener that gives one link tells after one more accepting.
use Rattle.std.proofs.Common.{◌≡◌, ◌∙◌, ◌≤◌, refl, sym, ap, arith, ℕ, suc, zero, ◌+◌, List, [], ◌∷◌, length, Option, None, Some, inl, inr}
use Rattle.std.proofs.Math.Nat.{eq-or-lt_of_le}
use Rattle.std.proofs.lemmas.List.{length_push}
use Rattle.std.proofs.lemmas.Option.{none-some}
use Rattle.wm_defs.specs.Counts.{LAST_COUNT}
use Rattle.wm_ports.proofs.ListenLemmas.{grown-below, grown-full, next-last, next-suc}
use Rattle.wm_ports.specs.Listening.{ListenTold, grown}
use Rattle.wm_ports.specs.Memory.{next}
use Rattle.wm_ports.specs.declared.listens.Accepted.{Accepted}
use Rattle.wm_ports.specs.declared.listens.Accepted.TheVariants as accepted
use Rattle.wm_serve.specs.Once.{OnceState, answers, list_of, once_told, quiets, waiting_at}
use Rattle.wm_serve.specs.declared.rehearsed.RehearsedLink.{RehearsedLink}

length_quiets : (n : ℕ) → length (quiets n) ≡ n
length_quiets zero = refl
length_quiets (suc n) = length_push (quiets n) accepted.Quiet ∙ ap (λ k. k + 1) (length_quiets n) ∙ omega arith

more_quiet : (link : RehearsedLink) (n : ℕ) → suc n ≤ LAST_COUNT → answers link (next (suc n)) ≡ grown (answers link (suc n)) accepted.Quiet
more_quiet link n few = elim (eq-or-lt_of_le few) [
  | inl last ↦ ap (λ k. answers link k) (next-last (suc n) last)
      ∙ sym (grown-full (answers link (suc n)) accepted.Quiet (suc n) (ap suc (length_quiets n)) last)
  | inr below ↦ ap (λ k. answers link k) (next-suc (suc n) below)
      ∙ sym (grown-below (answers link (suc n)) accepted.Quiet (suc n) (ap suc (length_quiets n)) below)
]

first_answer : (link : RehearsedLink) → answers link (next 0) ≡ grown [] (accepted.Link link)
first_answer link = ap (λ k. answers link k) (next-suc 0 (omega arith)) ∙ sym (grown-below [] (accepted.Link link) 0 refl (omega arith))

-- what it tells after an accepting, of which the link and what was given back stay the same
abbrev pub once : RehearsedLink → Option RehearsedLink → ℕ → OnceState
once link left calls = record { link = link; left = left; calls = calls }

abbrev pub telling : RehearsedLink → Option RehearsedLink → List (Accepted RehearsedLink) → Option (ListenTold RehearsedLink)
telling link left given = Some (record { answers = given; returned = link ∷ list_of left })

pub told_quiet : (link : RehearsedLink) (left : Option RehearsedLink) (calls call : ℕ) → calls ≤ LAST_COUNT → call ≡ next calls → None ≡ waiting_at link calls
    → once_told (once link left call) ≡ telling link left (grown (answers link calls) accepted.Quiet)
told_quiet link left zero call few is waits = absurd (none-some link waits)
told_quiet link left (suc n) call few is waits = ap (telling link left) (ap (λ k. answers link k) is ∙ more_quiet link n few)

abbrev pub given_or : RehearsedLink → Option RehearsedLink → RehearsedLink
given_or link None = link
given_or link (Some given) = given

pub told_link : (link given : RehearsedLink) (left : Option RehearsedLink) (calls call : ℕ) → call ≡ next calls → Some given ≡ waiting_at link calls
    → once_told (once link left call) ≡ telling link left (grown (answers link calls) (accepted.Link given))
told_link link given left zero call is waits =
    ap (telling link left) (ap (λ k. answers link k) is ∙ first_answer link ∙ ap (λ l. grown [] (accepted.Link l)) (sym (given_is waits)))
  where
    given_is : Some given ≡ waiting_at link zero → given ≡ link
    given_is e = ap (given_or link) e
told_link link given left (suc n) call is waits = absurd (none-some given (sym waits))
