-- What the lists of a listener and of a clock in memory are after one more call.
use Rattle.std.proofs.Common.{Some, Option, ◌≡◌, ℕ, ◌+◌, ◌<◌, min, inl, inr, suc, zero, true, false, List, [], ◌∷◌, ◌++◌, length, refl, sym, ◌∙◌, ap, subst, arith}
use Rattle.std.proofs.Math.Nat.{eq-or-lt_of_le}
use Rattle.std.proofs.lemmas.List.{length_push, take_all, take-append-le}
use Rattle.wm_defs.specs.Counts.{LAST_COUNT}
use Rattle.wm_ports.specs.LinkMemory.{LinkState}
use Rattle.wm_ports.specs.ListenMemory.{IsNow, IsWaiting, accepted_at, answers, chosen_link, number_after, numbers, waiting_after, waiting_by}
use Rattle.wm_ports.specs.Listening.{ListenTold, grown}
use Rattle.wm_ports.specs.Memory.{is_listed, next}
use Rattle.wm_ports.specs.declared.listens.Accepted.{Accepted}
use Rattle.wm_ports.specs.declared.listens.Accepted.TheVariants as accepted

-- ---- lists that grow with a count

pub next-suc : (n : ℕ) → n < LAST_COUNT → next n ≡ suc n
next-suc n below = omega (arith, below)

pub next-last : (n : ℕ) → n ≡ LAST_COUNT → next n ≡ n
next-last n last = omega (arith, last)

pub below-next : (n : ℕ) → next n < LAST_COUNT → n < LAST_COUNT
below-next n below = omega (arith, below)

pub grown-below : {X : Type 0} → (list : List X) (item : X) (n : ℕ) → length list ≡ n → n < LAST_COUNT → grown list item ≡ list ++ item ∷ []
grown-below list item n long below = take_all LAST_COUNT (list ++ item ∷ []) (omega (arith, length_push list item, long, below))

pub grown-full : {X : Type 0} → (list : List X) (item : X) (n : ℕ) → length list ≡ n → n ≡ LAST_COUNT → grown list item ≡ list
grown-full list item n long last =
    take-append-le LAST_COUNT list (item ∷ []) (omega (arith, long, last)) ∙ take_all LAST_COUNT list (omega (arith, long, last))

-- ---- answers

pub answers-length : (links : List LinkState) (fails quiet : List ℕ) (n : ℕ) → length (answers links fails quiet n) ≡ n
unfolding answers
answers-length links fails quiet zero = refl
answers-length links fails quiet (suc n) =
    length_push (answers links fails quiet n) (accepted_at fails quiet (suc n) (waiting_after links fails quiet n))
    ∙ ap (λ k. k + 1) (answers-length links fails quiet n) ∙ omega arith

pub answers-below :
    (links : List LinkState) (fails quiet : List ℕ) (n : ℕ) (waiting : List LinkState) → n < LAST_COUNT
    → waiting ≡ waiting_after links fails quiet n
    → answers links fails quiet (suc n) ≡ grown (answers links fails quiet n) (accepted_at fails quiet (suc n) waiting)
unfolding answers waiting_after
answers-below links fails quiet n waiting below e =
    ap (λ w. answers links fails quiet n ++ accepted_at fails quiet (suc n) w ∷ []) (sym e)
    ∙ sym (grown-below (answers links fails quiet n) (accepted_at fails quiet (suc n) waiting) n (answers-length links fails quiet n) below)

pub answers-next :
    (links : List LinkState) (fails quiet : List ℕ) (n : ℕ) (waiting : List LinkState)
    → IsWaiting links fails quiet n waiting
    → answers links fails quiet (next n) ≡ grown (answers links fails quiet n) (accepted_at fails quiet (next n) waiting)
answers-next links fails quiet n waiting w = elim (eq-or-lt_of_le w.within) [
  | inl last ↦ ap (λ k. answers links fails quiet k) (next-last n last)
      ∙ sym (grown-full (answers links fails quiet n) (accepted_at fails quiet (next n) waiting) n (answers-length links fails quiet n) last)
  | inr below ↦ subst (λ k. answers links fails quiet k ≡ grown (answers links fails quiet n) (accepted_at fails quiet k waiting))
      (sym (next-suc n below)) (answers-below links fails quiet n waiting below (w.is below))
]

-- the answers after one more accepting, which had this number and answered so
pub answers-after :
    (links : List LinkState) (fails quiet : List ℕ) (n call : ℕ) (waiting : List LinkState) (answer : Accepted LinkState)
    → call ≡ next n → IsWaiting links fails quiet n waiting → answer ≡ accepted_at fails quiet call waiting
    → answers links fails quiet call ≡ grown (answers links fails quiet n) answer
answers-after links fails quiet n call waiting answer e w is =
    ap (λ k. answers links fails quiet k) e ∙ answers-next links fails quiet n waiting w
    ∙ ap (λ k. grown (answers links fails quiet n) (accepted_at fails quiet k waiting)) (sym e)
    ∙ ap (λ a. grown (answers links fails quiet n) a) (sym is)

-- the links that wait after one more accepting, which had this number and answered so
pub waiting-after :
    (links : List LinkState) (fails quiet : List ℕ) (n call : ℕ) (waiting : List LinkState) (answer : Accepted LinkState)
    → call ≡ next n → IsWaiting links fails quiet n waiting → answer ≡ accepted_at fails quiet call waiting
    → IsWaiting links fails quiet call (waiting_by answer waiting)
unfolding waiting_after
waiting-after links fails quiet n call waiting answer e w is = record {
  within = omega (arith, e);
  is = λ below.
      let before : n < LAST_COUNT = below-next n (subst (λ k. k < LAST_COUNT) e below) in
      let one : call ≡ suc n = e ∙ next-suc n before in
      ap (λ a. waiting_by a waiting) (is ∙ ap (λ k. accepted_at fails quiet k waiting) one)
      ∙ ap (λ l. waiting_by (accepted_at fails quiet (suc n) l) l) (w.is before)
      ∙ ap (λ k. waiting_after links fails quiet k) (sym one);
}

-- what a listener tells that these acceptings and givings back were made of
abbrev pub telling : List (Accepted LinkState) → List LinkState → Option (ListenTold LinkState)
telling given returned = Some (record { answers = given; returned = returned })

pub told-after :
    (links : List LinkState) (fails quiet : List ℕ) (n call : ℕ) (waiting returned : List LinkState) (answer : Accepted LinkState)
    → call ≡ next n → IsWaiting links fails quiet n waiting → answer ≡ accepted_at fails quiet call waiting
    → telling (answers links fails quiet call) returned ≡ telling (grown (answers links fails quiet n) answer) returned
told-after links fails quiet n call waiting returned answer e w is =
    ap (λ a. telling a returned) (answers-after links fails quiet n call waiting answer e w is)

-- ---- what an accepting answers

pub fails-at : (fails quiet : List ℕ) (call : ℕ) (waiting : List LinkState) → is_listed fails call ≡ true → accepted.Failed ≡ accepted_at fails quiet call waiting
fails-at fails quiet call waiting e = ap (λ b. chosen_link b (is_listed quiet call) waiting) (sym e)

pub quiet-at :
    (fails quiet : List ℕ) (call : ℕ) (waiting : List LinkState) → is_listed fails call ≡ false → is_listed quiet call ≡ true
    → accepted.Quiet ≡ accepted_at fails quiet call waiting
quiet-at fails quiet call waiting e f =
    ap (λ b. chosen_link false b waiting) (sym f) ∙ ap (λ b. chosen_link b (is_listed quiet call) waiting) (sym e)

pub given-at :
    (fails quiet : List ℕ) (call : ℕ) (waiting : List LinkState) → is_listed fails call ≡ false → is_listed quiet call ≡ false
    → chosen_link false false waiting ≡ accepted_at fails quiet call waiting
given-at fails quiet call waiting e f =
    ap (λ b. chosen_link false b waiting) (sym f) ∙ ap (λ b. chosen_link b (is_listed quiet call) waiting) (sym e)

pub no-links : (links : List LinkState) → length links ≡ 0 → links ≡ []
no-links [] none = refl
no-links (link ∷ rest) none = absurd (omega (arith, none))

-- ---- clocks

pub numbers-length : (first add n : ℕ) → length (numbers first add n) ≡ n
unfolding numbers number_after
numbers-length first add zero = refl
numbers-length first add (suc n) =
    length_push (numbers first add n) (number_after first add n) ∙ ap (λ k. k + 1) (numbers-length first add n) ∙ omega arith

pub numbers-below :
    (first add n now : ℕ) → n < LAST_COUNT → now ≡ number_after first add n
    → numbers first add (suc n) ≡ grown (numbers first add n) now
unfolding numbers number_after
numbers-below first add n now below e =
    ap (λ k. numbers first add n ++ k ∷ []) (sym e) ∙ sym (grown-below (numbers first add n) now n (numbers-length first add n) below)

pub numbers-after :
    (first add n call now : ℕ) → call ≡ next n → IsNow first add n now
    → numbers first add call ≡ grown (numbers first add n) now
numbers-after first add n call now e w = elim (eq-or-lt_of_le w.within) [
  | inl last ↦ ap (λ k. numbers first add k) (e ∙ next-last n last) ∙ sym (grown-full (numbers first add n) now n (numbers-length first add n) last)
  | inr below ↦ ap (λ k. numbers first add k) (e ∙ next-suc n below) ∙ numbers-below first add n now below (w.is below)
]

pub now-after :
    (first add n call now : ℕ) → call ≡ next n → IsNow first add n now → IsNow first add call (min (now + add) LAST_COUNT)
unfolding number_after
now-after first add n call now e w = record {
  within = omega (arith, e);
  is = λ below.
      let before : n < LAST_COUNT = below-next n (subst (λ k. k < LAST_COUNT) e below) in
      ap (λ k. min (k + add) LAST_COUNT) (w.is before) ∙ ap (λ k. number_after first add k) (sym (e ∙ next-suc n before));
}
