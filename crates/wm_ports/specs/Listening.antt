-- What acceptings and givings back do to what a listener tells, and what a clock tells of the numbers that it gave.
use Rattle.std.specs.Prelude.{◌≡◌, ℕ, Bool, true, false, List, [], ◌∷◌, ◌++◌, take, Option, None, Some, ⊤}
use Rattle.wm_defs.specs.Counts.{LAST_COUNT, Rose}
use Rattle.wm_ports.specs.declared.listens.Accepted.{Accepted}
use Rattle.wm_ports.specs.declared.listens.Accepted.TheVariants as accepted

-- what the acceptings answered, and the links that were given back
pub record ListenTold (L : Type 0) : Type 0 where
  pub answers : List (Accepted L)
  pub returned : List L

-- one more at the end of a list, which has no more items than a count of 64 bits can tell
abbrev pub grown : {X : Type 0} → List X → X → List X
grown list item = take LAST_COUNT (list ++ item ∷ [])

-- what a listener tells after an accepting that answered so
abbrev pub IsAccepted : {L : Type 0} → Option (ListenTold L) → Option (ListenTold L) → Accepted L → Type 0
IsAccepted None new answer = ⊤
IsAccepted (Some t) new answer = new ≡ Some (record t { answers = grown t.answers answer })

-- what a listener tells after this link was given back
abbrev pub IsGivenBack : {L : Type 0} → Option (ListenTold L) → Option (ListenTold L) → L → Type 0
IsGivenBack None new link = ⊤
IsGivenBack (Some t) new link = new ≡ Some (record t { returned = t.returned ++ link ∷ [] })

-- how a listener's count of faults went over an accepting with this answer
abbrev pub IsTallied : {L : Type 0} → Accepted L → ℕ → ℕ → Type 0
IsTallied (accepted.Link link) old new = ⊤
IsTallied accepted.Quiet old new = ⊤
IsTallied accepted.Failed old new = Rose old new

-- whether an accepting gave a link
abbrev pub gives_link : {L : Type 0} → Accepted L → Bool
gives_link (accepted.Link link) = true
gives_link accepted.Quiet = false
gives_link accepted.Failed = false

-- what a clock tells after it gave this number
abbrev pub IsTold : Option (List ℕ) → Option (List ℕ) → ℕ → Type 0
IsTold None new number = ⊤
IsTold (Some numbers) new number = new ≡ Some (grown numbers number)
