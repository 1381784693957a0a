-- What a clock tells after more of its numbers.
use Rattle.std.specs.Prelude.{◌≡◌, ℕ, List, [], ◌∷◌, Option, None, Some, ⊤}
use Rattle.wm_ports.specs.Listening.{grown}

-- a list that has grown by these items, of which the newest comes first
abbrev pub grown_by : {X : Type 0} → List X → List X → List X
grown_by list [] = list
grown_by list (item ∷ items) = grown (grown_by list items) item

-- a clock gave these numbers, the newest first
abbrev pub Gave : Option (List ℕ) → Option (List ℕ) → List ℕ → Type 0
Gave None new numbers = ⊤
Gave (Some told) new numbers = new ≡ Some (grown_by told numbers)
