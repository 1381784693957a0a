-- What readings and writings do to the bytes that a source or a sink tells, where it tells them.
use Rattle.std.specs.Prelude.{◌≡◌, ℕ, ◌≤◌, List, [], ◌++◌, length, take, drop, Option, None, Some, Result, MatchResult, ⊤}

-- n bytes of xs were read to the front of room, none only at the end, and new tells what is left
pub record ReadsFrom (xs : List ℕ) (new : Option (List ℕ)) (n : ℕ) (room : List ℕ) : Type 0 where
  pub end : n ≡ 0 → xs ≡ []
  pub bytes : take n room ≡ take n xs
  pub left : new ≡ Some (drop n xs)

-- a reading with this result took the first bytes of the rest into room, or took nothing and failed
abbrev pub Reads : {E : Type 0} → Option (List ℕ) → Option (List ℕ) → Result ℕ E → List ℕ → Type 0
Reads None new result room = ⊤
Reads (Some xs) new result room = MatchResult result (λ n. ReadsFrom xs new n room) (λ _. new ≡ Some xs)

-- a writing with this result added the first bytes to what was taken, or took nothing and failed
abbrev pub Takes : {E : Type 0} → Option (List ℕ) → Option (List ℕ) → Result ℕ E → List ℕ → Type 0
Takes None new result bytes = ⊤
Takes (Some t) new result bytes = MatchResult result (λ n. new ≡ Some (t ++ take n bytes)) (λ _. new ≡ Some t)

-- told bytes grew by the first n of these bytes, and no more bytes than there are
pub record GrowsBy (t : List ℕ) (new : Option (List ℕ)) (bytes : List ℕ) (n : ℕ) : Type 0 where
  pub within : n ≤ length bytes
  pub grown : new ≡ Some (t ++ take n bytes)

-- all of these bytes were added to what was taken
abbrev pub TakesAll : Option (List ℕ) → Option (List ℕ) → List ℕ → Type 0
TakesAll None new bytes = ⊤
TakesAll (Some t) new bytes = new ≡ Some (t ++ bytes)

-- a first part of these bytes was added to what was taken
abbrev pub TakesPart : Option (List ℕ) → Option (List ℕ) → List ℕ → Type 0
TakesPart None new bytes = ⊤
TakesPart (Some t) new bytes = (n : ℕ) × GrowsBy t new bytes n

-- these bytes were read, and they are all that was told
abbrev pub ReadsAll : Option (List ℕ) → Option (List ℕ) → List ℕ → Type 0
ReadsAll None new bytes = ⊤
ReadsAll (Some xs) new bytes = (bytes ≡ xs) × (new ≡ Some [])

-- this many of the bytes told were read, and new tells what is left
abbrev pub ReadsCount : Option (List ℕ) → Option (List ℕ) → ℕ → Type 0
ReadsCount None new count = ⊤
ReadsCount (Some xs) new count = (count ≤ length xs) × (new ≡ Some (drop count xs))

-- a first part of what was told was read, and new tells what is left
abbrev pub ReadsPart : Option (List ℕ) → Option (List ℕ) → Type 0
ReadsPart None new = ⊤
ReadsPart (Some xs) new = (count : ℕ) × ReadsCount (Some xs) new count
