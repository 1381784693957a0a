-- Histories, the newest entry first, and the marks that a caller has of its own calls.
use Rattle.std.specs.Prelude.{◌≡◌, ◌≤◌, ℕ, ◌+◌, ◌==◌, nat_le, if◌then◌else◌, List, [], ◌∷◌, ◌++◌, length, ⊤}
use Rattle.std.specs.List.{All}
use Rattle.wm_turn.specs.declared.view.Entry.{Entry}
use Rattle.wm_turn.specs.declared.view.Mark.{Mark}
use Rattle.wm_turn.specs.declared.view.Mark.TheVariants.{Wrote, Read}

module _ {S : Type 0} where
  -- the history goes on from what was seen
  abbrev pub Begins : List (Entry S) → List (Entry S) → Type 0
  Begins seen history = (more : List (Entry S)) × (history ≡ more ++ seen)

  -- the places of a caller's entries, the newest first; a place is the number of the entries before it
  abbrev pub places : ℕ → List (Entry S) → List ℕ
  places who [] = []
  places who (entry ∷ before) = if entry.who == who then length before ∷ places who before else places who before

  -- the longer of two histories; the second one where they are equally long
  abbrev pub longer : List (Entry S) → List (Entry S) → List (Entry S)
  longer first second = if nat_le (length first) (length second) then second else first

module _ {Q : Type 0} where
  -- the places of the entries that were written
  abbrev pub wrote : List (Mark Q) → List ℕ
  wrote [] = []
  wrote (Wrote place ∷ marks) = place ∷ wrote marks
  wrote (Read question count ∷ marks) = wrote marks

  -- the length of the history where a mark begins
  abbrev pub start_of : Mark Q → ℕ
  start_of (Wrote place) = place
  start_of (Read question count) = count

  -- the length of the history where a mark ends
  abbrev pub end_of : Mark Q → ℕ
  end_of (Wrote place) = place + 1
  end_of (Read question count) = count

  -- where the newest mark ends
  abbrev pub last_end : List (Mark Q) → ℕ
  last_end [] = 0
  last_end (mark ∷ marks) = end_of mark

  -- each mark begins no earlier than the one before it ends
  abbrev pub AreInOrder : List (Mark Q) → Type 0
  AreInOrder [] = ⊤
  AreInOrder (mark ∷ marks) = (last_end marks ≤ start_of mark) × AreInOrder marks

  -- no mark goes beyond this length of the history
  abbrev pub AreWithin : ℕ → List (Mark Q) → Type 0
  AreWithin count marks = All (λ mark. end_of mark ≤ count) marks

-- the caller's entries in what it has seen are exactly those that it has marks of, and its marks stand in order within it
pub record AreLegal {S Q : Type 0} (caller : ℕ) (seen : List (Entry S)) (mine : List (Mark Q)) : Type 0 where
  pub written : places caller seen ≡ wrote mine
  pub in_order : AreInOrder mine
  pub within : AreWithin (length seen) mine
