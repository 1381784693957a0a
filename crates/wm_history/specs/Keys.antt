-- Keys: the choice that a chord has in a mode, and what is told of a chord that was bound.
use Rattle.std.specs.Prelude.{◌≡◌, ℕ, ◌+◌, ◌<◌, ◌==◌, if◌then◌else◌, List, [], ◌∷◌, ◌++◌, length, Option, None, Some}
use Rattle.std.specs.Str.{bytes_eq}
use Rattle.wm_json.specs.declared.views.EventBody.{EventBody}
use Rattle.wm_json.specs.declared.views.EventBody.TheVariants as body
use Rattle.wm_history.specs.Act.{KeyChoice}

-- the first choice for the mode
abbrev pub chosen : List ℕ → List KeyChoice → Option KeyChoice
chosen mode [] = None
chosen mode (choice ∷ choices) = if bytes_eq choice.mode mode then Some choice else chosen mode choices

-- a chord: the key, and the parts of the mask before it
pub record Chord : Type 0 where
  pub mask : List (List ℕ)
  pub key : List ℕ

-- the chord with one more part before the others
abbrev pub with_part : List ℕ → Chord → Chord
with_part part chord = record chord { mask = part ∷ chord.mask }

-- the chord whose first part begins so: each `+` ends a part of the mask, and what is behind the last one is the key
abbrev pub chord_from : List ℕ → List ℕ → Chord
chord_from part [] = record { mask = []; key = part }
chord_from part (c ∷ cs) = if c == 43 then with_part part (chord_from [] cs) else chord_from (part ++ c ∷ []) cs

abbrev pub chord_of : List ℕ → Chord
chord_of text = chord_from [] text

-- what is told of a chord that was bound to a text
abbrev pub bound : List ℕ → List ℕ → EventBody
bound chord text = body.Binding text (chord_of chord).mask (chord_of chord).key

-- the chord is this part, a `+`, and what is behind it
pub record IsPartOf (chord part behind : List ℕ) : Type 0 where
  pub parts : chord_of chord ≡ with_part part (chord_of behind)
  pub whole : length part + length behind < length chord
