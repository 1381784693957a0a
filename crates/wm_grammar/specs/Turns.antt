-- One turn of reading a text: to the end of a command, or to the ; of a blank group.
use Rattle.std.specs.Prelude.{ℕ, Bool, true, false, ◌==◌, if◌then◌else◌, List, [], ◌∷◌, Option, Some, None, option_map}
use Rattle.wm_words.specs.Pieces.{◌>>=◌, skip}
use Rattle.wm_grammar.specs.Openings.{command_at}
use Rattle.wm_grammar.specs.Reading.{criteria_part}

-- what follows the command at the front
abbrev pub command_turn : List ℕ → Option (List ℕ)
command_turn s = option_map (λ x. x.1) (command_at s)

-- the same at the front of a group, where criteria may stand, or nothing
abbrev pub front_turn : List ℕ → Option (List ℕ)
front_turn [] = Some []
front_turn (c ∷ r) = if c == 59 then Some (c ∷ r) else criteria_part (c ∷ r) >>= λ k. command_turn (skip k.1)

-- what follows the command, at the front of a group (fresh) or behind a , within one
abbrev pub turn_at : Bool → List ℕ → Option (List ℕ)
turn_at true s = front_turn (skip s)
turn_at false s = command_turn (skip s)

-- the text behind the criteria that were read of this one; all of it where none were
abbrev pub past_criteria : {A : Type 0} → List ℕ → Option (A × List ℕ) → List ℕ
past_criteria t None = t
past_criteria t (Some k) = k.1

-- the text of a turn from its command on
unfoldable pub command_part : Bool → List ℕ → List ℕ
command_part true t = past_criteria t (criteria_part (skip t))
command_part false t = t
