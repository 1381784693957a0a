-- A search for the farthest place up to which the front of a text may read and end with ;
use Rattle.std.specs.Prelude.{ℕ, zero, suc, ◌+◌, ◌-◌, Bool, not, ◌==◌, if◌then◌else◌, List, [], ◌∷◌, length, take, drop, Option, Some, None, option_map}
use Rattle.wm_words.specs.Pieces.{◌>>=◌, is_semicolon, first_of, has}
use Rattle.wm_grammar.specs.Turns.{turn_at, command_part}

-- a byte before what stands before the last " behind it, or nothing where it is that "
abbrev pub before_quote : ℕ → Option (List ℕ) → Option (List ℕ)
before_quote c (Some b) = Some (c ∷ b)
before_quote c None = if c == 34 then Some [] else None

-- what stands before the last "
unfoldable pub before_last_quote : List ℕ → Option (List ℕ)
before_last_quote [] = None
before_last_quote (c ∷ r) = before_quote c (before_last_quote r)

-- Places are said by how many bytes follow them.
abbrev pub Search : Type 0
Search = Bool → List ℕ → Option ℕ

-- the text before the last quote that the turn closed, which stopped at e; a place may lie there only behind a ; of
-- the command, whose text from there on is c
unfoldable pub cut_off : List ℕ → List ℕ → List ℕ → Option (List ℕ)
cut_off t c e = before_last_quote (take (length t - length e) t) >>= λ b. if has is_semicolon (drop (length t - length c) b) then Some b else None

-- a place inside the turn that stopped at e: there the quote that it closed is cut off
unfoldable pub inside : Search → Bool → List ℕ → List ℕ → Option ℕ
inside go fresh t e = cut_off t (command_part fresh t) e >>= λ b. option_map (λ k. k + (length t - length b)) (go fresh b)

-- a place at the end of the turn, behind its ;, or else inside it
unfoldable pub here : Search → Bool → List ℕ → List ℕ → Option ℕ
here go fresh t [] = inside go fresh t []
here go fresh t (c ∷ r) = if c == 59 then Some (length r) else inside go fresh t (c ∷ r)

-- a place behind the turn, or else at its end or inside it
unfoldable pub behind : Search → Bool → List ℕ → List ℕ → Option ℕ
behind go fresh t [] = here go fresh t []
behind go fresh t (c ∷ r) = first_of (go (not (c == 44)) r) (here go fresh t (c ∷ r))

-- over at most n turns
unfoldable pub farthest : ℕ → Bool → List ℕ → Option ℕ
farthest zero fresh t = None
farthest (suc n) fresh t = turn_at fresh t >>= behind (farthest n) fresh t
