-- Plain patterns: what they ask of a text, and which texts they match.
use Rattle.std.specs.Prelude.{ℕ, Bool, true, false, not, ◌||◌, ◌&&◌, ◌==◌, nat_lt, nat_eq, if◌then◌else◌, List, [], ◌∷◌, length, drop, Option, Some, None, option_map, is_some}
use Rattle.std.specs.Option.{option_map_or}
use Rattle.std.specs.List.{list_any, starts_with}
use Rattle.std.specs.Char.{is_ascii_alphanumeric}
use Rattle.wm_words.specs.Pieces.{starts}

-- what a plain pattern asks of a text: characters that are a part of it, maybe at its beginning, maybe at its end
pub record Plain : Type 0 where
  pub first : Bool
  pub wanted : List ℕ
  pub last : Bool

-- a character that is more than itself: one of \ . + * ? ( ) | [ ] { } ^ $
abbrev pub is_special : ℕ → Bool
is_special c = (c == 92) || (c == 46) || (c == 43) || (c == 42) || (c == 63) || (c == 40) || (c == 41) || (c == 124) || (c == 91) || (c == 93) || (c == 123) || (c == 125) || (c == 94) || (c == 36)

-- a character that stands for itself behind \: an ASCII character that is no letter, digit, < or >
abbrev pub is_quotable : ℕ → Bool
is_quotable c = nat_lt c 128 && not (is_ascii_alphanumeric c) && not (c == 60) && not (c == 62)

-- the character that stands first, itself or behind \, and what follows it
abbrev pub character : List ℕ → Option (ℕ × List ℕ)
character [] = None
character (c ∷ []) = if is_special c then None else Some (c, [])
character (c ∷ d ∷ s) = if c == 92 then (if is_quotable d then Some (d, s) else None) else if is_special c then None else Some (c, d ∷ s)

-- no character is left, but maybe $
abbrev pub is_last : List ℕ → Bool
is_last [] = true
is_last (c ∷ []) = c == 36
is_last (c ∷ d ∷ s) = false

-- characters, and whether $ stands behind them
abbrev pub Characters : Type 0
Characters = Option (List ℕ × Bool)

-- one more character in front
abbrev pub with_character : ℕ → Characters → Characters
with_character c o = option_map (λ x. (c ∷ x.0, x.1)) o

-- the characters of a pattern behind ^, each itself or behind \, and whether $ stands last
unfoldable pub characters : List ℕ → Characters
characters [] = Some ([], false)
characters (c ∷ []) = if c == 36 then Some ([], true) else if is_special c then None else Some (c ∷ [], false)
characters (c ∷ d ∷ s) =
    if c == 92 then (if is_quotable d then with_character d (characters s) else None)
    else if is_special c then None else with_character c (characters (d ∷ s))

-- what a pattern asks, where it is plain
abbrev pub plain_of : List ℕ → Option Plain
plain_of p =
    if starts 94 p then option_map (λ x. record { first = true; wanted = x.0; last = x.1 }) (characters (drop 1 p))
    else option_map (λ x. record { first = false; wanted = x.0; last = x.1 }) (characters p)

-- the pattern is plain
abbrev pub is_plain : List ℕ → Bool
is_plain p = is_some (plain_of p)

-- the text from each of its places on, its end too
abbrev pub places : List ℕ → List (List ℕ)
places [] = [] ∷ []
places (c ∷ t) = (c ∷ t) ∷ places t

-- the characters stand at the beginning of the text, and are all of it where they are to be last
abbrev pub stands : List ℕ → Bool → List ℕ → Bool
stands wanted last t = starts_with nat_eq t wanted && (not last || (length t == length wanted))

-- the same at some place of the text
abbrev pub is_part : List ℕ → Bool → List ℕ → Bool
is_part wanted last t = list_any (stands wanted last) (places t)

-- a text has what is asked of it: at its beginning, or at some place
abbrev pub is_found : Plain → List ℕ → Bool
is_found x t = if x.first then stands x.wanted x.last t else is_part x.wanted x.last t

-- a plain pattern matches the text
abbrev pub plain_search : List ℕ → List ℕ → Bool
plain_search p t = option_map_or (λ x. is_found x t) (plain_of p) false
