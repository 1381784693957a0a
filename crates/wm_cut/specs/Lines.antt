-- Lines of bytes, each ended by a line feed.
use Rattle.std.specs.Prelude.{ℕ, ◌+◌, Bool, ◌==◌, if◌then◌else◌, List, [], ◌∷◌, Option, None, Some, is_some, length}
use Rattle.std.specs.Option.{option_map}

-- a byte is a line feed
abbrev pub is_feed : ℕ → Bool
is_feed byte = byte == 10

-- the first line, without its line feed; None where no line feed has come
abbrev pub first_line : List ℕ → Option (List ℕ)
first_line [] = None
first_line (byte ∷ bytes) = if is_feed byte then Some [] else option_map (λ line. byte ∷ line) (first_line bytes)

-- what follows the first line feed; nothing where there is none
abbrev pub behind_line : List ℕ → List ℕ
behind_line [] = []
behind_line (byte ∷ bytes) = if is_feed byte then bytes else behind_line bytes

-- the same lines, the first of which begins with one byte more; none where there are none
abbrev pub begun : ℕ → List (List ℕ) → List (List ℕ)
begun byte [] = []
begun byte (line ∷ lines) = (byte ∷ line) ∷ lines

-- the whole lines, each ended by a line feed, without it
abbrev pub lines_in : List ℕ → List (List ℕ)
lines_in [] = []
lines_in (byte ∷ bytes) = if is_feed byte then [] ∷ lines_in bytes else begun byte (lines_in bytes)

-- the bytes behind the last line feed; all where there is none
abbrev pub rest_in : List ℕ → List ℕ
rest_in [] = []
rest_in (byte ∷ bytes) = if is_some (first_line (byte ∷ bytes)) then rest_in bytes else byte ∷ bytes

-- how many bytes the first line has
abbrev pub end_in : List ℕ → Option ℕ
end_in bytes = option_map length (first_line bytes)

-- the same once these bytes came behind so many others, whose first line had so many
abbrev pub end_after : Option ℕ → ℕ → List ℕ → Option ℕ
end_after (Some end) before bytes = Some end
end_after None before bytes = option_map (λ end. before + end) (end_in bytes)
