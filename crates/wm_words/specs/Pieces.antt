-- The pieces that texts of the command language are made of: blanks, words, numbers and arguments.
use Rattle.std.specs.Prelude.{ℕ, ◌+◌, ◌-◌, ◌*◌, Bool, true, false, ◌||◌, ◌&&◌, nat_le, nat_lt, ◌==◌, if◌then◌else◌, List, [], ◌∷◌, length, Option, Some, None, option_and_then, ℤ, pos, neg_ℤ}
use Rattle.std.specs.Str.{is_utf8}

infixl 10 ◌>>=◌
abbrev pub ◌>>=◌ : {A B : Type 0} → Option A → (A → Option B) → Option B
o >>= f = option_and_then f o

-- the first of two that is there
abbrev pub first_of : {A : Type 0} → Option A → Option A → Option A
first_of None b = b
first_of (Some x) b = Some x

-- ---- bytes

-- a space or a tab
abbrev pub is_blank : ℕ → Bool
is_blank c = (c == 32) || (c == 9)

-- what ends a command: , or ;
abbrev pub is_end : ℕ → Bool
is_end c = (c == 44) || (c == 59)

-- what ends a group
abbrev pub is_semicolon : ℕ → Bool
is_semicolon c = c == 59

-- what ends a word that is not quoted: a blank, , or ;
abbrev pub is_gap : ℕ → Bool
is_gap c = is_blank c || is_end c

-- what ends a key's name: a blank, = or ]
abbrev pub ends_name : ℕ → Bool
ends_name c = is_blank c || (c == 61) || (c == 93)

-- what ends a key's value that is not quoted: a blank, ] or "
abbrev pub ends_value : ℕ → Bool
ends_value c = is_blank c || (c == 93) || (c == 34)

-- what no word has: a blank or "
abbrev pub breaks_word : ℕ → Bool
breaks_word c = is_blank c || (c == 34)

-- a letter from A to Z as the one from a to z
abbrev pub lower : ℕ → ℕ
lower c = if nat_le 65 c && nat_le c 90 then c + 32 else c

-- ---- lists of bytes

abbrev pub is_nil : {A : Type 0} → List A → Bool
is_nil [] = true
is_nil (x ∷ xs) = false

-- the text begins with this byte
abbrev pub starts : ℕ → List ℕ → Bool
starts c [] = false
starts c (x ∷ xs) = x == c

-- the text before the first byte that passes
unfoldable pub until : (ℕ → Bool) → List ℕ → List ℕ
until p [] = []
until p (x ∷ xs) = if p x then [] else x ∷ until p xs

-- the text from the first byte that passes on
unfoldable pub from : (ℕ → Bool) → List ℕ → List ℕ
from p [] = []
from p (x ∷ xs) = if p x then x ∷ xs else from p xs

-- some byte passes
unfoldable pub has : (ℕ → Bool) → List ℕ → Bool
has p [] = false
has p (x ∷ xs) = p x || has p xs

-- the text from its first byte that is no blank on
unfoldable pub skip : List ℕ → List ℕ
skip [] = []
skip (x ∷ xs) = if is_blank x then skip xs else x ∷ xs

-- a byte before what is kept of the text behind it; a blank before nothing is not kept
abbrev pub kept_before : ℕ → List ℕ → List ℕ
kept_before x [] = if is_blank x then [] else x ∷ []
kept_before x (y ∷ ys) = x ∷ y ∷ ys

-- the text without the blanks at its end
unfoldable pub trim_end : List ℕ → List ℕ
trim_end [] = []
trim_end (x ∷ xs) = kept_before x (trim_end xs)

-- a command ends here: at , or ; or the end of the text
abbrev pub ends : List ℕ → Bool
ends [] = true
ends (c ∷ r) = is_end c

-- ---- words: both of a text that has no blank at its beginning

-- the first word
abbrev pub word : List ℕ → List ℕ
word r = until is_blank r

-- what comes after the first word and the blanks behind it
abbrev pub after : List ℕ → List ℕ
after r = skip (from is_blank r)

-- the word is this name, in any case
unfoldable pub is_word : List ℕ → List ℕ → Bool
is_word [] [] = true
is_word [] (y ∷ ys) = false
is_word (x ∷ xs) [] = false
is_word (x ∷ xs) (y ∷ ys) = (lower x == y) && is_word xs ys

-- the text is this one
unfoldable pub is_text : List ℕ → List ℕ → Bool
is_text [] [] = true
is_text [] (y ∷ ys) = false
is_text (x ∷ xs) [] = false
is_text (x ∷ xs) (y ∷ ys) = (x == y) && is_text xs ys

-- the first word is this name
abbrev pub says : List ℕ → List ℕ → Bool
says r name = is_word (word r) name

-- what stands beside the word in a table
abbrev pub choice : {A : Type 0} → List (List ℕ × A) → List ℕ → Option A
choice [] w = None
choice (row ∷ rows) w = if is_word w row.0 then Some row.1 else choice rows w

-- the word of a text of one word
unfoldable pub single : List ℕ → Option (List ℕ)
single r = if is_nil (after r) then Some (word r) else None

-- what stands in a table beside the word of a text of one word
abbrev pub only : {A : Type 0} → List (List ℕ × A) → List ℕ → Option A
only table r = single r >>= λ w. choice table w

-- ---- numbers

-- the value of a digit
abbrev pub digit : ℕ → Option ℕ
digit c = if nat_le 48 c && nat_le c 57 then Some (c - 48) else None

-- the number that digits go on to make, behind those of n; none where it would be above 4,294,967,295
unfoldable pub digits_from : ℕ → List ℕ → Option ℕ
digits_from n [] = Some n
digits_from n (c ∷ cs) = digit c >>= λ d. if nat_lt (10 * n + d) 4294967296 then digits_from (10 * n + d) cs else None

-- 1 to 10 digits with a value of at most 4,294,967,295
unfoldable pub natural : List ℕ → Option ℕ
natural w = if is_nil w || nat_lt 10 (length w) then None else digits_from 0 w

-- such a number below 0
abbrev pub below_zero : Option ℕ → Option ℤ
below_zero None = None
below_zero (Some n) = Some (neg_ℤ (pos n))

abbrev pub above_zero : Option ℕ → Option ℤ
above_zero None = None
above_zero (Some n) = Some (pos n)

-- such a number, with - before it or not
unfoldable pub integer : List ℕ → Option ℤ
integer [] = None
integer (c ∷ cs) = if c == 45 then below_zero (natural cs) else above_zero (natural (c ∷ cs))

-- a number and nothing more
abbrev pub only_number : List ℕ → Option ℕ
only_number r = single r >>= λ w. natural w

-- ---- arguments

-- a text in UTF-8 of at most 1,024 bytes
unfoldable pub argument : List ℕ → Option (List ℕ)
argument x = if is_utf8 x && nat_le (length x) 1024 then Some x else None

-- a text with one more byte before it, and what follows
abbrev pub with_byte : ℕ → Option (List ℕ × List ℕ) → Option (List ℕ × List ℕ)
with_byte c None = None
with_byte c (Some x) = Some (c ∷ x.0, x.1)

-- The text before the closing ", of which this is what stands behind the opening one, and what follows.
-- A \ before " or \ is left out; any other stands for itself.
unfoldable pub unquote : List ℕ → Option (List ℕ × List ℕ)
unquote [] = None
unquote (c ∷ []) = if c == 34 then Some ([], []) else None
unquote (c ∷ d ∷ r) =
    if c == 34 then Some ([], d ∷ r)
    else if (c == 92) && ((d == 34) || (d == 92)) then with_byte d (unquote r)
    else with_byte c (unquote (d ∷ r))
