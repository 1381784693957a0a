-- The words of a line: how they are separated, and what those of each kind say.
use Rattle.std.specs.Prelude.{◌≡◌, ℕ, ℤ, pos, neg_ℤ, ◌+◌, ◌*◌, ◌-◌, ◌^◌, ◌≤◌, ◌⊎◌, List, [], ◌∷◌, ◌++◌, length, codes}
use Rattle.std.specs.List.{AllByRecursion, flat_map}
use Rattle.std.specs.Str.{IsUtf8}
use Rattle.wm_base.specs.declared.properties.Props.{Props}

-- ---- words and the spaces between them

-- one or more spaces
pub record IsGap (text : List ℕ) : Type 0 where
  pub some : 1 ≤ length text
  pub spaces : AllByRecursion (λ c. c ≡ 32) text

-- it does not begin with this byte
abbrev pub BeginsWithout : ℕ → List ℕ → Type 0
BeginsWithout byte [] = Unit {0}
BeginsWithout byte (c ∷ cs) = ¬ (c ≡ byte)

-- a word, one or more spaces, and a text of which something holds
pub record IsBefore (word : List ℕ) (Holds : List ℕ → Type 0) (text : List ℕ) : Type 0 where
  pub gap : List ℕ
  pub later : List ℕ
  pub whole : text ≡ word ++ (gap ++ later)
  pub is_gap : IsGap gap
  pub holds : Holds later

-- the text is these words in their order, each two separated by one or more spaces
abbrev pub AreWords : List (List ℕ) → List ℕ → Type 0
AreWords [] text = text ≡ []
AreWords (word ∷ []) text = text ≡ word
AreWords (word ∷ next ∷ words) text = IsBefore word (AreWords (next ∷ words)) text

-- ---- numbers

-- a decimal digit
abbrev pub IsDigit : ℕ → Type 0
IsDigit c = (48 ≤ c) × (c ≤ 57)

-- the value of decimal digits, the highest first
abbrev pub value_of : List ℕ → ℕ
value_of [] = 0
value_of (digit ∷ digits) = (digit - 48) * 10 ^ length digits + value_of digits

-- 1 to 20 decimal digits, whose value is n, which is at most `most`
pub record IsNumber (most : ℕ) (text : List ℕ) (n : ℕ) : Type 0 where
  pub digits : AllByRecursion IsDigit text
  pub some : 1 ≤ length text
  pub few : length text ≤ 20
  pub value : n ≡ value_of text
  pub within : n ≤ most

-- a number of 32 bits, as the id of a container or the number of a caller
abbrev pub IsId : List ℕ → ℕ → Type 0
IsId text n = IsNumber 4294967295 text n

-- a number of 64 bits
abbrev pub IsLong : List ℕ → ℕ → Type 0
IsLong text n = IsNumber 18446744073709551615 text n

-- a width in pixels
abbrev pub IsWidth : List ℕ → ℕ → Type 0
IsWidth text n = IsNumber 16384 text n

-- `WxH`
pub record IsSize (text : List ℕ) (w h : ℕ) : Type 0 where
  pub width : List ℕ
  pub height : List ℕ
  pub whole : text ≡ width ++ (codes "x" ++ height)
  pub is_width : IsWidth width w
  pub is_height : IsWidth height h

-- a number of at most 131,071
pub record IsAhead (text : List ℕ) (x : ℤ) : Type 0 where
  pub n : ℕ
  pub is_number : IsNumber 131071 text n
  pub value : x ≡ pos n

-- `-` and a number of at most 131,072
pub record IsBack (text : List ℕ) (x : ℤ) : Type 0 where
  pub digits : List ℕ
  pub n : ℕ
  pub whole : text ≡ codes "-" ++ digits
  pub is_number : IsNumber 131072 digits n
  pub value : x ≡ neg_ℤ (pos n)

-- a number from -131,072 to 131,071
abbrev pub IsCoordinate : List ℕ → ℤ → Type 0
IsCoordinate text x = IsAhead text x ⊎ IsBack text x

-- `X,Y`
pub record IsPlace (text : List ℕ) (x y : ℤ) : Type 0 where
  pub across : List ℕ
  pub down : List ℕ
  pub whole : text ≡ across ++ (codes "," ++ down)
  pub is_across : IsCoordinate across x
  pub is_down : IsCoordinate down y

-- ---- inks

-- a hexadecimal digit in either case, and its value
abbrev pub IsHexDigit : ℕ → ℕ → Type 0
IsHexDigit c n = (n ≤ 9) × (c ≡ 48 + n) ⊎ ((10 ≤ n) × (n ≤ 15) × (c ≡ 87 + n) ⊎ (10 ≤ n) × (n ≤ 15) × (c ≡ 55 + n))

-- two hexadecimal digits, and their value
pub record IsHexPair (text : List ℕ) (n : ℕ) : Type 0 where
  pub first : ℕ
  pub second : ℕ
  pub high : ℕ
  pub low : ℕ
  pub whole : text ≡ first ∷ second ∷ []
  pub is_high : IsHexDigit first high
  pub is_low : IsHexDigit second low
  pub value : n ≡ high * 16 + low

-- six hexadecimal digits, two each for red, green and blue
pub record IsInk (text : List ℕ) (ink : ℕ) : Type 0 where
  pub red_text : List ℕ
  pub green_text : List ℕ
  pub blue_text : List ℕ
  pub red : ℕ
  pub green : ℕ
  pub blue : ℕ
  pub whole : text ≡ red_text ++ (green_text ++ blue_text)
  pub is_red : IsHexPair red_text red
  pub is_green : IsHexPair green_text green
  pub is_blue : IsHexPair blue_text blue
  pub value : ink ≡ red * 65536 + green * 256 + blue

-- ---- texts

-- a piece of a quoted text: a byte that stands for itself; a quotation mark, a backslash or a line feed, each written with a
-- backslash before it; or a backslash that stands for itself, with the byte behind it
pub data Piece : Type 0 where
  Byte : ℕ → Piece
  Mark Backslash Feed : Piece
  Both : ℕ → Piece

-- 34 is the quotation mark, 92 the backslash, and 110 the letter n: a piece as it is written
abbrev pub written : Piece → List ℕ
written (Byte c) = c ∷ []
written Mark = 92 ∷ 34 ∷ []
written Backslash = 92 ∷ 92 ∷ []
written Feed = 92 ∷ 110 ∷ []
written (Both c) = 92 ∷ c ∷ []

-- what a piece stands for
abbrev pub meant : Piece → List ℕ
meant (Byte c) = c ∷ []
meant Mark = 34 ∷ []
meant Backslash = 92 ∷ []
meant Feed = 10 ∷ []
meant (Both c) = 92 ∷ c ∷ []

-- a quotation mark and a backslash do not stand for themselves, and a backslash does so only before another byte than `"`, `\` and `n`
abbrev pub IsPiece : Piece → Type 0
IsPiece (Byte c) = ¬ (c ≡ 34) × ¬ (c ≡ 92)
IsPiece (Both c) = ¬ (c ≡ 34) × ¬ (c ≡ 92) × ¬ (c ≡ 110)
IsPiece other = Unit {0}

-- a text between quotation marks, which says a text in UTF-8 of at most this many bytes
pub record IsQuoted (most : ℕ) (text said : List ℕ) : Type 0 where
  pub pieces : List Piece
  pub fit : AllByRecursion IsPiece pieces
  pub whole : text ≡ 34 ∷ (flat_map written pieces ++ 34 ∷ [])
  pub means : said ≡ flat_map meant pieces
  pub utf8 : IsUtf8 said
  pub few : length said ≤ most

-- a quoted text of at most 1,024 bytes
abbrev pub IsShort : List ℕ → List ℕ → Type 0
IsShort text said = IsQuoted 1024 text said

-- 1 to 1,024 bytes in UTF-8 without a space, which do not begin with a quotation mark
pub record IsWord (text : List ℕ) : Type 0 where
  pub some : 1 ≤ length text
  pub few : length text ≤ 1024
  pub utf8 : IsUtf8 text
  pub unspaced : AllByRecursion (λ c. ¬ (c ≡ 32)) text
  pub unquoted : BeginsWithout 34 text

-- a name: a quoted text, or a word, which says itself
abbrev pub IsName : List ℕ → List ℕ → Type 0
IsName text name = IsShort text name ⊎ (IsWord text × (name ≡ text))

-- ---- properties of a window

-- a property that a line may give
pub data Field : Type 0 where
  Class Instance Role Kind Machine Title : Field

-- a property as a line gives it: which one, and its text
pub record Property : Type 0 where
  pub field : Field
  pub said : List ℕ

-- how a property is called, with its `=`
abbrev pub title_of : Field → List ℕ
title_of Class = codes "class="
title_of Instance = codes "instance="
title_of Role = codes "role="
title_of Kind = codes "kind="
title_of Machine = codes "machine="
title_of Title = codes "title="

-- `PROPERTY="T"`
pub record IsProperty (text : List ℕ) (p : Property) : Type 0 where
  pub quoted : List ℕ
  pub whole : text ≡ title_of p.field ++ quoted
  pub is_quoted : IsShort quoted p.said

-- the words are these properties, one each, in their order
abbrev pub AreProperties : List (List ℕ) → List Property → Type 0
AreProperties [] [] = Unit {0}
AreProperties (word ∷ words) (p ∷ ps) = IsProperty word p × AreProperties words ps
AreProperties words ps = ⊥

-- none of them is this one
abbrev pub IsMissing : List Property → Field → Type 0
IsMissing ps f = AllByRecursion (λ p. ¬ (p.field ≡ f)) ps

-- no two of them are the same
abbrev pub AreOnce : List Property → Type 0
AreOnce [] = Unit {0}
AreOnce (p ∷ ps) = IsMissing ps p.field × AreOnce ps

-- one of them is this one with this text
abbrev pub IsGiven : List Property → Field → List ℕ → Type 0
IsGiven [] f said = ⊥
IsGiven (p ∷ ps) f said = ((p.field ≡ f) × (p.said ≡ said)) ⊎ IsGiven ps f said

-- the text of one of them, or that which stands for it where it is missing
abbrev pub Gives : List Property → Field → List ℕ → List ℕ → Type 0
Gives ps f missing said = IsGiven ps f said ⊎ (IsMissing ps f × (said ≡ missing))

-- the properties of a window: what is missing is empty, and a missing kind is `normal`
pub record AreProps (ps : List Property) (props : Props) : Type 0 where
  pub class : Gives ps Class [] props.class
  pub instance : Gives ps Instance [] props.instance
  pub role : Gives ps Role [] props.role
  pub kind : Gives ps Kind (codes "normal") props.kind
  pub machine : Gives ps Machine [] props.machine
  pub title : Gives ps Title [] props.title
