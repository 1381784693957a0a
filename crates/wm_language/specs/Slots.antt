-- A form of the language as a list of slots, and the texts of that form.
use Rattle.std.specs.Prelude.{◌≡◌, ℕ, suc, List, [], ◌∷◌, ◌++◌, ℤ}
use Rattle.wm_language.specs.Words.{IsArgument, in_small, IsWord, IsText, IsNatural, IsInteger}
use Rattle.wm_language.specs.Bytes.{IsBlank, IsQuote, Each, Last}

-- what stands at a place of a command
pub data Slot : Type 0 where
  -- this keyword
  said : List ℕ → Slot
  -- a number
  number : ℕ → Slot
  -- a number that may be below 0
  signed : ℤ → Slot
  -- an argument of one word
  word : List ℕ → Slot
  -- an argument
  text : List ℕ → Slot
  -- an argument of any length, which counts for nothing
  anything : Slot

-- the text fills the slot: a keyword in any case, an argument in UTF-8 and of at most 1,024 bytes
abbrev pub Fills : Slot → List ℕ → Type 0
Fills (said name) t = in_small t ≡ name
Fills (number n) t = IsNatural n t
Fills (signed z) t = IsInteger z t
Fills (word x) t = IsArgument x × IsWord x t
Fills (text x) t = IsArgument x × IsText x t
Fills anything t = (x : List ℕ) × IsText x t

-- between two pieces stand blanks; behind a quote they may be left out
abbrev pub Gap : List ℕ → List ℕ → List ℕ → Type 0
Gap piece [] [] = Unit {0}
Gap piece [] (c ∷ others) = Last IsQuote piece
Gap piece (b ∷ blanks) others = Unit {0}

-- a piece that fills the slot, blanks, and the other pieces
pub record Begins (s : Slot) (Others : List ℕ → Type 0) (t : List ℕ) : Type 0 where
  pub piece : List ℕ
  pub blanks : List ℕ
  pub others : List ℕ
  pub whole : t ≡ piece ++ (blanks ++ others)
  pub fills : Fills s piece
  pub blank : Each IsBlank blanks
  pub gap : Gap piece blanks others
  pub more : Others others

-- the text is a piece for each slot, with blanks between the pieces, and blanks behind them or not
abbrev pub Filled : List Slot → List ℕ → Type 0
Filled [] t = t ≡ []
Filled (s ∷ slots) t = Begins s (Filled slots) t

-- how many keywords stand before anything else
abbrev pub keywords : List Slot → ℕ
keywords [] = 0
keywords (said name ∷ slots) = suc (keywords slots)
keywords (number n ∷ slots) = 0
keywords (signed z ∷ slots) = 0
keywords (word x ∷ slots) = 0
keywords (text x ∷ slots) = 0
keywords (anything ∷ slots) = 0

-- ---- keywords that may be left out

-- the keyword, or nothing
pub data Optional (name : List ℕ) : List Slot → Type 0 where
  left_out : Optional name []
  there : Optional name (said name ∷ [])
