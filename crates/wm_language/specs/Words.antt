-- What is one piece of a command: a keyword, a number, a word or a text, quoted or not.
use Rattle.std.specs.Prelude.{◌≡◌, ℕ, ◌+◌, ◌-◌, ◌*◌, ◌^◌, ◌<◌, ◌≤◌, ◌⊎◌, ◌&&◌, true, nat_le, if◌then◌else◌, List, [], ◌∷◌, ◌++◌, length, map, ℤ, pos, neg_ℤ}
use Rattle.std.specs.Str.{is_utf8}
use Rattle.wm_language.specs.Bytes.{IsBlank, IsSeparator, IsQuote, IsBackslash, IsDigit, Each, First, Last}

-- ---- keywords, in any case

-- a letter from A to Z as the one from a to z, any other byte as it is
abbrev pub small : ℕ → ℕ
small c = if nat_le 65 c && nat_le c 90 then c + 32 else c

-- the text in small letters
abbrev pub in_small : List ℕ → List ℕ
in_small t = map small t

-- ---- quoted texts

-- What stands between the quotes, and the text that it means. A `\` before `"` or `\` is left out; any other `\` stands for
-- itself, and no `"` stands without a `\` before it.
pub data Inside : List ℕ → List ℕ → Type 0 where
  nothing : Inside [] []
  escaped : {c : ℕ} {t x : List ℕ} → IsQuote c ⊎ IsBackslash c → Inside t x → Inside (92 ∷ c ∷ t) (c ∷ x)
  itself : {t x : List ℕ} → First (λ c. (IsQuote c → ⊥) × (IsBackslash c → ⊥)) t → Inside t x → Inside (92 ∷ t) (92 ∷ x)
  other : {c : ℕ} {t x : List ℕ} → (IsQuote c → ⊥) → (IsBackslash c → ⊥) → Inside t x → Inside (c ∷ t) (c ∷ x)

-- the text is x between quotes
pub record Quoted (x text : List ℕ) : Type 0 where
  pub body : List ℕ
  pub whole : text ≡ 34 ∷ (body ++ 34 ∷ [])
  pub inside : Inside body x

-- ---- arguments

-- a text in UTF-8 of at most 1,024 bytes
pub record IsArgument (x : List ℕ) : Type 0 where
  pub utf8 : is_utf8 x ≡ true
  pub short : length x ≤ 1024

-- ---- words and texts, quoted or not

-- one byte or more, and no blank, `,`, `;` or `"`
pub record IsBareWord (x : List ℕ) : Type 0 where
  pub some : 1 ≤ length x
  pub each : Each (λ c. (IsBlank c → ⊥) × (IsSeparator c → ⊥) × (IsQuote c → ⊥)) x

-- no `,` or `;`, no blanks at both ends, and no `"` at the front
pub record IsBareText (x : List ℕ) : Type 0 where
  pub first : First (λ c. (IsBlank c → ⊥) × (IsQuote c → ⊥)) x
  pub last : Last (λ c. IsBlank c → ⊥) x
  pub each : Each (λ c. IsSeparator c → ⊥) x

-- the text is the word x, quoted or not
abbrev pub IsWord : List ℕ → List ℕ → Type 0
IsWord x text = Quoted x text ⊎ ((text ≡ x) × IsBareWord x)

-- the text is the argument x, quoted or not
abbrev pub IsText : List ℕ → List ℕ → Type 0
IsText x text = Quoted x text ⊎ ((text ≡ x) × IsBareText x)

-- ---- numbers

-- what digits are worth
abbrev pub worth : List ℕ → ℕ
worth [] = 0
worth (c ∷ t) = (c - 48) * 10 ^ length t + worth t

-- the text is 1 to 10 digits, worth n, which is at most 4,294,967,295
pub record IsNatural (n : ℕ) (text : List ℕ) : Type 0 where
  pub digits : Each IsDigit text
  pub some : 1 ≤ length text
  pub few : length text ≤ 10
  pub value : worth text ≡ n
  pub fits : n < 4294967296

-- such a number behind `-`, and its value below 0
pub record IsBelow (z : ℤ) (text : List ℕ) : Type 0 where
  pub size : ℕ
  pub digits : List ℕ
  pub whole : text ≡ 45 ∷ digits
  pub natural : IsNatural size digits
  pub value : z ≡ neg_ℤ (pos size)

-- such a number with no `-`
pub record IsAbove (z : ℤ) (text : List ℕ) : Type 0 where
  pub size : ℕ
  pub natural : IsNatural size text
  pub value : z ≡ pos size

-- the text is a number with `-` before it or not
abbrev pub IsInteger : ℤ → List ℕ → Type 0
IsInteger z text = IsBelow z text ⊎ IsAbove z text
