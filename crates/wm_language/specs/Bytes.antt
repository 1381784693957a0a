-- The bytes of the command language, and what is said of a text byte by byte.
use Rattle.std.specs.Prelude.{◌≡◌, ℕ, ◌≤◌, List, [], ◌∷◌, ◌⊎◌}

-- ---- bytes

-- a space or a tab
abbrev pub IsBlank : ℕ → Type 0
IsBlank c = (c ≡ 32) ⊎ (c ≡ 9)

-- `,` or `;`
abbrev pub IsSeparator : ℕ → Type 0
IsSeparator c = (c ≡ 44) ⊎ (c ≡ 59)

-- `"`
abbrev pub IsQuote : ℕ → Type 0
IsQuote c = c ≡ 34

-- `\`
abbrev pub IsBackslash : ℕ → Type 0
IsBackslash c = c ≡ 92

-- a digit from 0 to 9
abbrev pub IsDigit : ℕ → Type 0
IsDigit c = (48 ≤ c) × (c ≤ 57)

-- ---- texts

-- each byte of the text is such a one
abbrev pub Each : (ℕ → Type 0) → List ℕ → Type 0
Each P [] = Unit {0}
Each P (c ∷ t) = P c × Each P t

-- there is a first byte, and it is such a one
abbrev pub First : (ℕ → Type 0) → List ℕ → Type 0
First P [] = ⊥
First P (c ∷ t) = P c

-- there is a last byte, and it is such a one
abbrev pub Last : (ℕ → Type 0) → List ℕ → Type 0
Last P [] = ⊥
Last P (c ∷ []) = P c
Last P (c ∷ d ∷ t) = Last P (d ∷ t)

-- what may stand behind a command: nothing, or what begins with `,` or `;`
abbrev pub MayFollow : List ℕ → Type 0
MayFollow [] = Unit {0}
MayFollow (c ∷ t) = IsSeparator c
