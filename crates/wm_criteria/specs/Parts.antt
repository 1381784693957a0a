-- What plain patterns match, and how any text is asked for: what the laws say of the definitions.
use Rattle.std.specs.Prelude.{◌≡◌, ℕ, Bool, true, if◌then◌else◌, List, [], ◌∷◌, ◌++◌}
use Rattle.std.specs.List.{flat_map}
use Rattle.wm_criteria.specs.Plain.{Plain, is_special}

-- the text has the characters as a part: behind some text and before some text, with nothing before them where they
-- are to be first, and nothing behind them where they are to be last
pub record HasPart (x : Plain) (text : List ℕ) : Type 0 where
  pub before : List ℕ
  pub behind : List ℕ
  pub whole : text ≡ before ++ (x.wanted ++ behind)
  pub first : x.first ≡ true → before ≡ []
  pub last : x.last ≡ true → behind ≡ []

-- a text with \ before each character that is more than itself
abbrev pub quoted : List ℕ → List ℕ
quoted text = flat_map (λ c. if is_special c then 92 ∷ c ∷ [] else c ∷ []) text

-- a mark that stands or does not
abbrev pub mark : Bool → ℕ → List ℕ
mark stands c = if stands then c ∷ [] else []
