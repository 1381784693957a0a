-- What a writer of JSON is sent: the tokens of values, of fields and of arrays.
use Rattle.std.specs.Prelude.{◌≡◌, ℕ, List, [], ◌∷◌, ◌++◌, Option, None, Some}
use Rattle.json.specs.Token.{Token, key}
use Rattle.json.specs.Tree.{json_tokens}
use Rattle.json.specs.Written.{Written}
use Rattle.serde_json.specs.Data.{Data}
use Rattle.serde_json.specs.Written.{outline}
use Rattle.wm_json.specs.Objects.{Field}

-- the tokens of a value
abbrev pub sent : Data → List Token
sent value = json_tokens (outline value)

-- those of values, one after another
abbrev pub sent_all : List Data → List Token
sent_all [] = []
sent_all (value ∷ more) = sent value ++ sent_all more

-- those of a name and of what stands there, none where that is none
abbrev pub sent_if : List ℕ → Option Data → List Token
sent_if name None = []
sent_if name (Some value) = key name ∷ sent value

-- those of fields, one after another
abbrev pub sent_fields : List (Field Data) → List Token
sent_fields [] = []
sent_fields (field ∷ more) = sent_if field.0 field.1 ++ sent_fields more

-- the writer has these tokens more, behind those that it had, and what stood before them stays
pub record Sends (old new : Written) (more : List Token) : Type 0 where
  pub tokens : new.tokens ≡ old.tokens ++ more
  pub before : new.before ≡ old.before
