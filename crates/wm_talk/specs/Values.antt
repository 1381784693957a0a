-- The values of single objects.
use Rattle.std.specs.Prelude.{ℕ, List, [], ◌∷◌}
use Rattle.serde_json.specs.Data.{Data, string}
use Rattle.wm_json.specs.Objects.{always, object_with}

-- the object of one text under this key
abbrev pub text_data : List ℕ → List ℕ → Data
text_data key text = object_with (always key (string text) ∷ [])
