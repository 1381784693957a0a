-- Arrays as texts: a comma between two items, and no space.
use Rattle.std.specs.Prelude.{ℕ, List, [], ◌∷◌, ◌++◌, map}
use Rattle.std.specs.List.{join_with_byte}
use Rattle.json.specs.Print.{quoted}
use Rattle.serde_json.specs.Data.{Data, array, string}
use Rattle.serde_json.specs.View.{items_of}

-- the array of the items that are written so
abbrev pub list_text : List (List ℕ) → List ℕ
list_text texts = 91 ∷ (join_with_byte 44 texts ++ 93 ∷ [])

-- the array of items with these texts
abbrev pub array_text : {A : Type 0} → (A → List ℕ) → List A → List ℕ
array_text text xs = list_text (map text xs)

-- the array of texts, each a JSON string
abbrev pub texts_text : List (List ℕ) → List ℕ
texts_text texts = array_text quoted texts

abbrev pub texts_data : List (List ℕ) → Data
texts_data texts = array (items_of (map string texts))
