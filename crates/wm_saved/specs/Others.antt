-- Fields that a layout file's objects have besides those that are read.
use Rattle.std.specs.Prelude.{◌≡◌, ℕ, false, List, [], ◌∷◌, codes}
use Rattle.std.specs.List.{list_any}
use Rattle.std.specs.Str.{bytes_eq}
use Rattle.serde_json.specs.Data.{Data, Members, object, put}
use Rattle.wm_saved.specs.Reading.{node_at}

-- the keys that are read, in byte order
abbrev pub keys : List (List ℕ)
keys =
    codes "border"
    ∷ codes "current_border_width"
    ∷ codes "layout"
    ∷ codes "marks"
    ∷ codes "name"
    ∷ codes "nodes"
    ∷ codes "swallows"
    ∷ codes "type"
    ∷ []

-- with or without a field of another key, whatever its value, an object is read as the same, or has the same first fault
abbrev pub PassesOverOthers : Type 0
PassesOverOthers = (path k : List ℕ) (d : Data) (ms : Members) → list_any (bytes_eq k) keys ≡ false → node_at path (object (put k d ms)) ≡ node_at path (object ms)
