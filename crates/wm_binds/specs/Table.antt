-- The keys by which bindings and modes are found.
use Rattle.std.specs.Prelude.{◌≡◌, ℕ, List, [], ◌∷◌, map, ⊤, String, string_bytes}
use Rattle.std.specs.declared.alloc.Global.{Global}
use Rattle.wm_binds.specs.declared.config.Bind.{Bind}

-- it has the mode and the chord of the binding
abbrev pub IsKey : String Global × String Global → Bind → Type 0
IsKey key bind = (string_bytes key.0 ≡ bind.mode) × (string_bytes key.1 ≡ bind.chord)

-- each is the key of the binding at its place
abbrev pub AreKeys : List (String Global × String Global) → List Bind → Type 0
AreKeys [] [] = ⊤
AreKeys [] (b ∷ bs) = ⊥
AreKeys (k ∷ ks) [] = ⊥
AreKeys (k ∷ ks) (b ∷ bs) = IsKey k b × AreKeys ks bs

-- it has the bytes of the name
abbrev pub IsNamed : String Global → List ℕ → Type 0
IsNamed key name = string_bytes key ≡ name

-- they have the bytes of the names, each at its place
abbrev pub AreNames : List (String Global) → List (List ℕ) → Type 0
AreNames keys names = map string_bytes keys ≡ names
