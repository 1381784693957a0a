-- What a map by id has: an entry for each id that has a value, by rising id.
use Rattle.std.specs.Prelude.{ℕ, zero, suc, nat_eq, List, [], ◌∷◌, Option, None, Some}
use Rattle.std.specs.HashMap.{HashMap, get}

-- ids are below this
unfoldable pub bound : ℕ
bound = 4294967296

module _ {V : Type 0} where
  abbrev pub with_value : ℕ → Option V → List (ℕ × V) → List (ℕ × V)
  with_value id None rest = rest
  with_value id (Some value) rest = (id, value) ∷ rest

  -- the entries of so many ids from this one on
  abbrev pub entries_from : (ℕ → Option V) → ℕ → ℕ → List (ℕ × V)
  entries_from values id zero = []
  entries_from values id (suc more) = with_value id (values id) (entries_from values (suc id) more)

module _ {V S : Type 0} where
  -- the entries of all ids
  abbrev pub entries : HashMap ℕ V S → List (ℕ × V)
  entries m = entries_from (get nat_eq m) 0 bound
