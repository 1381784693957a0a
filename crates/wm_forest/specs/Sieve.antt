-- A sieve of ids: each id has a place in it, and several ids have one.
use Rattle.std.specs.Prelude.{◌≡◌, ◌||◌, ◌%◌, Bool, true, false, List, slice_index_or}
use Rattle.wm_base.specs.declared.ids.ConId.{ConId}
use Rattle.wm_forest.specs.Forest.{Forest}
use Rattle.wm_forest.specs.Look.{has, same}

-- the place of the id is taken
abbrev pub is_taken : ConId → List Bool → Bool
is_taken c places = slice_index_or places (c.0 % 8192) false

-- the place of the id is taken, and those that were
abbrev pub Takes : ConId → List Bool → List Bool → Type 0
Takes id old new = (c : ConId) → same id c || is_taken c old ≡ true → is_taken c new ≡ true

-- the places of the row's ids are taken, and those that were
abbrev pub TakesIn : Forest → List Bool → List Bool → Type 0
TakesIn row old new = (c : ConId) → has c row || is_taken c old ≡ true → is_taken c new ≡ true
