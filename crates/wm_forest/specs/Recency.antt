-- The list of ids by recency, the most recent first.
use Rattle.std.specs.Prelude.{ℕ, ◌+◌, Bool, false, ◌||◌, if◌then◌else◌, not, List, [], ◌∷◌, Option, None, Some, filter}
use Rattle.wm_base.specs.declared.ids.ConId.{ConId}
use Rattle.wm_forest.specs.Forest.{Forest}
use Rattle.wm_forest.specs.Look.{same, has}

-- the place of the first id that is c, counted from n
abbrev pub place_from : ℕ → ConId → List ConId → Option ℕ
place_from n c [] = None
place_from n c (id ∷ ids) = if same id c then Some n else place_from (n + 1) c ids

-- c is among the ids
abbrev pub lists : ConId → List ConId → Bool
lists c [] = false
lists c (id ∷ ids) = same id c || lists c ids

-- the ids without the first one that is c
abbrev pub removed : ConId → List ConId → List ConId
removed c [] = []
removed c (id ∷ ids) = if same id c then ids else id ∷ removed c ids

-- the ids with c first, and the others in their order; as they were where c is not among them
abbrev pub raised : ConId → List ConId → List ConId
raised c ids = if lists c ids then c ∷ removed c ids else ids

-- the first of the ids that the forest holds
abbrev pub first_held : Forest → List ConId → Option ConId
first_held forest [] = None
first_held forest (id ∷ ids) = if has id forest then Some id else first_held forest ids

-- the ids that the forest does not hold
abbrev pub outside : Forest → List ConId → List ConId
outside forest ids = filter (λ id. not (has id forest)) ids

-- the ids that the forest holds
abbrev pub inside : Forest → List ConId → List ConId
inside forest ids = filter (λ id. has id forest) ids

-- the ids without any that is c
abbrev pub without_id : ConId → List ConId → List ConId
without_id c ids = filter (λ id. not (same id c)) ids
