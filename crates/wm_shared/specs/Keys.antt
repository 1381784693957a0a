-- The least of a list in an order: by a first number, and then by id.
use Rattle.std.specs.Prelude.{Bool, ◌&&◌, ◌||◌, ◌==◌, nat_lt, if◌then◌else◌, List, [], ◌∷◌, Option, None, Some}
use Rattle.wm_shared.specs.declared.keys.Key.{Key}

-- a comes before b
abbrev pub comes_before : Key → Key → Bool
comes_before a b = nat_lt a.first b.first || (a.first == b.first && nat_lt a.id.0 b.id.0)

-- the one of two that comes first
abbrev pub lesser : Option Key → Option Key → Option Key
lesser None b = b
lesser (Some a) None = Some a
lesser (Some a) (Some b) = if comes_before b a then Some b else Some a

-- the first of them all in the order
abbrev pub least : List Key → Option Key
least [] = None
least (k ∷ ks) = lesser (Some k) (least ks)

-- one more, where there is one
abbrev pub with_key : Option Key → List Key → List Key
with_key None ks = ks
with_key (Some k) ks = k ∷ ks
