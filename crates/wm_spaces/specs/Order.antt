-- The order of workspaces: by the number with which the name begins, those without one last, and then by id.
use Rattle.std.specs.Prelude.{ℕ, ◌+◌, ◌-◌, ◌*◌, Bool, true, false, ◌&&◌, ◌==◌, nat_le, not, if◌then◌else◌, List, [], ◌∷◌, Option, None, Some}
use Rattle.wm_base.specs.declared.ids.ConId.{ConId}
use Rattle.wm_shared.specs.declared.keys.Key.{Key}
use Rattle.wm_shared.specs.Keys.{comes_before, lesser, with_key}
use Rattle.wm_spaces.specs.declared.order.Pick.{Pick}
use Rattle.wm_spaces.specs.declared.order.Pick.TheVariants as picking
use Rattle.wm_forest.specs.declared.part.SpacePart.{SpacePart}
use Rattle.wm_forest.specs.Forest.{Forest, end, con}
use Rattle.wm_forest.specs.Look.{same, space_kind}

-- ---- the number of a name

abbrev pub is_digit : ℕ → Bool
is_digit b = nat_le 48 b && nat_le b 57

-- the number of the digits at the front, behind those that make n
abbrev pub number_on : ℕ → List ℕ → ℕ
number_on n [] = n
number_on n (b ∷ bs) = if is_digit b then number_on (n * 10 + (b - 48)) bs else n

abbrev pub small : ℕ → Option ℕ
small n = if nat_le n 2147483647 then Some n else None

-- the number with which the name begins, where that is at most 2,147,483,647
abbrev pub num : List ℕ → Option ℕ
num [] = None
num (b ∷ bs) = if is_digit b then small (number_on (b - 48) bs) else None

abbrev pub place_of : Option ℕ → ℕ
place_of None = 2147483648
place_of (Some n) = n

-- the place of a workspace in the order
abbrev pub space_key : ConId → List ℕ → Key
space_key c name = record { first = place_of (num name); id = c }

-- ---- which workspaces are looked at

abbrev pub picks : Pick → Key → Bool
picks picking.All k = true
picks (picking.But w) k = not (same k.id w)
picks (picking.Behind j) k = comes_before j k
picks (picking.Ahead j) k = comes_before k j
picks (picking.Numbered n) k = k.first == n

abbrev pub key_if : Pick → ConId → Option SpacePart → Option Key
key_if p c None = None
key_if p c (Some s) = if picks p (space_key c s.name) then Some (space_key c s.name) else None

-- those of a row of workspaces
abbrev pub keys_in : Pick → Forest → List Key
keys_in p end = []
keys_in p (con part kids floats rest) = with_key (key_if p part.id (space_kind part.kind)) (keys_in p rest)

-- ---- the first or last of them in the order

abbrev pub greater : Option Key → Option Key → Option Key
greater None b = b
greater (Some a) None = Some a
greater (Some a) (Some b) = if comes_before a b then Some b else Some a

-- the one of two that comes last (`back`), or else first
abbrev pub better : Bool → Option Key → Option Key → Option Key
better true a b = greater a b
better false a b = lesser a b

-- the last or first of some and another one
abbrev pub best_with : Bool → List Key → Option Key → Option Key
best_with back [] k = k
best_with back (j ∷ js) k = better back (Some j) (best_with back js k)

-- the last or first of the workspaces on a row of outputs
abbrev pub best_on : Bool → Pick → Forest → Option Key
best_on back p end = None
best_on back p (con part kids floats rest) = best_with back (keys_in p kids) (best_on back p rest)
