-- Maps by the id of a window.
use Rattle.std.specs.Prelude.{ℕ, List, Option, None, Some, if◌then◌else◌}
use Rattle.std.specs.BTreeMap.{is_at}
use Rattle.std.specs.List.{list_any}
use Rattle.std.specs.Map.{lookup}
use Rattle.std.specs.Ordering.{nat_cmp}
use Rattle.wm_base.specs.declared.ids.ConId.{ConId}
use Rattle.wm_forest.specs.Look.{same}

-- what the map has for the window v
abbrev pub value_at : {A : Type 0} → List (ℕ × A) → ConId → Option A
value_at map v = lookup (is_at (nat_cmp v.0)) map

-- the new one, if there is one
abbrev pub new_or : {A : Type 0} → Option A → A → A
new_or None before = before
new_or (Some after) before = after

-- what the map has for v after the value was put at these windows
abbrev pub put_at : {A : Type 0} → List ConId → A → ConId → Option A → Option A
put_at windows value v before = if list_any (same v) windows then Some value else before

-- what is kept of v after these windows went
abbrev pub left_of : {A : Type 0} → List ConId → ConId → Option A → Option A
left_of gone v before = if list_any (same v) gone then None else before
