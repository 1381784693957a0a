-- What maps by id have.
use Rattle.std.specs.Prelude.{ℕ, Bool, List, Option, is_some}
use Rattle.std.specs.BTreeMap.{is_at}
use Rattle.std.specs.Map.{lookup}
use Rattle.std.specs.Ordering.{nat_cmp}
use Rattle.wm_base.specs.declared.ids.ConId.{ConId}

-- what a map has for c
abbrev pub value_at : {A : Type 0} → List (ℕ × A) → ConId → Option A
value_at map c = lookup (is_at (nat_cmp c.0)) map

-- whether a map has c
abbrev pub holds : {A : Type 0} → List (ℕ × A) → ConId → Bool
holds map c = is_some (value_at map c)
