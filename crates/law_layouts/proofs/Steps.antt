-- Small steps that several proofs take.
use Rattle.std.proofs.Common.{◌≡◌, ◌≢◌, ◌+◌, ◌≤◌, Bool, true, false, cond, ◌||◌, List, [], ◌∷◌, Option, None, Some, refl, arith}
use Rattle.std.specs.Option.{option_or}
use Rattle.wm_base.specs.declared.errors.Limit.{Limit}
use Rattle.wm_base.specs.declared.errors.Refusal.{Refusal}
use Rattle.wm_base.specs.declared.ids.ConId.{ConId}
use Rattle.wm_forest.specs.declared.part.NodeKind.{NodeKind}
use Rattle.wm_forest.specs.declared.part.NodeKind.TheVariants.{Root, Output, Space, Con}
use Rattle.wm_forest.specs.declared.part.Part.{Part}
use Rattle.wm_forest.specs.Look.{con_kind, kind_by, same}
use Rattle.wm_forest.specs.Recency.{lists}
use Rattle.wm_forest.specs.SoundRow.{times}
use Rattle.wm_shared.specs.Refusing.{full_error}
use Rattle.wm_tree.specs.TreeValue.{is_con, is_con_kind}

-- neither of two refuses
pub second_none : (a b : Option Refusal) → option_or a b ≡ None → (a ≡ None) × (b ≡ None)
second_none None b h = (refl, h)
second_none (Some x) b h = cc

-- no limit is passed
pub no_limit : (o : Option Limit) → full_error o ≡ None → o ≡ None
no_limit None h = refl
no_limit (Some l) h = cc

-- a node that is a container
pub con_first : (o : Option Part) → kind_by con_kind o ≢ None → is_con o ≡ true
con_first None ok = absurd (ok refl)
con_first (Some part) ok = by part.kind ok
  where
    by : (k : NodeKind) → con_kind k ≢ None → is_con_kind k ≡ true
    by (Root d) ok = absurd (ok refl)
    by (Output o) ok = absurd (ok refl)
    by (Space w) ok = absurd (ok refl)
    by (Con d) ok = refl

-- what is counted among the ids is one of them
pub listed : (c : ConId) (ids : List ConId) → 1 ≤ times c ids → lists c ids ≡ true
listed c [] h = absurd (omega (arith, h))
listed c (id ∷ ids) h = step (same id c) h (listed c ids)
  where
    step : (a : Bool) → 1 ≤ cond a 1 0 + times c ids → (1 ≤ times c ids → lists c ids ≡ true) → (a || lists c ids) ≡ true
    step true h u = refl
    step false h u = u (omega (arith, h))
