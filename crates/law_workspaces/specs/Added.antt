-- A law of outputs that come.
use Rattle.std.specs.Prelude.{◌≡◌, ℕ, List, Option, None, Some}
use Rattle.std.specs.Option.{option_map}
use Rattle.wm_base.specs.declared.ids.ConId.{ConId}
use Rattle.wm_base.specs.declared.plan.OutputPlan.{OutputPlan}
use Rattle.wm_spaces.specs.Coming.{output_added_refusal, output_added_tree}
use Rattle.wm_forest.specs.declared.part.OutputPart.{OutputPart}
use Rattle.wm_forest.specs.Forest.{Forest}
use Rattle.wm_forest.specs.Look.{first_kids, first_part, kind_by, node_in, output_kind}
use Rattle.wm_forest.specs.RootId.{id}
use Rattle.wm_tree.specs.Sound.{IsSound}
use Rattle.wm_tree.specs.TreeValue.{TreeValue}

-- the name of the output o of a row
abbrev pub name_in : ConId → Forest → Option (List ℕ)
name_in o row = option_map (λ (p : OutputPart). p.name) (kind_by output_kind (first_part (node_in o row)))

-- the name of the output o
abbrev pub output_name : ConId → TreeValue → Option (List ℕ)
output_name o t = name_in o (first_kids t.nodes)

-- the names of outputs differ: two of one name are one
abbrev pub OutputNamesDiffer : TreeValue → Type 0
OutputNamesDiffer t = (o p : ConId) (n : List ℕ) → output_name o t ≡ Some n → output_name p t ≡ Some n → o ≡ p

-- an output that comes, where that is not refused, has its planned name, and where the names of outputs differed before,
-- they differ afterwards
abbrev pub AddsOther : Type 0
AddsOther =
    (plan : OutputPlan) (t : TreeValue) → IsSound t → output_added_refusal plan t ≡ None
    → (output_name (id t.next_id) (output_added_tree plan t) ≡ Some plan.name) × (OutputNamesDiffer t → OutputNamesDiffer (output_added_tree plan t))
