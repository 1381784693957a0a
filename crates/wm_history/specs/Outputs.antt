-- The steps on outputs: what each is answered, and the tree that it leaves.
use Rattle.std.specs.Prelude.{ℕ, not, is_some, if◌then◌else◌, List, Option, None, Some}
use Rattle.wm_base.specs.declared.errors.Limit.{Limit}
use Rattle.wm_base.specs.declared.errors.Refusal.{Refusal}
use Rattle.wm_base.specs.declared.geometry.Edges.{Edges}
use Rattle.wm_base.specs.declared.ids.ConId.{ConId}
use Rattle.wm_base.specs.declared.plan.OutputPlan.{OutputPlan}
use Rattle.wm_forest.specs.declared.kind.KindEdit.TheVariants as edits
use Rattle.wm_tree.specs.Outputs.{passed_by_output}
use Rattle.wm_tree.specs.TreeValue.{TreeValue}
use Rattle.wm_tree.specs.Words.{edited, settled}
use Rattle.wm_spaces.specs.Coming.{output_added_tree, output_removed_refusal, output_removed_tree}
use Rattle.wm_spaces.specs.Names.{output_named}
use Rattle.wm_layouts.specs.Plan.{is_fit_rect}
use Rattle.wm_history.specs.declared.step.Answer.{Answer}
use Rattle.wm_history.specs.declared.step.Answer.TheVariants.{Done, Full, NameTaken, NoTarget, BadRect}

-- ---- an output comes

abbrev pub unless_full : Option Limit → Answer
unless_full None = Done
unless_full (Some limit) = Full limit

-- no output has the name, the rectangle is within the limits, and no limit is passed
abbrev pub add_answer : OutputPlan → TreeValue → Answer
add_answer plan t =
    if is_some (output_named plan.name t) then NameTaken
    else if not (is_fit_rect plan.rect) then BadRect
    else unless_full (passed_by_output t.nodes t.next_id)

abbrev pub added : OutputPlan → TreeValue → TreeValue
added plan t = settled (output_added_tree plan t)

-- ---- an output goes

abbrev pub unless_refused : Option Refusal → Answer
unless_refused None = Done
unless_refused (Some refusal) = NoTarget

-- an output has the name, and is not the only one
abbrev pub remove_answer : List ℕ → TreeValue → Answer
remove_answer name t = unless_refused (output_removed_refusal name t)

abbrev pub removed : List ℕ → TreeValue → TreeValue
removed name t = settled (output_removed_tree name t)

-- ---- the reserved edges of an output

-- an output has the name
abbrev pub reserve_answer : List ℕ → TreeValue → Answer
reserve_answer name t = if is_some (output_named name t) then Done else NoTarget

abbrev pub reserved_at : Option ConId → Edges → TreeValue → TreeValue
reserved_at None edges t = t
reserved_at (Some o) edges t = edited o (edits.Reserved edges) t

abbrev pub reserved : List ℕ → Edges → TreeValue → TreeValue
reserved name edges t = settled (reserved_at (output_named name t) edges t)
