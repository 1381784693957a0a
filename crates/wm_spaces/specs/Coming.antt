-- Outputs that come, go and become the current one.
use Rattle.std.specs.Prelude.{ℕ, zero, suc, ◌+◌, is_some, if◌then◌else◌, List, Option, None, Some, option_and_then}
use Rattle.std.specs.Fmt.{decimal}
use Rattle.wm_base.specs.declared.errors.ErrorText.TheVariants as texts
use Rattle.wm_base.specs.declared.errors.Refusal.{Refusal}
use Rattle.wm_base.specs.declared.errors.Refusal.TheVariants.{NameTaken, NoTarget}
use Rattle.wm_base.specs.declared.ids.ConId.{ConId}
use Rattle.wm_base.specs.declared.plan.OutputPlan.{OutputPlan}
use Rattle.wm_shared.specs.Refusing.{full_error}
use Rattle.wm_shared.specs.Showing.{output_focused}
use Rattle.wm_spaces.specs.Names.{output_named, space_named}
use Rattle.wm_forest.specs.Look.{same}
use Rattle.wm_forest.specs.Taking.{heir}
use Rattle.wm_tree.specs.Outputs.{passed_by_output, with_output, without_output}
use Rattle.wm_tree.specs.TreeValue.{TreeValue, current}

-- the least number from k on, and below k + n, that is no workspace's name; k + n where each is one's
abbrev pub free_from : ℕ → ℕ → TreeValue → ℕ
free_from zero k t = k
free_from (suc n) k t = if is_some (space_named (decimal k) t) then free_from n (k + 1) t else k

-- the least number from 1 on that is no workspace's name, of which there are at most 256
abbrev pub free_name : TreeValue → List ℕ
free_name t = decimal (free_from 256 1 t)

-- no output has the name, and no limit is passed
abbrev pub output_added_refusal : OutputPlan → TreeValue → Option Refusal
output_added_refusal plan t = if is_some (output_named plan.name t) then Some NameTaken else full_error (passed_by_output t.nodes t.next_id)

-- the output comes last, and shows a new workspace
abbrev pub output_added_tree : OutputPlan → TreeValue → TreeValue
output_added_tree plan t = with_output plan (free_name t) t

-- nothing refuses it but want of memory
abbrev pub unrefused : TreeValue → Option Refusal
unrefused t = None

-- the output that goes, and the one that takes its workspaces
abbrev pub heir_of : TreeValue → ConId → Option ConId
heir_of t o = heir o t.nodes

abbrev pub no_output : Option ConId → Option Refusal
no_output None = Some (NoTarget texts.NoOutput)
no_output (Some o) = None

-- an output has the name and is not the only one
abbrev pub output_removed_refusal : List ℕ → TreeValue → Option Refusal
output_removed_refusal name t = no_output (option_and_then (heir_of t) (output_named name t))

-- the output h is the current one where o was; the name of the workspace that was focused is kept then
abbrev pub left_output : ConId → ConId → TreeValue → TreeValue
left_output o h t = if same (current t) o then output_focused h t else t

abbrev pub output_gone : Option ConId → ConId → TreeValue → TreeValue
output_gone None o t = t
output_gone (Some h) o t = without_output o (left_output o h t)

abbrev pub output_gone_some : Option ConId → TreeValue → TreeValue
output_gone_some None t = t
output_gone_some (Some o) t = output_gone (heir o t.nodes) o t

-- the output goes; its workspaces come last on the first of the others, which is the current one where it was
abbrev pub output_removed_tree : List ℕ → TreeValue → TreeValue
output_removed_tree name t = output_gone_some (output_named name t) t
