-- Outputs and workspaces that come, move and go.
use Rattle.std.specs.Prelude.{◌≡◌, ◌≢◌, true, false, ℕ, ◌+◌, ◌⊎◌, if◌then◌else◌, nat_le, nat_lt, List, [], ◌∷◌, ◌++◌, Option, None, Some}
use Rattle.wm_base.specs.declared.errors.Limit.{Limit}
use Rattle.wm_base.specs.declared.errors.Limit.TheVariants.{Ids, Outputs, Workspaces}
use Rattle.wm_base.specs.declared.ids.ConId.{ConId}
use Rattle.wm_base.specs.declared.plan.OutputPlan.{OutputPlan}
use Rattle.wm_forest.specs.declared.kind.KindEdit.TheVariants as edits
use Rattle.wm_forest.specs.declared.part.Part.{Part}
use Rattle.wm_forest.specs.declared.place.Place.TheVariants.{Last}
use Rattle.wm_tree.specs.declared.refusal.TreeRefusal.{TreeRefusal}
use Rattle.wm_tree.specs.declared.refusal.TreeRefusal.TheVariants as refusals
use Rattle.wm_forest.specs.Change.{at, is_id, shown_of, without}
use Rattle.wm_forest.specs.Counts.{count, row_length, space_count}
use Rattle.wm_forest.specs.Forest.{Forest, end, con}
use Rattle.wm_forest.specs.Look.{first_kids, has, in_row, kind_of, only, same, space_kind}
use Rattle.wm_forest.specs.Place.{put}
use Rattle.wm_forest.specs.Taking.{heir, taking_in}
use Rattle.wm_tree.specs.TreeValue.{TreeValue, current, output_part, space_part}
use Rattle.wm_forest.specs.RootId.{id, root}
use Rattle.wm_tree.specs.Words.{edited}

-- o is one of the outputs
abbrev pub IsOutput : ConId → Forest → Type 0
IsOutput o forest = in_row o (first_kids forest) ≡ true

-- an empty workspace of this name, with the gaps that new ones get
abbrev pub new_space : ConId → List ℕ → TreeValue → Forest
new_space c name t = con (space_part c name t.inner t.outer) end end end

-- ---- an output that comes

-- the output under the id c, which shows an empty workspace of this name under the id w
abbrev pub new_output : ConId → OutputPlan → ConId → List ℕ → TreeValue → Forest
new_output c plan w first t = con (output_part c plan w) (new_space w first t) end end

-- the output, last, under the next id; its workspace has the id after it, and is the least recent of all
abbrev pub with_output : OutputPlan → List ℕ → TreeValue → TreeValue
with_output plan first t = record t {
  nodes = put (Last root) (new_output (id t.next_id) plan (id (t.next_id + 1)) first t) t.nodes;
  recency = t.recency ++ id (t.next_id + 1) ∷ [];
  next_id = t.next_id + 2;
}

-- the first limit that another output would pass
abbrev pub passed_by_output : Forest → ℕ → Option Limit
passed_by_output forest next_id =
    if nat_le 8 (row_length (first_kids forest)) then Some Outputs
    else if nat_le 256 (space_count forest) then Some Workspaces
    else if nat_lt 4000000000 (next_id + 1) then Some Ids
    else None

-- why an output was refused
abbrev pub IsOutputCause : TreeValue → TreeRefusal → Type 0
IsOutputCause t (refusals.Missing c) = ⊥
IsOutputCause t (refusals.Full limit) = passed_by_output t.nodes t.next_id ≡ Some limit
IsOutputCause t refusals.NoMemory = passed_by_output t.nodes t.next_id ≡ None

-- ---- a workspace that comes

-- an empty workspace of this name, last on the output o, under the next id, the least recent of all
abbrev pub with_space : ConId → List ℕ → TreeValue → TreeValue
with_space o name t = record t {
  nodes = put (Last o) (new_space (id t.next_id) name t) t.nodes;
  recency = t.recency ++ id t.next_id ∷ [];
  next_id = t.next_id + 1;
}

-- the first limit that another workspace would pass
abbrev pub passed_by_space : Forest → ℕ → Option Limit
passed_by_space forest next_id =
    if nat_le 256 (space_count forest) then Some Workspaces
    else if nat_lt 4000000000 next_id then Some Ids
    else None

-- why a workspace was refused
abbrev pub IsSpaceCause : TreeValue → ConId → TreeRefusal → Type 0
IsSpaceCause t o (refusals.Missing c) = (c ≡ o) × (has o t.nodes ≡ false)
IsSpaceCause t o (refusals.Full limit) = (has o t.nodes ≡ true) × (passed_by_space t.nodes t.next_id ≡ Some limit)
IsSpaceCause t o refusals.NoMemory = (has o t.nodes ≡ true) × (passed_by_space t.nodes t.next_id ≡ None)

-- ---- a workspace that moves

-- the workspace w, with what is below it, last on the output o
abbrev pub space_moved : ConId → ConId → TreeValue → TreeValue
space_moved w o t = record t { nodes = put (Last o) (only w t.nodes) (without w t.nodes) }

-- one where an output shows the workspace w
abbrev pub shows : ConId → Part → ℕ
shows w p = if is_id w (shown_of p.kind) then 1 else 0

-- no output shows the workspace w
abbrev pub IsNotShown : ConId → Forest → Type 0
IsNotShown w forest = count (shows w) forest ≡ 0

-- w is a workspace that is not shown, and o an output, where they are there
abbrev pub IsSpaceMove : ConId → ConId → Forest → Type 0
IsSpaceMove w o forest = (has w forest ≡ true → (kind_of space_kind w forest ≢ None) × IsNotShown w forest) × (has o forest ≡ true → IsOutput o forest)

abbrev pub IsSpaceMoveCause : TreeValue → ConId → ConId → TreeRefusal → Type 0
IsSpaceMoveCause t w o (refusals.Missing i) = ((i ≡ w) × (has w t.nodes ≡ false)) ⊎ ((i ≡ o) × (has w t.nodes ≡ true) × (has o t.nodes ≡ false))
IsSpaceMoveCause t w o (refusals.Full limit) = ⊥
IsSpaceMoveCause t w o refusals.NoMemory = ⊥

-- ---- an output that goes

-- the output h is current where o was
abbrev pub yielded : ConId → ConId → TreeValue → TreeValue
yielded o h t = if same (current t) o then edited root (edits.Current h) t else t

-- the output o goes, and its workspaces come last on the output h
abbrev pub handed_on : ConId → ConId → TreeValue → TreeValue
handed_on o h t = record t { nodes = at h taking_in (only o t.nodes) (without o t.nodes) }

abbrev pub left_to : Option ConId → ConId → TreeValue → TreeValue
left_to None o t = t
left_to (Some h) o t = handed_on o h (yielded o h t)

-- the output o goes; its workspaces come last on the first of the others, which is current where o was
abbrev pub without_output : ConId → TreeValue → TreeValue
without_output o t = left_to (heir o t.nodes) o t
