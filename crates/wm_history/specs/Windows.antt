-- The windows of a caller, and the steps on them.
use Rattle.std.specs.Prelude.{◌≡◌, ◌≢◌, ℕ, ◌+◌, ◌==◌, nat_lt, Bool, true, false, if◌then◌else◌, List, [], ◌∷◌, ◌++◌, filter, Option, None, Some, is_some}
use Rattle.std.specs.BTreeMap.{is_at}
use Rattle.std.specs.Map.{lookup}
use Rattle.std.specs.Option.{option_or}
use Rattle.std.specs.Ordering.{nat_cmp}
use Rattle.wm_base.specs.declared.ids.Buffer.{Buffer}
use Rattle.wm_base.specs.declared.ids.ConId.{ConId}
use Rattle.wm_opens.specs.Opens.{windows}
use Rattle.wm_forest.specs.declared.kind.KindEdit.TheVariants as edits
use Rattle.wm_forest.specs.declared.part.ConKind.{ConKind}
use Rattle.wm_forest.specs.declared.part.ConKind.TheVariants.{Split, Window, Placeholder}
use Rattle.wm_forest.specs.declared.part.ConPart.{ConPart}
use Rattle.wm_forest.specs.Counts.{count}
use Rattle.wm_forest.specs.declared.part.Part.{Part}
use Rattle.wm_forest.specs.Look.{con_kind, has, kind_of}
use Rattle.wm_forest.specs.Recency.{lists, without_id}
use Rattle.wm_tree.specs.TreeValue.{TreeValue}
use Rattle.wm_tree.specs.Words.{detached, edited, settled}
use Rattle.wm_txn.specs.History.{is_fresh}

-- the caller of a window
abbrev pub kind_owner : ConKind → Option ℕ
kind_owner (Split layout last) = None
kind_owner (Window props owner natural) = Some owner
kind_owner (Placeholder props swallows) = None

abbrev pub part_owner : Option ConPart → Option ℕ
part_owner None = None
part_owner (Some con) = kind_owner con.kind

-- the caller of v, where v is an open window
abbrev pub owner_of : TreeValue → ConId → Option ℕ
owner_of t v = part_owner (kind_of con_kind v t.nodes)

abbrev pub is_caller : ℕ → Option ℕ → Bool
is_caller who None = false
is_caller who (Some owner) = owner == who

-- the caller of v after a step that opened this window, if any, and left this tree
abbrev pub owner_then : TreeValue → Option (ConId × Buffer) → ConId → Option ℕ → Option ℕ
owner_then t fresh v before = if is_fresh v fresh then option_or (owner_of t v) before else before

-- v is an open window of the caller
abbrev pub is_window : TreeValue → ℕ → ConId → Bool
is_window t who v = is_caller who (owner_of t v)

-- the open windows of the caller, the most recent first
abbrev pub owned : ℕ → TreeValue → List ConId
owned who t = filter (is_window t who) t.recency

-- v is one of the ids of a map
abbrev pub holds : List (ℕ × Unit {0}) → ConId → Bool
holds ids v = is_some (lookup (is_at (nat_cmp v.0)) ids)

-- how many windows there are
abbrev pub window_part : Part → ℕ
window_part p = windows p.kind

abbrev pub window_count : TreeValue → ℕ
window_count t = count window_part t.nodes

-- how many ids stand before the first that is greater
abbrev pub rank_of : ConId → List ConId → ℕ
rank_of v [] = 0
rank_of v (w ∷ ids) = if nat_lt v.0 w.0 then 0 else rank_of v ids + 1

-- the ids with v before the first that is greater
abbrev pub put_id : ConId → List ConId → List ConId
put_id v [] = v ∷ []
put_id v (w ∷ ids) = if nat_lt v.0 w.0 then v ∷ w ∷ ids else w ∷ put_id v ids

-- the ids with others put among them, one after the other
abbrev pub put_ids : List ConId → List ConId → List ConId
put_ids [] ids = ids
put_ids (v ∷ vs) ids = put_ids vs (put_id v ids)

-- the open windows of the caller by rising id
abbrev pub owned_in_order : ℕ → TreeValue → List ConId
owned_in_order who t = put_ids (owned who t) []

-- the tree with another title of the window v
abbrev pub retitled : ConId → List ℕ → TreeValue → TreeValue
retitled v title t = settled (edited v (edits.Title title) t)

-- the window v comes last among the urgent ones, unless it is one of them already
abbrev pub with_urgent : ConId → TreeValue → TreeValue
with_urgent v t = if lists v t.urgent then t else record t { urgent = t.urgent ++ v ∷ [] }

-- the window v is none of the urgent ones
abbrev pub without_urgent : ConId → TreeValue → TreeValue
without_urgent v t = record t { urgent = without_id v t.urgent }

-- the tree in which the window v is urgent or not
abbrev pub with_urgency : ConId → Bool → TreeValue → TreeValue
with_urgency v on t = settled (if on then with_urgent v t else without_urgent v t)

-- those of these that are there are containers
abbrev pub AreContainers : List ConId → TreeValue → Type 0
AreContainers [] t = Unit {0}
AreContainers (v ∷ vs) t = (has v t.nodes ≡ true → kind_of con_kind v t.nodes ≢ None) × AreContainers vs t

-- the tree without these windows
abbrev pub without_windows : List ConId → TreeValue → TreeValue
without_windows [] t = t
without_windows (v ∷ vs) t = without_windows vs (detached v t)

-- the tree without the windows of the caller
abbrev pub without_owned : ℕ → TreeValue → TreeValue
without_owned who t = settled (without_windows (owned who t) t)
