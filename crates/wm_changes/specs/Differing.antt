-- The windows in which two trees may differ.
use Rattle.std.specs.Prelude.{◌≡◌, ◌≤◌, ◌+◌, ◌⊎◌, ℕ, false, not, if◌then◌else◌, List, [], ◌∷◌, ◌++◌, Option, None, Some}
use Rattle.std.specs.List.Sorted.{IsStrictlySortedBy}
use Rattle.std.specs.Map.{keys_of}
use Rattle.std.specs.Option.{option_or}
use Rattle.std.specs.Ordering.{nat_cmp}
use Rattle.wm_arrange.specs.declared.parts.Placed.{Placed}
use Rattle.wm_base.specs.declared.ids.ConId.{ConId}
use Rattle.wm_changes.specs.declared.differing.Differing.{Differing}
use Rattle.wm_changes.specs.declared.standing.StandingNode.{StandingNode}
use Rattle.wm_changes.specs.declared.standing.StandingRow.{StandingRow}
use Rattle.wm_changes.specs.declared.words.Change.TheVariants.{Close}
use Rattle.wm_changes.specs.Changes.{told, window_event, window_view}
use Rattle.wm_changes.specs.Differences.{differs, window_words}
use Rattle.wm_changes.specs.Facts.{IsNarrow, WindowFact, float_standing, kid_standing, window_here, windows, windows_in}
use Rattle.wm_forest.specs.Counts.{row_length}
use Rattle.wm_forest.specs.Forest.{con, end}
use Rattle.wm_forest.specs.Look.{con_kind, rest_of, same}
use Rattle.wm_json.specs.declared.views.EventBody.{EventBody}
use Rattle.wm_tree.specs.TreeValue.{TreeValue}
use Rattle.wm_views.specs.Maps.{holds, value_at}

-- ---- rows and nodes that stand so

-- the windows of a row and of what is below it
abbrev pub row_windows : StandingRow → List WindowFact
row_windows r = windows_in r.standing r.row

-- a node, where it is a window, and the windows below it
abbrev pub node_windows : StandingNode → List WindowFact
node_windows n =
    window_here n.standing n.part.now (con_kind n.part.now.kind) ++ windows_in (kid_standing n.standing n.part.now n.kids) n.kids ++ windows_in (float_standing n.standing n.part.now) n.floats

-- the windows that there are of one
abbrev pub listed : Option WindowFact → List WindowFact
listed None = []
listed (Some w) = w ∷ []

-- the node is the row's first one; there is none where the row is at its end
abbrev pub IsFirst : StandingRow → Option StandingNode → Type 0
IsFirst r None = r.row ≡ end
IsFirst r (Some n) = (r.row ≡ con n.part.now n.kids n.floats (rest_of r.row)) × (n.standing ≡ r.standing)

-- the rows below it have sums of shares that a number of 32 bits can be
abbrev pub IsNarrowNode : StandingNode → Type 0
IsNarrowNode n = (row_length n.kids ≤ 256) × IsNarrow n.kids × IsNarrow n.floats

-- ---- windows with an id

-- the last window of a list with this id
abbrev pub last_of : ConId → List WindowFact → Option WindowFact
last_of c [] = None
last_of c (w ∷ ws) = option_or (last_of c ws) (if same w.part.id c then Some w else None)

-- how many windows of a list have this id
abbrev pub held : ConId → List WindowFact → ℕ
held c [] = 0
held c (w ∷ ws) = (if same w.part.id c then 1 else 0) + held c ws

-- ---- what may be left out

-- a window of the one tree and a window of the other do not differ
abbrev pub IsAlike : TreeValue → TreeValue → Option WindowFact → Option WindowFact → Type 0
IsAlike t u None w = ⊥
IsAlike t u (Some v) None = ⊥
IsAlike t u (Some v) (Some w) = differs t u v w ≡ false

-- of these two windows both were put in, or neither, since they do not differ
abbrev pub ArePut : TreeValue → TreeValue → (v w was_v was_w is_v is_w : Option WindowFact) → Type 0
ArePut t u v w was_v was_w is_v is_w =
    ((is_v ≡ option_or v was_v) × (is_w ≡ option_or w was_w)) ⊎ ((is_v ≡ was_v) × (is_w ≡ was_w) × IsAlike t u v w)

-- windows of the one tree and of the other were put in, but for some that do not differ
pub record ArePutIn (t u : TreeValue) (vs ws : List WindowFact) (old new : Differing) : Type 0 where
  pub each : (c : ConId) → held c vs ≤ 1 → held c ws ≤ 1
      → ArePut t u (last_of c vs) (last_of c ws) (value_at old.before.entries c) (value_at old.after.entries c) (value_at new.before.entries c) (value_at new.after.entries c)
  pub before : IsStrictlySortedBy nat_cmp (keys_of old.before.entries) → IsStrictlySortedBy nat_cmp (keys_of new.before.entries)
  pub after : IsStrictlySortedBy nat_cmp (keys_of old.after.entries) → IsStrictlySortedBy nat_cmp (keys_of new.after.entries)

-- the windows of both trees, but for some that do not differ
pub record IsDiffering (t u : TreeValue) (d : Differing) : Type 0 where
  pub each : (c : ConId) → ArePut t u (value_at (windows t) c) (value_at (windows u) c) None None (value_at d.before.entries c) (value_at d.after.entries c)
  pub before : IsStrictlySortedBy nat_cmp (keys_of d.before.entries)
  pub after : IsStrictlySortedBy nat_cmp (keys_of d.after.entries)

-- ---- lines

-- what is told of a window, where the one with its id was this
abbrev pub here_line : TreeValue → TreeValue → List Placed → List (ℕ × WindowFact) → WindowFact → List EventBody
here_line t u parts before w = told (window_event (window_view u parts w)) (window_words t u (value_at before w.part.id) w)

-- a window is gone, where none with its id is there
abbrev pub lost_line : TreeValue → List Placed → List (ℕ × WindowFact) → WindowFact → List EventBody
lost_line t parts after w = told (window_event (window_view t parts w)) ((not (holds after w.part.id), Close) ∷ [])
