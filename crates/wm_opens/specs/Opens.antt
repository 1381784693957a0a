-- Which ids stand in a tree as windows, and which may still open as windows.
use Rattle.std.specs.Prelude.{◌≡◌, ℕ, ◌+◌, ◌≤◌, ◌<◌, ◌==◌, Bool, true, false, ◌||◌, ◌&&◌, nat_le, if◌then◌else◌, Option, None, Some}
use Rattle.wm_base.specs.declared.ids.ConId.{ConId}
use Rattle.wm_forest.specs.Change.{is_window_kind}
use Rattle.wm_forest.specs.declared.kind.KindEdit.{KindEdit}
use Rattle.wm_forest.specs.declared.kind.KindEdit.TheVariants as edits
use Rattle.wm_forest.specs.declared.part.ConKind.{ConKind}
use Rattle.wm_forest.specs.declared.part.ConKind.TheVariants.{Split, Window, Placeholder}
use Rattle.wm_forest.specs.declared.part.ConPart.{ConPart}
use Rattle.wm_forest.specs.declared.part.NodeKind.{NodeKind}
use Rattle.wm_forest.specs.declared.part.NodeKind.TheVariants.{Root, Output, Space, Con}
use Rattle.wm_forest.specs.declared.part.Part.{Part}
use Rattle.wm_forest.specs.Counts.{count}
use Rattle.wm_forest.specs.Forest.{Forest, end, con}
use Rattle.wm_forest.specs.Look.{con_kind, kind_of, same}
use Rattle.wm_tree.specs.Sound.{IsSound}
use Rattle.wm_tree.specs.TreeValue.{TreeValue}

-- a window counts one, any other node nothing
abbrev pub windows : NodeKind → ℕ
windows (Root c) = 0
windows (Output o) = 0
windows (Space s) = 0
windows (Con c) = if is_window_kind c.kind then 1 else 0

-- one for a window with the id v
abbrev pub window_at : ConId → Part → ℕ
window_at v p = if same p.id v then windows p.kind else 0

-- how often v stands in the tree as a window, in workspaces or in the scratchpad
abbrev pub windows_at : ConId → TreeValue → ℕ
windows_at v t = count (window_at v) t.nodes

abbrev pub is_window_part : Option ConPart → Bool
is_window_part None = false
is_window_part (Some part) = is_window_kind part.kind

-- v stands in the tree as a window
abbrev pub is_window_of : TreeValue → ConId → Bool
is_window_of t v = is_window_part (kind_of con_kind v t.nodes)

-- the change makes a window of a placeholder
abbrev pub is_fill : KindEdit → Bool
is_fill (edits.Fill props owner natural) = true
is_fill other = false

-- a container has no floating windows; only other nodes may
abbrev pub HoldsNone : NodeKind → Forest → Type 0
HoldsNone (Root c) floats = Unit {0}
HoldsNone (Output o) floats = Unit {0}
HoldsNone (Space s) floats = Unit {0}
HoldsNone (Con c) floats = floats ≡ end

-- no container of the forest has floating windows
abbrev pub IsTidy : Forest → Type 0
IsTidy end = Unit {0}
IsTidy (con part kids floats rest) = HoldsNone part.kind floats × IsTidy kids × IsTidy floats × IsTidy rest

-- a sound tree, of which no container has floating windows
pub record IsGood (t : TreeValue) : Type 0 where
  pub sound : IsSound t
  pub tidy : IsTidy t.nodes

-- ---- whose windows they are

abbrev pub is_owned_kind : ℕ → ConKind → Bool
is_owned_kind who (Split layout last) = false
is_owned_kind who (Window props owner natural) = owner == who
is_owned_kind who (Placeholder props swallows) = false

-- a window of the caller counts one
abbrev pub owned : ℕ → NodeKind → ℕ
owned who (Root c) = 0
owned who (Output o) = 0
owned who (Space s) = 0
owned who (Con c) = if is_owned_kind who c.kind then 1 else 0

-- one for a window of the caller with the id v
abbrev pub owned_at : ℕ → ConId → Part → ℕ
owned_at who v p = if same p.id v then owned who p.kind else 0

abbrev pub is_owned_part : ℕ → Option ConPart → Bool
is_owned_part who None = false
is_owned_part who (Some part) = is_owned_kind who part.kind

-- v stands in the tree as a window of the caller
abbrev pub is_owned_of : TreeValue → ℕ → ConId → Bool
is_owned_of t who v = is_owned_part who (kind_of con_kind v t.nodes)

-- ---- trees after steps

-- the new tree is good, and has the windows of the old one, each its caller's
pub record Holds (t new : TreeValue) : Type 0 where
  pub good : IsGood new
  pub keeps : (v : ConId) → windows_at v new ≡ windows_at v t
  pub owners : (who : ℕ) (v : ConId) → is_owned_of new who v ≡ is_owned_of t who v

-- ---- which ids may open

abbrev pub is_placeholder_kind : ConKind → Bool
is_placeholder_kind (Split layout last) = false
is_placeholder_kind (Window props owner natural) = false
is_placeholder_kind (Placeholder props swallows) = true

-- a placeholder counts one, any other node nothing
abbrev pub placeholders : NodeKind → ℕ
placeholders (Root c) = 0
placeholders (Output o) = 0
placeholders (Space s) = 0
placeholders (Con c) = if is_placeholder_kind c.kind then 1 else 0

-- one for a placeholder with the id v
abbrev pub placeholder_at : ConId → Part → ℕ
placeholder_at v p = if same p.id v then placeholders p.kind else 0

-- how often v stands in the tree as a placeholder, in workspaces or in the scratchpad
abbrev pub placeholders_at : ConId → TreeValue → ℕ
placeholders_at v t = count (placeholder_at v) t.nodes

abbrev pub is_placeholder_part : Option ConPart → Bool
is_placeholder_part None = false
is_placeholder_part (Some part) = is_placeholder_kind part.kind

-- v stands in the tree as a placeholder
abbrev pub is_placeholder_of : TreeValue → ConId → Bool
is_placeholder_of t v = is_placeholder_part (kind_of con_kind v t.nodes)

-- v may open as a window: it is a placeholder's id, or still to be given
abbrev pub may_open : TreeValue → ConId → Bool
may_open t v = is_placeholder_of t v || nat_le t.next_id v.0

-- in the new tree no id may open that might not in the old one: the next id is no lower, and no id that was given is a
-- placeholder's more often
pub record OpensNoOther (t new : TreeValue) : Type 0 where
  pub next : t.next_id ≤ new.next_id
  pub fewer : (v : ConId) → v.0 < t.next_id → placeholders_at v new ≤ placeholders_at v t

-- ---- a placeholder that becomes a window

-- how many windows there are
abbrev pub all_windows : TreeValue → ℕ
all_windows t = count (λ p. windows p.kind) t.nodes

-- the new tree is sound, and has in the place of the placeholder c a window of the caller, and else the windows, each its
-- caller's, and the placeholders of the old one; no id was given, and the order of recency stayed
pub record Fills (c : ConId) (owner : ℕ) (t new : TreeValue) : Type 0 where
  pub sound : IsSound new
  -- where no container had floating windows, none has
  pub tidy : IsTidy t.nodes → IsTidy new.nodes
  pub next : new.next_id ≡ t.next_id
  pub recency : new.recency ≡ t.recency
  -- c was a placeholder, and no window
  pub was : is_placeholder_of t c ≡ true
  pub none : windows_at c t ≡ 0
  -- it is a window of the caller, and no placeholder
  pub own : is_owned_of new owner c ≡ true
  pub gone : placeholders_at c new ≡ 0
  -- what is counted
  pub one : (v : ConId) → windows_at v new ≡ windows_at v t + (if same c v then 1 else 0)
  pub all : all_windows new ≡ all_windows t + 1
  pub owned : (who : ℕ) (v : ConId) → count (owned_at who v) new.nodes ≡ count (owned_at who v) t.nodes + (if same c v && owner == who then 1 else 0)
  pub left : (v : ConId) → placeholders_at v new + (if same c v then 1 else 0) ≡ placeholders_at v t
  -- what is found of others
  pub windows_stay : (v : ConId) → same c v ≡ false → is_window_of new v ≡ is_window_of t v
  pub owners_stay : (who : ℕ) (v : ConId) → same c v ≡ false → is_owned_of new who v ≡ is_owned_of t who v
