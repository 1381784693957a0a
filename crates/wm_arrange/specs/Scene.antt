-- What the parts of a workspace depend on besides its own nodes.
use Rattle.std.specs.Prelude.{◌≡◌, ℕ, if◌then◌else◌, List}
use Rattle.wm_base.specs.declared.ids.ConId.{ConId}
use Rattle.wm_base.specs.declared.ids.Ink.{Ink}
use Rattle.wm_forest.specs.Look.{same}
use Rattle.wm_forest.specs.Recency.{lists}
use Rattle.wm_tree.specs.TreeValue.{TreeValue}
use Rattle.wm_arrange.specs.declared.scene.Scene.{Scene}
use Rattle.wm_arrange.specs.Maps.{holds}

-- the order of recency, the urgent windows, the focused container, and the inner gap
pub record Seen : Type 0 where
  pub recency : List ConId
  pub urgent : List ConId
  pub focused : ConId
  pub inner : ℕ

-- what is seen in a tree, on a workspace with this inner gap
abbrev pub seen_in : TreeValue → ConId → ℕ → Seen
seen_in t c inner = record { recency = t.recency; urgent = t.urgent; focused = c; inner = inner }

abbrev pub seen : Scene → Seen
seen scene = seen_in scene.tree.now scene.focused scene.inner

-- the urgent windows are the tree's
abbrev pub IsScene : Scene → Type 0
IsScene scene = (c : ConId) → holds scene.urgent.now c ≡ lists c scene.tree.now.urgent

abbrev pub color : ℕ → Ink
color n = record { 0 = n }

-- the ink of titles and borders: 4c7899 for the focused container, 900000 for an urgent one, else 333333
abbrev pub ink : Seen → ConId → Ink
ink s c = if same c s.focused then color 5011609 else if lists c s.urgent then color 9437184 else color 3355443
