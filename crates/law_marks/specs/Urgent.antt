-- The urgent ids of a tree: each is one of its windows, and stands in the list once.
use Rattle.std.specs.Prelude.{◌≡◌, ◌≤◌, true}
use Rattle.wm_base.specs.declared.ids.ConId.{ConId}
use Rattle.wm_forest.specs.Recency.{lists}
use Rattle.wm_forest.specs.SoundRow.{times}
use Rattle.wm_opens.specs.Opens.{is_window_of}
use Rattle.wm_tree.specs.TreeValue.{TreeValue}

-- each urgent id is a window of the tree, and none is urgent twice
pub record UrgentAreWindows (t : TreeValue) : Type 0 where
  pub windows : (v : ConId) → lists v t.urgent ≡ true → is_window_of t v ≡ true
  pub once : (v : ConId) → times v t.urgent ≤ 1
