-- Ids rise, and none that is gone comes back.
use Rattle.std.specs.Prelude.{◌≤◌, ◌<◌}
use Rattle.wm_base.specs.declared.ids.ConId.{ConId}
use Rattle.wm_forest.specs.SoundRow.{times}
use Rattle.wm_tree.specs.TreeValue.{TreeValue}

-- the next id of the new tree is no lower, and of the ids below the old one's its order of recency has only those that
-- the old tree's had
pub record IdsRise (old new : TreeValue) : Type 0 where
  pub next : old.next_id ≤ new.next_id
  pub known : (v : ConId) → v.0 < old.next_id → times v new.recency ≤ times v old.recency
