-- What holds of every tree: its shape and limits, and that each id is there once.
use Rattle.std.specs.Prelude.{◌≡◌, true, false, ◌≤◌, List, [], ◌∷◌}
use Rattle.wm_base.specs.declared.ids.ConId.{ConId}
use Rattle.wm_base.specs.declared.plan.OutputPlan.{OutputPlan}
use Rattle.wm_forest.specs.Change.{nobody}
use Rattle.wm_forest.specs.Counts.{con_count, mark_count, space_count}
use Rattle.wm_forest.specs.Look.{in_row}
use Rattle.wm_forest.specs.RootId.{root}
use Rattle.wm_forest.specs.SoundRow.{IsOutputRect, IsSoundRow, ranked, roots, tally, times}
use Rattle.wm_tree.specs.TreeValue.{TreeValue}

-- the rectangles of planned outputs are within their limits
abbrev pub FitPlans : List OutputPlan → Type 0
FitPlans [] = Unit {0}
FitPlans (plan ∷ plans) = IsOutputRect plan.rect × FitPlans plans

-- what holds of every tree
pub record IsSound (t : TreeValue) : Type 0 where
  -- the root over outputs over workspaces over containers, within their limits
  pub shaped : IsSoundRow roots false 0 t.nodes
  -- there is the root
  pub rooted : in_row root t.nodes ≡ true
  -- each id is there once, the next one and those above are not, nor is 0
  pub once : (c : ConId) → tally c t.nodes ≤ 1
  pub fresh : (c : ConId) → t.next_id ≤ c.0 → tally c t.nodes ≡ 0
  pub low : tally nobody t.nodes ≡ 0
  pub above : 2 ≤ t.next_id
  -- the order of recency has each workspace and container once and nothing else
  pub known : (c : ConId) → times c t.recency ≡ ranked c t.nodes
  -- at most 4,096 containers, 256 workspaces and 1,024 marks
  pub few : con_count t.nodes ≤ 4096
  pub few_spaces : space_count t.nodes ≤ 256
  pub few_marks : mark_count t.nodes ≤ 1024
  -- no id above 4,000,000,000 was given
  pub ids : t.next_id ≤ 4000000001
