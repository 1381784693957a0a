-- What lasts through every history: the tree is sound, its scratchpad is in order, and workspaces have one fullscreen container.
use Rattle.std.specs.Prelude.{List}
use Rattle.wm_history.specs.History.{Entry, Start, opening_of, tree}
use Rattle.law_fullscreen.specs.Fullscreen.{HasOne}
use Rattle.law_lasting.specs.Scratchpad.{HasScratchpad}
use Rattle.wm_layouts.specs.declared.plan.Plan.{Plan}
use Rattle.wm_layouts.specs.Plan.{IsSound as IsSoundPlan}
use Rattle.wm_tree.specs.Sound.{IsSound}
use Rattle.wm_tree.specs.TreeValue.{TreeValue}

-- a sound tree whose scratchpad has only flagged windows with an outer rectangle, and in which each workspace has at most one
-- fullscreen container
pub record IsInOrder (t : TreeValue) : Type 0 where
  pub sound : IsSound t
  pub scratchpad : HasScratchpad t
  pub fullscreen : HasOne t

-- a tree that is in order is so after each history
abbrev pub HistoriesStayInOrder : Type 0
HistoriesStayInOrder = (start : Start) (history : List Entry) → IsInOrder start.opened → IsInOrder (tree start history)

-- from a sound plan every history leaves a tree that is in order
abbrev pub HistoriesAreInOrder : Type 0
HistoriesAreInOrder = (plan : Plan) (history : List Entry) → IsSoundPlan plan → IsInOrder (tree (opening_of plan) history)
