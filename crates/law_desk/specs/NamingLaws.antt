-- What lasts of names through every history: those of workspaces differ, and those of outputs do.
use Rattle.std.specs.Prelude.{List}
use Rattle.wm_history.specs.History.{Entry, opening_of, tree}
use Rattle.law_workspaces.specs.Added.{OutputNamesDiffer}
use Rattle.law_workspaces.specs.Renamed.{SpaceNamesDiffer}
use Rattle.wm_layouts.specs.declared.plan.Plan.{Plan}
use Rattle.wm_layouts.specs.Plan.{IsSound as IsSoundPlan}

-- from a sound plan every history leaves a tree in which the names of workspaces differ
abbrev pub HistoriesHaveSpaceNames : Type 0
HistoriesHaveSpaceNames = (plan : Plan) (history : List Entry) → IsSoundPlan plan → SpaceNamesDiffer (tree (opening_of plan) history)

-- and the names of outputs differ
abbrev pub HistoriesHaveOutputNames : Type 0
HistoriesHaveOutputNames = (plan : Plan) (history : List Entry) → IsSoundPlan plan → OutputNamesDiffer (tree (opening_of plan) history)
