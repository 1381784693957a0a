-- What lasts of marks, of urgent windows and of what floats through every history: no mark is there twice, and each urgent
-- id, and all that floats, is a window.
use Rattle.std.specs.Prelude.{List}
use Rattle.wm_history.specs.History.{Entry, opening_of, tree}
use Rattle.law_marks.specs.Afloat.{WindowsFloat}
use Rattle.law_marks.specs.Marks.{MarksDiffer}
use Rattle.law_marks.specs.Urgent.{UrgentAreWindows}
use Rattle.wm_layouts.specs.declared.plan.Plan.{Plan}
use Rattle.wm_layouts.specs.Plan.{IsSound as IsSoundPlan}

-- from a sound plan every history leaves a tree in which no mark is on two containers, nor twice on one
abbrev pub HistoriesKeepMarksApart : Type 0
HistoriesKeepMarksApart = (plan : Plan) (history : List Entry) → IsSoundPlan plan → MarksDiffer (tree (opening_of plan) history)

-- and one in which each urgent id is a window, and none is urgent twice
abbrev pub HistoriesKeepUrgentWindows : Type 0
HistoriesKeepUrgentWindows = (plan : Plan) (history : List Entry) → IsSoundPlan plan → UrgentAreWindows (tree (opening_of plan) history)

-- and one in which all that floats on a workspace, or hides in the scratchpad, is a window with an outer rectangle within
-- the limits
abbrev pub HistoriesKeepWindowsAfloat : Type 0
HistoriesKeepWindowsAfloat = (plan : Plan) (history : List Entry) → IsSoundPlan plan → WindowsFloat (tree (opening_of plan) history)
