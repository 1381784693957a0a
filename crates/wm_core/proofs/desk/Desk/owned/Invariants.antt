use Rattle.std.proofs.Common.{◌≡◌, ◌++◌, filter, length}
use Rattle.wm_history.specs.Windows.{is_window}
use Rattle.wm_core.proofs.desk.Desk.owned.Given as goal

-- the windows so far and those of the rest are those of all
abbrev pub invariant-loop-con : goal.invariant-loop-con
invariant-loop-con l = l.windows.items ++ filter (is_window l.self.tree l.who) l.rest ≡ filter (is_window l.self.tree l.who) l.self.tree.recency

abbrev pub decreases-loop-con : goal.decreases-loop-con
decreases-loop-con l = length l.rest
