use Rattle.std.proofs.Common.{◌≡◌, ◌++◌, filter, length, not}
use Rattle.wm_base.specs.declared.ids.ConId.{ConId}
use Rattle.wm_opens.specs.Opens.{is_window_of}
use Rattle.wm_history.specs.Effect.{closed}
use Rattle.wm_history.specs.Windows.{holds}
use Rattle.wm_history.proofs.counting.missing.Given as goal

-- those that were found and those of the rest are those of all, and the maps hold the windows of the trees
abbrev pub invariant-loop-con : goal.invariant-loop-con
invariant-loop-con l = record {
  found : l.gone.items ++ filter (λ v. not (is_window_of l.new v)) (filter (is_window_of l.old) l.rest) ≡ closed l.old l.new l.fn.opened;
  before : (v : ConId) → holds l.before.entries v ≡ is_window_of l.old v;
  after : (v : ConId) → holds l.after.entries v ≡ is_window_of l.new v;
}

abbrev pub decreases-loop-con : goal.decreases-loop-con
decreases-loop-con l = length l.rest
