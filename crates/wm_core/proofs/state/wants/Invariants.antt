use Rattle.std.proofs.Common.{◌≡◌, ◌++◌, length}
use Rattle.wm_history.specs.Follows.{kill_in}
use Rattle.wm_history.specs.Look.{wants}
use Rattle.wm_txn.specs.Machine.{configured_of}
use Rattle.wm_txn.specs.Windows.{find}
use Rattle.wm_core.proofs.state.wants.Given as goal

-- what was found and what is wanted of the rest make the whole
abbrev pub invariant-loop-rest : goal.invariant-loop-rest
invariant-loop-rest l =
    l.found.items ++ wants (λ v. configured_of (find v l.desk.txn.windows)) (kill_in l.desk.kills) l.serial l.kill l.rest ≡ wants (λ v. configured_of (find v l.desk.txn.windows)) (kill_in l.desk.kills) l.serial l.kill l.windows

abbrev pub decreases-loop-rest : goal.decreases-loop-rest
decreases-loop-rest l = length l.rest
