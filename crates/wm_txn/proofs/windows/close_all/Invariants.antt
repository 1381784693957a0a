use Rattle.std.proofs.Common.{◌≡◌, ◌+◌, ◌≤◌, length}
use Rattle.wm_txn.specs.Windows.{close_all, count_closed}
use Rattle.wm_txn.proofs.windows.close_all.Given as goal

-- what is closed so far and what the rest closes is what all close
abbrev pub invariant-loop-rest : goal.invariant-loop-rest
invariant-loop-rest l =
    record {
      windows : close_all l.rest l.windows ≡ close_all l.fn.gone l.fn.windows;
      count : l.count + count_closed l.number l.rest l.windows ≡ count_closed l.number l.fn.gone l.fn.windows;
      small : l.count + length l.rest ≤ length l.fn.gone;
    }

abbrev pub decreases-loop-rest : goal.decreases-loop-rest
decreases-loop-rest l = length l.rest
