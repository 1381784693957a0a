use Rattle.std.proofs.Common.{◌≡◌, ◌+◌, ◌≤◌, length}
use Rattle.wm_txn.specs.Windows.{configure_all, count_all}
use Rattle.wm_txn.proofs.windows.configure_all.Given as goal

-- what is configured so far and what the rest configures is what all parts configure
abbrev pub invariant-loop-rest : goal.invariant-loop-rest
invariant-loop-rest l =
    record {
      windows : configure_all l.number l.rest l.windows ≡ configure_all l.number l.fn.parts l.fn.windows;
      count : l.count + count_all l.number l.rest l.windows ≡ count_all l.number l.fn.parts l.fn.windows;
      small : l.count + length l.rest ≤ length l.fn.parts;
    }

abbrev pub decreases-loop-rest : goal.decreases-loop-rest
decreases-loop-rest l = length l.rest
