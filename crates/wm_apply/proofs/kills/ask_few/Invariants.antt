use Rattle.std.proofs.Common.{◌≡◌, ◌++◌, length}
use Rattle.wm_apply.specs.Kills.{asked_each}
use Rattle.wm_apply.proofs.kills.ask_few.Given as goal

-- those so far and those of the rest are those of all
abbrev pub invariant-loop-rest : goal.invariant-loop-rest
invariant-loop-rest l = record {
  found : l.found.items ++ asked_each l.rest l.t ≡ l.initial.found.items ++ asked_each l.cons l.t;
}

abbrev pub decreases-loop-rest : goal.decreases-loop-rest
decreases-loop-rest l = length l.rest
