use Rattle.std.proofs.Common.{◌≡◌, length}
use Rattle.wm_clients.specs.Wanted.{after_wants}
use Rattle.wm_clients.proofs.sent.Sent.after.Given as goal

-- the greatest numbers after the rest are those after all
abbrev pub invariant-loop-rest : goal.invariant-loop-rest
invariant-loop-rest l = record {
  greatest : after_wants l.rest l.sent ≡ after_wants l.wants l.fn.self;
}

abbrev pub decreases-loop-rest : goal.decreases-loop-rest
decreases-loop-rest l = length l.rest
