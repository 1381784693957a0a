use Rattle.std.proofs.Common.{◌≡◌, length}
use Rattle.wm_base.specs.declared.ids.ConId.{ConId}
use Rattle.wm_history.specs.ByWindow.{left_of, value_at}
use Rattle.wm_history.proofs.owners.forget_owners.Given as goal

-- what was taken out and what is left make the whole
abbrev pub invariant-loop-rest : goal.invariant-loop-rest
invariant-loop-rest l = (v : ConId) → left_of l.rest v (value_at l.owners v) ≡ left_of l.fn.gone v (value_at l.fn.owners v)

abbrev pub decreases-loop-rest : goal.decreases-loop-rest
decreases-loop-rest l = length l.rest
