use Rattle.std.proofs.Common.{◌≡◌, length}
use Rattle.wm_base.specs.declared.ids.ConId.{ConId}
use Rattle.wm_history.specs.ByWindow.{left_of, value_at}
use Rattle.wm_history.proofs.by_window.forget.Given as goal

-- what was taken out and what is left make the whole
abbrev pub invariant-loop-rest : goal.invariant-loop-rest
invariant-loop-rest g l = (v : ConId) → left_of l.rest v (value_at l.map.entries v) ≡ left_of l.gone v (value_at l.initial.map.entries v)

abbrev pub decreases-loop-rest : goal.decreases-loop-rest
decreases-loop-rest g l = length l.rest
