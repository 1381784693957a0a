use Rattle.std.proofs.Common.{◌≡◌, ℕ, ◌%◌, ◌^◌}
use Rattle.wm_turn.specs.Steps.{IsSamePlace}
use Rattle.wm_turn.specs.declared.view.Stage.TheVariants.{Waits}
use Rattle.wm_turn.proofs.steps.wait_for_turn.Given as goal

-- the seat waits with the ticket that it drew
abbrev pub invariant-loop : goal.invariant-loop
invariant-loop g l =
    IsSamePlace l.fn.place l.place
    × ((ticket : ℕ) × (l.number ≡ ticket % 2 ^ 64) × (l.place.me ≡ (record l.fn.place.me.0 { stage = Waits ticket }, l.fn.place.me.1)))
