use Rattle.std.proofs.Common.{◌≡◌, ◌<◌, ◌+◌, [], List, false, length}
use Rattle.std.specs.List.{All, sum_by}
use Rattle.wm_turn.specs.declared.view.Entry.{Entry}
use Rattle.wm_turn.specs.declared.view.Stage.TheVariants.{Idle}
use Rattle.wm_turn.specs.History.{Begins}
use Rattle.wm_turn.specs.Pass.{IsKnown, longest}
use Rattle.wm_turn.specs.Rule.{AreCalls, calls_of}
use Rattle.wm_turn.proofs.making.gather.Given as goal

-- what is known of the place and of the seats that are left is known of all seats
abbrev pub invariant-loop-seat : goal.invariant-loop-seat
invariant-loop-seat g l =
    (l.place.table_id ≡ l.fn.common.table_id)
    × (l.place.me.0.stage ≡ Idle)
    × (0 < l.place.me.0.parts)
    × (l.place.me.1 ≡ [])
    × (l.place.me.0.spare ≡ 0)
    × (l.place.me.0.parts + sum_by (λ seat. seat.parts) l.seats.items ≡ sum_by (λ seat. seat.parts) l.fn.seats.items)
    × (longest l.place.me.0.seen l.seats.items ≡ longest [] l.fn.seats.items)
    × All (λ seat. (seat.door ≡ l.fn.common.table_id) × (seat.turn ≡ false)) l.seats.items
    × ((history : List (Entry g.row.V-Step.Denot)) → Begins l.place.me.0.seen history → All (AreCalls history) (calls_of l.place.me.0)
    → All (IsKnown history) l.seats.items → All (IsKnown history) l.fn.seats.items)

abbrev pub decreases-loop-seat : goal.decreases-loop-seat
decreases-loop-seat g l = length l.seats.items
