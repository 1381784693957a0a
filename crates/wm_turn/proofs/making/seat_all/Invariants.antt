use Rattle.std.proofs.Common.{◌≡◌, ◌≤◌, ◌+◌, ◌-◌, []}
use Rattle.std.specs.Vec.{vec_len, vec_capacity}
use Rattle.wm_turn.specs.Pass.{new_passes}
use Rattle.wm_turn.specs.Rule.{first_view}
use Rattle.wm_turn.proofs.making.seat_all.Given as goal

-- the first seat has the parts that are left, and the others are split off
abbrev pub invariant-loop-caller : goal.invariant-loop-caller
invariant-loop-caller g l =
    let opening = g.V.Stands.opening l.fn.common.key.1.value in
    (l.place.table_id ≡ l.fn.common.table_id)
    × (l.place.me ≡ (record (first_view l.fn.seats opening) { spare = l.fn.seats - l.caller; parts = l.fn.seats - l.caller + 1 }, []))
    × (l.list.items ≡ new_passes l.fn.common.table_id opening 1 (l.caller - 1))
    × (vec_len l.list ≡ l.caller - 1)
    × (l.fn.seats ≤ vec_capacity l.list)
