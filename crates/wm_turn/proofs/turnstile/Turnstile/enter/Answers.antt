use Rattle.std.proofs.Common.{◌≡◌, subst}
use Rattle.wm_turn.specs.History.{places}
use Rattle.wm_turn.proofs.Seating.{entered_own, seated_enter}
use Rattle.wm_turn.proofs.turnstile.Turnstile.enter.Goals as goal

pub invariant_of-seat : goal.invariant_of-seat
invariant_of-seat g c =
    let turn = c.wait_for_turn.ensures.turn in
    seated_enter g.V.Stands.opening g.V.Stands.stands c.note-value.result.0 c.seat.inside.caller c.seat.inside.count c.note-value.result.1 turn.0
    c.seat.inside.place.me c.wait_for_turn.new.place.me c.note-value.new.place.me c.seat.invariant turn.1 c.note-value.ensures.noted c.note-value.ensures.slot

pub returns-clause-legal : goal.returns-clause-legal
returns-clause-legal g c = (invariant_of-seat g c).legal

pub returns-clause-own : goal.returns-clause-own
returns-clause-own g c =
    let turn = c.wait_for_turn.ensures.turn in
    subst (λ pass. places pass.caller c.note-value.new.place.me.0.seen ≡ places pass.caller pass.seen) c.seat.view_is
    (entered_own g.V.Stands.opening g.V.Stands.stands c.note-value.result.0 c.seat.inside.caller c.seat.inside.count c.note-value.result.1 turn.0
    c.seat.inside.place.me c.wait_for_turn.new.place.me c.note-value.new.place.me c.seat.invariant turn.1 c.note-value.ensures.noted)
