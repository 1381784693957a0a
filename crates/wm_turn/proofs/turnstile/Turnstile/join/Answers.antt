use Rattle.std.proofs.Common.{◌≡◌, subst, sym}
use Rattle.wm_turn.specs.History.{Begins, places, wrote}
use Rattle.wm_turn.proofs.Seating.{joined_seen, joined_own, seated_join}
use Rattle.wm_turn.proofs.turnstile.Turnstile.join.Goals as goal

pub invariant_of-seat : goal.invariant_of-seat
invariant_of-seat g c =
    let merged = c.merge.ensures in
    seated_join c.seat.inside.place.me c.into_place-place.result.0.me c.merge.new.place.me merged.joined c.seat.invariant.live merged.begins merged.calls
    c.seat.inside.caller c.seat.inside.count c.into_place-place.result.1 c.max-seat-inside.result c.seat.invariant c.into_place-place.ensures.seated c.max-seat-inside.ensures

pub returns-clause-seen : goal.returns-clause-seen
returns-clause-seen g c =
    let merged = c.merge.ensures in
    let seen = joined_seen c.seat.inside.place.me c.into_place-place.result.0.me c.merge.new.place.me merged.joined c.seat.invariant.live merged.begins merged.calls in (
      subst (λ pass. Begins pass.seen c.merge.new.place.me.0.seen) c.seat.view_is seen.0,
      subst (λ pass. Begins pass.seen c.merge.new.place.me.0.seen) (sym c.into_place-place.ensures.place) seen.1,
    )

pub returns-clause-calls : goal.returns-clause-calls
returns-clause-calls g c =
    let merged = c.merge.ensures in
    let own = joined_own c.seat.inside.place.me c.into_place-place.result.0.me c.merge.new.place.me merged.joined c.seat.invariant.live merged.begins merged.calls in
    subst (λ pass. places pass.caller c.merge.new.place.me.0.seen ≡ wrote pass.mine) (sym c.into_place-place.ensures.place) own.1

pub returns-clause-legal : goal.returns-clause-legal
returns-clause-legal g c = (invariant_of-seat g c).legal
