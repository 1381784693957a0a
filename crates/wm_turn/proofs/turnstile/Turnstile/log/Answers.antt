use Rattle.std.proofs.Common.{◌<◌, ◌^◌, arith, ap, length}
use Rattle.wm_turn.proofs.Seating.{seated_log}
use Rattle.wm_turn.proofs.turnstile.Turnstile.log.Goals as goal

pub invariant_of-seat : goal.invariant_of-seat
invariant_of-seat g c =
    let few : c.seat.inside.count < 2 ^ 48 = omega (arith, c.seat.invariant.count_is, ap (λ pass. length pass.seen) c.seat.view_is, c.requires.few) in
    seated_log (g.V.Stands.form c.args.step.now) c.seat.inside.caller c.seat.inside.count c.seat.inside.place.me c.add.new.place.me c.seat.invariant few c.add.ensures.logged

pub returns-clause-legal : goal.returns-clause-legal
returns-clause-legal g c = (invariant_of-seat g c).legal
