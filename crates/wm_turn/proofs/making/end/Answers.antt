use Rattle.std.proofs.Common.{◌≡◌, subst}
use Rattle.wm_turn.specs.Steps.{IsLeft}
use Rattle.wm_turn.proofs.Closing.{closes}
use Rattle.wm_turn.proofs.making.end.Goals as goal

pub unreachable-requires : goal.unreachable-requires
unreachable-requires g c =
    let table = c.args.table.shared in
    let place = c.args.place in
    let left = closes g.V.Stands.opening g.V.Stands.stands table.key.0 (g.V.Stands.opening table.key.1.value) place.id place.me.0 _ _
    c.requires.idle.0 c.requires.idle.1 c.requires.parts c.close_with-closed.ensures.values.2 in
    absurd (cc (left.1, c.take-slot.ensures.value, c.in_default.is))

pub returns : goal.returns
returns g c =
    let table = c.args.table.shared in
    let place = c.args.place in
    let left = closes g.V.Stands.opening g.V.Stands.stands table.key.0 (g.V.Stands.opening table.key.1.value) place.id place.me.0 _ _
    c.requires.idle.0 c.requires.idle.1 c.requires.parts c.close_with-closed.ensures.values.2 in
    let same : left.0 ≡ c.in-Some.value = cc (left.1, c.take-slot.ensures.value, c.in-Some.is) in
    subst (IsLeft g.V.Stands.opening g.V.Stands.stands table.key.0 (g.V.Stands.opening table.key.1.value) place.me.0) same left.2
