use Rattle.std.proofs.Common.{ap, sym}
use Rattle.wm_turn.proofs.Opening.{opens}
use Rattle.wm_turn.proofs.making.lay.Goals as goal

pub new-requires : goal.new-requires
new-requires g c =
    opens g.row.V-Question.Denot g.V.Stands.opening g.V.Stands.stands c.args.seats (g.V.Stands.opening c.of-first.result.value) c.requires.seats.0
    c.args.value c.in-Ok.slots.items c.requires.seats.1 c.in-Ok.ensures (sym (ap g.V.Stands.opening c.of-first.ensures)) c.requires.stands
