use Rattle.std.proofs.Common.{refl}
use Rattle.wm_actors.specs.Worked.{gate}
use Rattle.wm_actors.specs.Works.{spot}
use Rattle.wm_actors.proofs.WorkLemmas.{worked}
use Rattle.wm_actors.proofs.working.next_turn.Goals as goal

pub returns-in-Err-clause-turns : goal.returns-in-Err-clause-turns
returns-in-Err-clause-turns g c = λ first at w.
    worked g.L.Link.told g.L.Link.faults g.S.Serve.served g.S.Serve.fails first
    (spot (g.D.Door.carried c.turn.new.pass) (g.S.Serve.log c.turn.new.kept)) (spot (g.D.Door.carried c.finish.new.pass) (g.S.Serve.log c.turn.new.kept))
    at (gate (g.A.Listen.told c.turn.new.listen) (g.A.Listen.faults c.turn.new.listen)) c.in-Err.found c.finish.result
    (c.in-Err.ensures.goes_on first at w) c.finish.ensures.end c.finish.ensures.exits refl
