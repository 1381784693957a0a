use Rattle.std.proofs.Common.{false, refl, true}
use Rattle.wm_actors.proofs.WorkLemmas.{asks_says}
use Rattle.wm_actors.proofs.working.ask.Goals as goal

pub returns-then-stopped-clause-asks : goal.returns-then-stopped-clause-asks
returns-then-stopped-clause-asks g c = (refl, asks_says (g.D.Door.carried c.args.pass.now) (g.D.Door.carried c.stopped.new.pass) c.stopped.result true c.stopped.ensures.looked c.if-stopped.true)

pub returns-clause-asks : goal.returns-clause-asks
returns-clause-asks g c = asks_says (g.D.Door.carried c.args.pass.now) (g.D.Door.carried c.stopped.new.pass) c.stopped.result false c.stopped.ensures.looked c.if-stopped.false
