use Rattle.wm_actors.specs.Worked.{gate}
use Rattle.wm_actors.specs.Works.{spot}
use Rattle.wm_actors.proofs.WorkLemmas.{working_first}
use Rattle.wm_actors.proofs.working.work.Goals as goal

pub loop-init : goal.loop-init
loop-init g c = record {
  door = c.requires.ready.0;
  turn = c.requires.ready.1;
  goes = working_first g.L.Link.told g.L.Link.faults g.S.Serve.served g.S.Serve.fails (spot (g.D.Door.carried c.args.pass.now) (g.S.Serve.log c.args.kept.now)) (gate (g.A.Listen.told c.args.listen.now) (g.A.Listen.faults c.args.listen.now));
}
