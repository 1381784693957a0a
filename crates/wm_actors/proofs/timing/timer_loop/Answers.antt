use Rattle.wm_actors.proofs.TickLemmas.{ticking_first}
use Rattle.wm_actors.proofs.timing.timer_loop.Goals as goal

pub loop-init : goal.loop-init
loop-init g c = record {
  door = c.requires.ready.0;
  turn = c.requires.ready.1;
  hold = c.new-timer.ensures.hold;
  goes = ticking_first (g.D.Door.carried c.args.pass.now) (g.C.Clock.told c.args.clock.now) c.new-timer.result c.new-timer.ensures.handed;
}
