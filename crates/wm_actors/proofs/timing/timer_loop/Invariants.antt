use Rattle.std.proofs.Common.{◌≡◌, false}
use Rattle.wm_actors.specs.Timed.{Ticking}
use Rattle.wm_actors.proofs.timing.timer_loop.Given as goal

-- the timer is between two rounds
abbrev pub invariant-loop : goal.invariant-loop
invariant-loop g l = record {
  door : g.D.Door.is_of l.door l.pass;
  turn : (g.D.Door.carried l.pass).turn ≡ false;
  hold : l.timer.hold_ms ≡ l.hold_ms;
  goes : Ticking (g.D.Door.carried l.initial.pass) (g.D.Door.carried l.pass) (g.C.Clock.told l.initial.clock) (g.C.Clock.told l.clock) l.timer;
}
