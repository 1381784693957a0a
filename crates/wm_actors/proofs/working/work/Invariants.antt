use Rattle.std.proofs.Common.{◌≡◌, false}
use Rattle.wm_actors.specs.Worked.{Working, gate}
use Rattle.wm_actors.specs.Works.{spot}
use Rattle.wm_actors.proofs.working.work.Given as goal

-- the worker is between two rounds
abbrev pub invariant-loop : goal.invariant-loop
invariant-loop g l = record {
  door : g.D.Door.is_of l.door l.pass;
  turn : (g.D.Door.carried l.pass).turn ≡ false;
  goes : Working g.L.Link.told g.L.Link.faults g.S.Serve.served g.S.Serve.fails
      (spot (g.D.Door.carried l.initial.pass) (g.S.Serve.log l.initial.kept)) (spot (g.D.Door.carried l.pass) (g.S.Serve.log l.kept))
      (gate (g.A.Listen.told l.initial.listen) (g.A.Listen.faults l.initial.listen)) (gate (g.A.Listen.told l.listen) (g.A.Listen.faults l.listen));
}
