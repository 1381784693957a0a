use Rattle.std.proofs.Common.{◌≡◌, false, string_bytes}
use Rattle.wm_actors.specs.Pictured.{Painting, screen}
use Rattle.wm_actors.proofs.painting.painter_loop.Given as goal

-- the painter is between two rounds
abbrev pub invariant-loop : goal.invariant-loop
invariant-loop g l = record {
  door : g.D.Door.is_of l.door l.pass;
  turn : (g.D.Door.carried l.pass).turn ≡ false;
  goes : Painting (g.D.Door.carried l.initial.pass) (g.D.Door.carried l.pass) (screen (g.S.Sink.taken l.initial.frames) (g.S.Sink.faults l.initial.frames)) (screen (g.S.Sink.taken l.frames) (g.S.Sink.faults l.frames)) (string_bytes l.last);
}
