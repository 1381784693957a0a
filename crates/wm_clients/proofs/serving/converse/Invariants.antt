use Rattle.std.proofs.Common.{◌≡◌, ◌<◌, false, vec_len}
use Rattle.wm_clients.specs.Served.{stage}
use Rattle.wm_clients.specs.Serving.{Between, IsPart}
use Rattle.wm_clients.specs.Telling.{AreFew}
use Rattle.wm_clients.proofs.serving.converse.Given as goal

-- the session is between two receivings
abbrev pub invariant-loop : goal.invariant-loop
invariant-loop g l = record {
  door : g.D.Door.is_of l.door l.pass;
  turn : (g.D.Door.carried l.pass).turn ≡ false;
  part : IsPart l.hearer.cutter;
  room : 0 < vec_len l.hearer.room;
  few : AreFew l.teller.lines (g.D.Door.carried l.pass).seen;
  goes : Between (stage (g.D.Door.carried l.initial.pass) (g.L.Link.told l.initial.link) (g.L.Link.faults l.initial.link))
      (stage (g.D.Door.carried l.pass) (g.L.Link.told l.link) (g.L.Link.faults l.link)) l.teller.sent l.teller.lines l.hearer.cutter false;
}
