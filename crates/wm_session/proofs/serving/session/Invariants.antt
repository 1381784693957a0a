use Rattle.std.proofs.Common.{◌≡◌, ◌<◌, [], None, false, vec_len}
use Rattle.wm_session.specs.Served.{stage}
use Rattle.wm_session.specs.Serving.{Between, HasHeard}
use Rattle.wm_session.proofs.serving.session.Given as goal

-- the session is between two receivings
abbrev pub invariant-loop : goal.invariant-loop
invariant-loop g l = record {
  door : g.D.Door.is_of l.door l.pass;
  turn : (g.D.Door.carried l.pass).turn ≡ false;
  queue : l.hearer.decoder.queue ≡ [];
  whole : l.hearer.decoder.fault ≡ None;
  heard : HasHeard l.hearer.decoder;
  room : 0 < vec_len l.hearer.room;
  goes : Between (stage (g.D.Door.carried l.initial.pass) (g.L.Link.told l.initial.link) (g.L.Link.faults l.initial.link) (g.B.Build.log l.initial.build))
      (stage (g.D.Door.carried l.pass) (g.L.Link.told l.link) (g.L.Link.faults l.link) (g.B.Build.log l.build)) l.teller.talk l.hearer.decoder false;
}
