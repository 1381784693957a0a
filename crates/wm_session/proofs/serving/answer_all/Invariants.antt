use Rattle.std.proofs.Common.{◌≡◌, Bool, length, false}
use Rattle.wm_session.specs.Served.{Stage, stage}
use Rattle.wm_session.specs.Serving.{Between, HasHeard}
use Rattle.wm_session.proofs.serving.answer_all.Given as goal

-- the messages so far were answered, and those that are queued are ahead
abbrev pub invariant-loop-message : goal.invariant-loop-message
invariant-loop-message g l = record {
  door : g.D.Door.is_of l.door l.pass;
  turn : (g.D.Door.carried l.pass).turn ≡ false;
  heard : HasHeard l.hearer.decoder;
  decoder : l.hearer.decoder ≡ record l.initial.hearer.decoder { queue = l.hearer.decoder.queue };
  room : l.hearer.room ≡ l.initial.hearer.room;
  goes : (first : Stage) (unasked : Bool)
      → Between first (stage (g.D.Door.carried l.initial.pass) (g.L.Link.told l.initial.link) (g.L.Link.faults l.initial.link) (g.B.Build.log l.initial.build)) l.initial.teller.talk l.initial.hearer.decoder unasked
      → Between first (stage (g.D.Door.carried l.pass) (g.L.Link.told l.link) (g.L.Link.faults l.link) (g.B.Build.log l.build)) l.teller.talk l.hearer.decoder unasked;
}

abbrev pub decreases-loop-message : goal.decreases-loop-message
decreases-loop-message g l = length l.hearer.decoder.queue
