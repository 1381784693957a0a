use Rattle.std.proofs.Common.{◌≡◌, false, length, true}
use Rattle.wm_clients.specs.Served.{Stage, stage}
use Rattle.wm_clients.specs.Serving.{Between}
use Rattle.wm_clients.specs.Telling.{AreFew}
use Rattle.wm_clients.proofs.serving.answer_all.Given as goal

-- the lines so far were answered, and those that are pending are ahead
abbrev pub invariant-loop-line : goal.invariant-loop-line
invariant-loop-line g l = record {
  door : g.D.Door.is_of l.door l.pass;
  turn : (g.D.Door.carried l.pass).turn ≡ false;
  room : l.hearer.room ≡ l.initial.hearer.room;
  few : AreFew l.teller.lines (g.D.Door.carried l.pass).seen;
  goes : (first : Stage)
      → Between first (stage (g.D.Door.carried l.initial.pass) (g.L.Link.told l.initial.link) (g.L.Link.faults l.initial.link)) l.initial.teller.sent l.initial.teller.lines l.initial.hearer.cutter true
      → Between first (stage (g.D.Door.carried l.pass) (g.L.Link.told l.link) (g.L.Link.faults l.link)) l.teller.sent l.teller.lines l.hearer.cutter true;
}

abbrev pub decreases-loop-line : goal.decreases-loop-line
decreases-loop-line g l = length l.hearer.cutter
