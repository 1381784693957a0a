use Rattle.wm_focus.proofs.MoveGoals.{entry_fits, turn_fits}
use Rattle.wm_focus.proofs.moves.pass.Goals as goal

pub go-requires-clause-goal : goal.go-requires-clause-goal
go-requires-clause-goal c =
    rw c.entry-at.ensures (entry_fits c.args.d c.args.con c.args.next c.args.t.now c.requires.sound c.requires.tiled c.requires.next c.in-Some.ensures.0)

pub turn-requires-clause-turn : goal.turn-requires-clause-turn
turn-requires-clause-turn c = turn_fits c.args.d c.args.con c.args.next c.args.t.now c.requires.sound c.requires.tiled c.requires.next
