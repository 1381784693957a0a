use Rattle.std.proofs.Common.{sym, ◌∙◌}
use Rattle.wm_focus.proofs.MoveGoals.{side_fits}
use Rattle.wm_focus.proofs.moves.leave.Goals as goal

pub go-requires-clause-goal : goal.go-requires-clause-goal
go-requires-clause-goal c =
    rw c.side_of.ensures (side_fits c.args.d c.args.con c.in-Some.child c.args.t.now c.requires.sound c.requires.tiled (sym c.held_out.ensures ∙ c.in-Some.is))
