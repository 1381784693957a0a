use Rattle.std.proofs.Common.{sym, ◌∙◌}
use Rattle.wm_focus.proofs.MoveGoals.{cross_fits}
use Rattle.wm_focus.proofs.moves.cross.Goals as goal

pub go-requires-clause-goal : goal.go-requires-clause-goal
go-requires-clause-goal c =
    rw c.near_end.ensures (cross_fits c.args.d c.args.con c.in-Some.space c.args.t.now c.requires.sound c.requires.tiled (sym c.space_over.ensures ∙ c.in-Some.is))
