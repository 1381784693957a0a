use Rattle.wm_floats.proofs.FloatLemmas.{hide_goal}
use Rattle.wm_floats.proofs.scratchpad.put_away.Goals as goal

pub go-requires-clause-goal : goal.go-requires-clause-goal
go-requires-clause-goal c = hide_goal c.args.con c.rect_of-rect.result c.args.t.now c.requires.sound c.requires.con c.requires.seen
