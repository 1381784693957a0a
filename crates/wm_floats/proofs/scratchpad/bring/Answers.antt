use Rattle.wm_floats.proofs.FloatLemmas.{coming_goal}
use Rattle.wm_floats.proofs.scratchpad.bring.Goals as goal

pub go-requires-clause-goal : goal.go-requires-clause-goal
go-requires-clause-goal c = coming_goal c.args.con c.coming_place-at.result c.args.t.now c.coming_place-at.ensures c.requires.sound c.requires.con
