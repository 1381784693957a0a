use Rattle.wm_floats.proofs.FloatLemmas.{float_goal}
use Rattle.wm_floats.proofs.MovedLemmas.{float_rect_ok}
use Rattle.wm_floats.proofs.floating.float_on.Goals as goal

pub go-requires-clause-goal : goal.go-requires-clause-goal
go-requires-clause-goal c = float_goal c.args.con c.args.w c.floating_rect-rect.result c.args.t.now c.requires.sound c.requires.con c.requires.space

pub returns-clause-rect : goal.returns-clause-rect
returns-clause-rect c = λ tiled.
    float_rect_ok c.go.result c.args.con c.args.w c.floating_rect-rect.result c.args.t.now c.go.new.t c.go.ensures.tree c.floating_rect-rect.ensures c.requires.sound
    (float_goal c.args.con c.args.w c.floating_rect-rect.result c.args.t.now c.requires.sound c.requires.con c.requires.space) c.requires.con
