use Rattle.wm_arrange.specs.Arranged.{arranged}
use Rattle.wm_core.proofs.OpeningLemmas.{fit_plans}
use Rattle.wm_core.proofs.StandsLemmas.{no_content}
use Rattle.wm_core.proofs.starting.opening.Goals as goal
use Rattle.std.proofs.Common.{refl}

pub first_of-requires-clause-sound : goal.first_of-requires-clause-sound
first_of-requires-clause-sound c =
    c.in_ok-tree.ensures.sound (rw c.items-outputs.ensures c.requires.some) (fit_plans c.args.plan.now.outputs c.items-outputs.result.now c.items-outputs.ensures c.requires.fit)

-- the opening has no windows
pub first_of-requires-clause-empty : goal.first_of-requires-clause-empty
first_of-requires-clause-empty c = no_content c.args.plan.now c.in_ok-tree.tree (arranged c.in_ok-tree.tree) (rw c.items-outputs.ensures at c.in_ok-tree.ensures.tree) refl

pub returns-in-Ok-clause-sound : goal.returns-in-Ok-clause-sound
returns-in-Ok-clause-sound c =
    c.in_ok-tree.ensures.sound (rw c.items-outputs.ensures c.requires.some) (fit_plans c.args.plan.now.outputs c.items-outputs.result.now c.items-outputs.ensures c.requires.fit)
