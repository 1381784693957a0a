use Rattle.wm_arrange.proofs.TreeLemmas.{space_floats, space_kids}
use Rattle.wm_arrange.proofs.arranging.place_space.Goals as goal

pub place_on_space-requires-clause-sound : goal.place_on_space-requires-clause-sound
place_on_space-requires-clause-sound c = (space_kids c.args.row.now c.requires.sound).0

pub place_on_space-requires-clause-floats : goal.place_on_space-requires-clause-floats
place_on_space-requires-clause-floats c = space_floats c.args.row.now c.requires.sound
