-- What a node holds goes to another one, and which output is the first of the others.
use Rattle.std.specs.Prelude.{Option}
use Rattle.wm_base.specs.declared.ids.ConId.{ConId}
use Rattle.wm_forest.specs.declared.part.Part.{Part}
use Rattle.wm_forest.specs.Change.{append}
use Rattle.wm_forest.specs.Counts.{but}
use Rattle.wm_forest.specs.Forest.{Forest, con}
use Rattle.wm_forest.specs.Look.{first_floats, first_kids, nth_id}

-- the first of the other outputs
abbrev pub heir : ConId → Forest → Option ConId
heir o forest = nth_id 0 (but o (first_kids forest))

-- what a node holds comes last in another one
abbrev pub taking_in : Forest → Part → Forest → Forest → Forest → Forest
taking_in gone part kids floats rest = con part (append kids (first_kids gone)) (append floats (first_floats gone)) rest
