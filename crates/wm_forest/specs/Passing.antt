-- Rows taken apart from their first node on, and put together again.
use Rattle.std.specs.Prelude.{Bool, if◌then◌else◌, Option, None, Some}
use Rattle.wm_forest.specs.declared.part.Part.{Part}
use Rattle.wm_forest.specs.Forest.{Forest, end, con}

-- the nodes of a row, the last one first, before those of another
abbrev pub onto : Forest → Forest → Forest
onto end row = row
onto (con part kids floats rest) row = onto rest (con part kids floats row)

-- the first node of a row before those of another
abbrev pub with_first : Forest → Forest → Forest
with_first end row = row
with_first (con part kids floats rest) row = con part kids floats row

-- the same of the nodes that do not pass the test
abbrev pub kept_onto : (Part → Forest → Forest → Bool) → Forest → Forest → Forest
kept_onto p end row = row
kept_onto p (con part kids floats rest) row = kept_onto p rest (if p part kids floats then row else con part kids floats row)

-- the same of the nodes that pass the test
abbrev pub taken_onto : (Part → Forest → Forest → Bool) → Forest → Forest → Forest
taken_onto p end row = row
taken_onto p (con part kids floats rest) row = taken_onto p rest (if p part kids floats then con part kids floats row else row)

-- what f makes of x and of the first node; x where there is none
abbrev pub first_or : {X : Type 0} → (X → Part → Forest → Forest → X) → X → Forest → X
first_or f x end = x
first_or f x (con part kids floats rest) = f x part kids floats

-- a change that is there, or none
abbrev pub if_some : {X : Type 0} → (X → Part → Forest → Forest → Forest → Forest) → Option X → Part → Forest → Forest → Forest → Forest
if_some f None part kids floats rest = con part kids floats rest
if_some f (Some x) part kids floats rest = f x part kids floats rest
