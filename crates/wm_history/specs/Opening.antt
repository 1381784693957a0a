-- Why a window is not opened.
use Rattle.std.specs.Prelude.{◌≡◌, Some}
use Rattle.wm_base.specs.declared.properties.Props.{Props}
use Rattle.wm_forest.specs.Place.{passed_limit}
use Rattle.wm_tree.specs.TreeValue.{TreeValue, newcomer_place}
use Rattle.wm_history.specs.Effect.{limit_of}
use Rattle.wm_history.specs.declared.mapping.NotOpened.{NotOpened}
use Rattle.wm_history.specs.declared.mapping.NotOpened.TheVariants.{Full, NoMemory}

-- a new window would pass this limit, or there was no memory
abbrev pub IsNewCause : TreeValue → NotOpened → Type 0
IsNewCause t (Full limit) = passed_limit (newcomer_place t) t.nodes t.next_id ≡ Some limit
IsNewCause t NoMemory = Unit {0}

-- a window with these properties would pass this limit, or there was no memory
abbrev pub IsCause : Props → TreeValue → NotOpened → Type 0
IsCause props t (Full limit) = limit_of props t ≡ Some limit
IsCause props t NoMemory = Unit {0}
