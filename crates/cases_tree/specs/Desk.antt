-- What holds of the trees that the lines of a case act on.
use Rattle.std.specs.Prelude.{◌≡◌, true, IfSome}
use Rattle.wm_tree.specs.Sound.{IsSound}
use Rattle.cases_tree.specs.declared.desk.Desk.{Desk}

-- the tree, and the one that was kept, is sound where each change until then was one that is known to keep it so
abbrev pub Holds : Desk → Type 0
Holds d = (d.sound ≡ true → IsSound d.tree) × (d.kept_sound ≡ true → IfSome d.kept IsSound)
