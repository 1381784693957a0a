-- Changing one part of a tree alone.
use Rattle.std.specs.Prelude.{◌≡◌, true, Option, None, Some}
use Rattle.wm_base.specs.declared.ids.ConId.{ConId}
use Rattle.wm_forest.specs.declared.kind.KindEdit.TheVariants as edits
use Rattle.wm_forest.specs.Forest.{Forest}
use Rattle.wm_forest.specs.Look.{first_kids, in_row, only}
use Rattle.wm_tree.specs.TreeValue.{TreeValue, parent}
use Rattle.wm_tree.specs.Words.{edited}

-- what holds the workspace w shows it
abbrev pub shown_by : Option ConId → ConId → TreeValue → TreeValue
shown_by None w t = t
shown_by (Some o) w t = edited o (edits.Shown w) t

-- the workspace w is what its output shows
abbrev pub with_shown : ConId → TreeValue → TreeValue
with_shown w t = shown_by (parent t w) w t

-- the workspace w stands among those of the output that holds it
abbrev pub IsShowable : Option ConId → ConId → Forest → Type 0
IsShowable None w forest = Unit {0}
IsShowable (Some o) w forest = in_row w (first_kids (only o forest)) ≡ true
