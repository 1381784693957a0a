-- Laws of `border toggle`: three of them come round.
use Rattle.std.specs.Prelude.{◌≡◌, Some}
use Rattle.wm_base.specs.declared.ids.ConId.{ConId}
use Rattle.wm_base.specs.declared.plan.Border.{Border}
use Rattle.wm_base.specs.declared.plan.Border.TheVariants.{Normal, Pixel, Bare}
use Rattle.wm_floats.specs.Windows.{state_of}
use Rattle.wm_forest.specs.declared.part.ConState.{ConState}
use Rattle.wm_sizes.specs.Borders.{cycle_border_tree}
use Rattle.wm_sizes.specs.Windows.{border_set}
use Rattle.wm_tree.specs.TreeValue.{TreeValue}

-- a border of the same kind, 2 pixels wide
abbrev pub usual : Border → Border
usual (Normal n) = Normal 2
usual (Pixel n) = Pixel 2
usual Bare = Bare

-- `border toggle` three times on a container leaves its border of the same kind, and 2 pixels wide whatever it was, and
-- all else as it was
abbrev pub BorderTogglesRound : Type 0
BorderTogglesRound = (c : ConId) (s : ConState) (t : TreeValue) → state_of c t ≡ Some s → cycle_border_tree c (cycle_border_tree c (cycle_border_tree c t)) ≡ border_set (usual s.border) c t

-- it gives the tree back where there was no border, or one of 2 pixels
abbrev pub BorderTogglesBack : Type 0
BorderTogglesBack = (c : ConId) (s : ConState) (t : TreeValue) → state_of c t ≡ Some s → s.border ≡ usual s.border → cycle_border_tree c (cycle_border_tree c (cycle_border_tree c t)) ≡ t
