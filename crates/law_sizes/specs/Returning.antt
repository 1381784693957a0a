-- A law of growing and shrinking tiled containers: there and back again, all is as it was.
use Rattle.std.specs.Prelude.{◌≡◌, ◌≤◌, ℕ, Bool, true, not, None}
use Rattle.wm_base.specs.declared.ids.ConId.{ConId}
use Rattle.wm_language.specs.declared.arguments.Side.{Side}
use Rattle.wm_sizes.specs.Resizing.{resize_refusal, resize_tree}
use Rattle.wm_tree.specs.Sound.{IsSound}
use Rattle.wm_tree.specs.TreeValue.{TreeValue, is_tiled_con}

-- a tiled container that grows by so many hundredths and then shrinks by as many at the same side, or the other way round,
-- leaves the tree as it was before, where neither is refused
abbrev pub ResizesBack : Type 0
ResizesBack =
    (c : ConId) (grow : Bool) (side : Side) (px ppt : ℕ) (t : TreeValue) → IsSound t → is_tiled_con t c ≡ true → 1 ≤ ppt
    → resize_refusal c grow side px ppt t ≡ None → resize_refusal c (not grow) side px ppt (resize_tree c grow side px ppt t) ≡ None
    → resize_tree c (not grow) side px ppt (resize_tree c grow side px ppt t) ≡ t
