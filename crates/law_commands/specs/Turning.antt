-- Laws of moving there and back, and of exchanging twice.
use Rattle.std.specs.Prelude.{◌≡◌, ℕ, Bool, true, false, Option, None, Some}
use Rattle.wm_base.specs.declared.geometry.Dir.{Dir}
use Rattle.wm_base.specs.declared.geometry.Dir.TheVariants.{Left, Right, Up, Down}
use Rattle.wm_base.specs.declared.ids.ConId.{ConId}
use Rattle.wm_focus.specs.Moves.{beside, is_split_con, move_dir_tree}
use Rattle.wm_shared.specs.Subject.{is_container}
use Rattle.wm_focus.specs.Swaps.{swap_tree}
use Rattle.wm_language.specs.declared.arguments.SwapArg.TheVariants as swaps
use Rattle.wm_forest.specs.declared.part.ConPart.{ConPart}
use Rattle.wm_forest.specs.Forest.{end}
use Rattle.wm_forest.specs.Look.{con_kind, first_floats, first_kids, kind_of, only, same}
use Rattle.wm_tree.specs.Sound.{IsSound}
use Rattle.wm_tree.specs.TreeValue.{TreeValue, is_tiled_con}

-- the direction back
abbrev pub opposite : Dir → Dir
opposite Left = Right
opposite Right = Left
opposite Up = Down
opposite Down = Up

-- nothing stands below c, as below a window
abbrev pub IsAlone : ConId → TreeValue → Type 0
IsAlone c t = (first_kids (only c t.nodes) ≡ end) × (first_floats (only c t.nodes) ≡ end)

abbrev pub is_full_part : Option ConPart → Bool
is_full_part None = false
is_full_part (Some part) = part.state.fullscreen

-- c fills its output
abbrev pub is_full : ConId → TreeValue → Bool
is_full c t = is_full_part (kind_of con_kind c t.nodes)

-- a container moved towards one beside it that takes none in, and moved back, stands as before, and so does all else
abbrev pub MovesBack : Type 0
MovesBack =
    (c n : ConId) (d : Dir) (px : ℕ) (t : TreeValue) → IsSound t → is_tiled_con t c ≡ true → beside d c t ≡ Some n → is_split_con t n ≡ false → IsAlone c t → IsAlone n t
    → move_dir_tree c (opposite d) px (move_dir_tree c d px t) ≡ t

-- two containers that change places twice stand as before, and so does all else, where none was to lose fullscreen
abbrev pub SwapsBack : Type 0
SwapsBack =
    (c n : ConId) (t : TreeValue) → IsSound t → is_container t c ≡ true → is_container t n ≡ true → same c n ≡ false → IsAlone c t → IsAlone n t → is_full c t ≡ false → is_full n t ≡ false
    → swap_tree c (swaps.Con n.0) (swap_tree c (swaps.Con n.0) t) ≡ t
