-- Windows and workspaces put in under their ids, and sums of shares.
use Rattle.std.proofs.Common.{◌≡◌, ℕ, ◌*◌, ◌≤◌, Bool, true, false, List, [], ◌∷◌, ◌++◌, refl, ap, ◌∙◌, arith}
use Rattle.std.specs.BTreeMap.{insert_entry}
use Rattle.std.specs.Ordering.{nat_cmp}
use Rattle.wm_base.specs.declared.ids.ConId.{ConId}
use Rattle.wm_changes.specs.Facts.{IsNarrow, SpaceFact, WindowFact, put_spaces, put_windows}
use Rattle.wm_forest.specs.declared.part.NodeKind.{NodeKind}
use Rattle.wm_forest.specs.declared.part.NodeKind.TheVariants.{Root, Output, Space, Con}
use Rattle.wm_forest.specs.Counts.{row_length, share_of, share_sum}
use Rattle.wm_forest.specs.Forest.{Forest, end, con}
use Rattle.wm_forest.specs.SoundRow.{IsNode, IsSoundRow, Level, roots, outputs, spaces, containers, below}
use Rattle.wm_forest.specs.Spot.{room_below}
use Rattle.wm_tree.specs.Sound.{IsSound}
use Rattle.wm_tree.specs.TreeValue.{TreeValue}

-- those of two lists are put in one after the other
pub windows_both : (vs ws : List WindowFact) (done : List (ℕ × WindowFact)) → put_windows ws (put_windows vs done) ≡ put_windows (vs ++ ws) done
windows_both [] ws done = refl
windows_both (v ∷ vs) ws done = windows_both vs ws (insert_entry nat_cmp done v.part.id.0 v)

-- those of three lists likewise
pub windows_three : (here kids floats : List WindowFact) (done : List (ℕ × WindowFact)) → put_windows floats (put_windows kids (put_windows here done)) ≡ put_windows (here ++ kids ++ floats) done
windows_three here kids floats done = ap (put_windows floats) (windows_both here kids done) ∙ windows_both (here ++ kids) floats done

pub spaces_both : (vs ws : List SpaceFact) (done : List (ℕ × SpaceFact)) → put_spaces ws (put_spaces vs done) ≡ put_spaces (vs ++ ws) done
spaces_both [] ws done = refl
spaces_both (v ∷ vs) ws done = spaces_both vs ws (insert_entry nat_cmp done v.part.id.0 v)

-- ---- shares

-- a narrow row's shares are as many times 1,048,576 at most as it has nodes
pub narrow_sum : (f : Forest) → IsNarrow f → share_sum f ≤ 1048576 * row_length f
narrow_sum end h = omega arith
narrow_sum (con part kids floats rest) h = let more : share_sum rest ≤ 1048576 * row_length rest = narrow_sum rest h.4 in omega (arith, more, h.1)

share_low : (l : Level) (tiled : Bool) (room : ℕ) (id : ConId) (kind : NodeKind) (marks : List (List ℕ)) (kids : Forest) → IsNode l tiled room id kind marks kids → share_of kind ≤ 1048576
share_low l tiled room id (Root c) marks kids h = omega arith
share_low l tiled room id (Output o) marks kids h = omega arith
share_low l tiled room id (Space w) marks kids h = omega arith
share_low roots tiled room id (Con c) marks kids h = absurd h
share_low outputs tiled room id (Con c) marks kids h = absurd h
share_low spaces tiled room id (Con c) marks kids h = absurd h
share_low containers true room id (Con c) marks kids h = h.1.1
share_low containers false room id (Con c) marks kids h = let none : c.share ≡ 0 = h.1 in omega arith

row_narrow : (l : Level) (tiled : Bool) (room : ℕ) (f : Forest) → IsSoundRow l tiled room f → IsNarrow f
row_narrow l tiled room end h = tt
row_narrow l tiled room (con part kids floats rest) h =
    (h.1, share_low l tiled room part.id part.kind part.marks kids h.0, row_narrow (below l) true (room_below room part.kind) kids h.2, row_narrow containers false (room_below room part.kind) floats h.3, row_narrow l tiled room rest h.4)

-- the rows of a sound tree are narrow
pub narrow : (t : TreeValue) → IsSound t → IsNarrow t.nodes
narrow t sound = row_narrow roots false 0 t.nodes sound.shaped
