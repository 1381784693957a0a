-- The focused node is there, and so is the root where it is looked for.
use Rattle.std.proofs.Common.{◌≡◌, Bool, true, false, cond, ◌||◌, List, [], ◌∷◌, Some, refl}
use Rattle.wm_base.specs.declared.ids.ConId.{ConId}
use Rattle.wm_forest.specs.declared.part.NodeKind.{NodeKind}
use Rattle.wm_forest.specs.declared.part.NodeKind.TheVariants.{Root, Output, Space, Con}
use Rattle.wm_forest.specs.Forest.{Forest, end, con}
use Rattle.wm_forest.specs.Change.{shown_of}
use Rattle.wm_forest.specs.Look.{first_alone, first_kids, first_part, has, in_row, kind_by, node_in, only, same}
use Rattle.wm_forest.specs.Recency.{first_held}
use Rattle.wm_forest.specs.SoundRow.{IsNode, IsSoundRow, outputs, roots}
use Rattle.wm_tree.specs.Sound.{IsSound}
use Rattle.wm_forest.specs.Spot.{room_below}
use Rattle.wm_tree.specs.TreeValue.{TreeValue, current, current_in, current_row, focused, or_id, shown, shown_space}
use Rattle.wm_forest.specs.RootId.{current_of, root}
use Rattle.wm_tree.proofs.AttachLemmas.{has_row}
use Rattle.wm_forest.proofs.RecencyLemmas.{same_self}

has_alone : (i : ConId) (f : Forest) → has i (first_alone f) ≡ true → has i f ≡ true
has_alone i end h = h
has_alone i (con part kids floats rest) h = step (same part.id i) (has i kids) (has i floats) (has i rest) h
  where
    step : (a k l r : Bool) → (a || k || l || false) ≡ true → (a || k || l || r) ≡ true
    step true k l r h = refl
    step false true l r h = refl
    step false false true r h = refl
    step false false false r h = cc

pub has_kids : (i : ConId) (f : Forest) → has i (first_kids f) ≡ true → has i f ≡ true
has_kids i end h = h
has_kids i (con part kids floats rest) h = step (same part.id i) (has i kids) (has i floats) (has i rest) h
  where
    step : (a k l r : Bool) → k ≡ true → (a || k || l || r) ≡ true
    step true k l r h = refl
    step false true l r h = refl
    step false false l r h = cc

has_from : (i w : ConId) (f : Forest) → has i (node_in w f) ≡ true → has i f ≡ true
has_from i w end h = h
has_from i w (con part kids floats rest) h = by_test (same part.id w) (has_from i w rest) h
  where
    last : (a k l r : Bool) → r ≡ true → (a || k || l || r) ≡ true
    last true k l r h = refl
    last false true l r h = refl
    last false false true r h = refl
    last false false false r h = h

    by_test : (b : Bool) → (has i (node_in w rest) ≡ true → has i rest ≡ true) → has i (cond b (con part kids floats rest) (node_in w rest)) ≡ true → has i (con part kids floats rest) ≡ true
    by_test true f h = h
    by_test false f h = last (same part.id i) (has i kids) (has i floats) (has i rest) (f h)

held : (f : Forest) (ids : List ConId) (d : ConId) (P : ConId → Type 0) → ((i : ConId) → has i f ≡ true → P i) → P d → P (or_id (first_held f ids) d)
held f [] d P p q = q
held f (id ∷ ids) d P p q = by_test (has id f) refl (held f ids d P p q)
  where
    by_test : (b : Bool) → has id f ≡ b → P (or_id (first_held f ids) d) → P (or_id (cond b (Some id) (first_held f ids)) d)
    by_test true e r = p id e
    by_test false e r = r

-- the root is the first node
pub root_first : (f : Forest) → IsSoundRow roots false 0 f → in_row root f ≡ true → only root f ≡ first_alone f
root_first end s h = refl
root_first (con part kids floats rest) s h = rw (is_root part.kind s.0) refl
  where
    is_root : (kind : NodeKind) → IsNode roots false 0 part.id kind part.marks kids → same part.id root ≡ true
    is_root (Root c) n = same_self part.id root n.0
    is_root (Output o) n = absurd n
    is_root (Space w) n = absurd n
    is_root (Con c) n = absurd n

pub current_there : (f : Forest) → IsSoundRow roots false 0 f → in_row root f ≡ true → in_row (current_in (first_part f)) (first_kids f) ≡ true
current_there end s h = cc
current_there (con part kids floats rest) s h = by_kind part.kind s.0
  where
    by_kind : (kind : NodeKind) → IsNode roots false 0 part.id kind part.marks kids → in_row (current_of kind) kids ≡ true
    by_kind (Root c) n = n.1
    by_kind (Output o) n = absurd n
    by_kind (Space w) n = absurd n
    by_kind (Con c) n = absurd n

pub outputs_of : (f : Forest) → IsSoundRow roots false 0 f → IsSoundRow outputs true 32 (first_kids f)
outputs_of end s = tt
outputs_of (con part kids floats rest) s = by_kind part.kind s.0 s.2
  where
    by_kind : (kind : NodeKind) → IsNode roots false 0 part.id kind part.marks kids → IsSoundRow outputs true (room_below 0 kind) kids → IsSoundRow outputs true 32 kids
    by_kind (Root c) n k = k
    by_kind (Output o) n k = absurd n
    by_kind (Space w) n k = absurd n
    by_kind (Con c) n k = absurd n

-- an output of a row shows one of its workspaces
shown_there : (c : ConId) (row : Forest) → IsSoundRow outputs true 32 row → in_row c row ≡ true → has (or_id (kind_by shown_of (first_part (node_in c row))) c) (first_kids (node_in c row)) ≡ true
shown_there c end s h = cc
shown_there c (con part kids floats rest) s h = by_test (same part.id c) refl (shown_there c rest s.4) h
  where
    by_kind : (kind : NodeKind) → IsNode outputs true 32 part.id kind part.marks kids → has (or_id (shown_of kind) c) kids ≡ true
    by_kind (Root d) n = absurd n
    by_kind (Output o) n = has_row o.shown kids n.1
    by_kind (Space w) n = absurd n
    by_kind (Con d) n = absurd n

    by_test : (b : Bool) → same part.id c ≡ b → (in_row c rest ≡ true → has (or_id (kind_by shown_of (first_part (node_in c rest))) c) (first_kids (node_in c rest)) ≡ true) → (b || in_row c rest) ≡ true
        → has (or_id (kind_by shown_of (first_part (cond b (con part kids floats rest) (node_in c rest)))) c) (first_kids (cond b (con part kids floats rest) (node_in c rest))) ≡ true
    by_test true e f h = by_kind part.kind s.0
    by_test false e f h = f h

pub shown_has : (t : TreeValue) → IsSound t → has (shown t) t.nodes ≡ true
shown_has t s =
    has_kids (shown t) t.nodes (has_from (shown t) (current t) (first_kids t.nodes)
    (has_kids (shown t) (current_row t) (shown_there (current t) (first_kids t.nodes) (outputs_of t.nodes s.shaped) (current_there t.nodes s.shaped s.rooted))))

-- the focused node is in the tree
pub focus_there : (t : TreeValue) → IsSound t → has (focused t) t.nodes ≡ true
focus_there t s =
    held (shown_space t) t.recency (shown t) (λ i. has i t.nodes ≡ true)
    (λ i h. has_kids i t.nodes (has_from i (current t) (first_kids t.nodes) (has_kids i (current_row t) (has_from i (shown t) (first_kids (current_row t)) (has_alone i (node_in (shown t) (first_kids (current_row t))) h)))))
    (shown_has t s)

-- an id that is the focused one
pub focus_by : (t : TreeValue) (i : ConId) → i ≡ focused t → IsSound t → has i t.nodes ≡ true
focus_by t i e s = rw e (focus_there t s)

kids_alone : (f : Forest) → first_kids (first_alone f) ≡ first_kids f
kids_alone end = refl
kids_alone (con part kids floats rest) = refl

-- the outputs are the children of the root
pub root_kids : (f : Forest) → IsSoundRow roots false 0 f → in_row root f ≡ true → first_kids (only root f) ≡ first_kids f
root_kids f s h = rw (root_first f s h) (kids_alone f)
