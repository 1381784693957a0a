-- Lemmas on looking in a forest and changing it.
use Rattle.std.proofs.Common.{◌≡◌, Bool, true, false, ◌||◌, List, [], ◌∷◌, None, cond, refl, ap}
use Rattle.wm_base.specs.declared.ids.ConId.{ConId}
use Rattle.wm_forest.specs.declared.part.Part.{Part}
use Rattle.wm_forest.specs.Forest.{Forest, end, con}
use Rattle.wm_forest.specs.Look.{same, has, only, in_row, node_in, first_alone}
use Rattle.wm_forest.specs.Change.{at, append, to_end}
use Rattle.wm_forest.specs.Counts.{but}
use Rattle.wm_forest.specs.Recency.{first_held, outside}

-- neither holds where the choice does not
pub or_false : (x y : Bool) → (x || y) ≡ false → (x ≡ false) × (y ≡ false)
or_false true y h = cc
or_false false y h = (refl, h)

-- where the node is not there, nothing changes
pub at_absent : {X : Type 0} (c : ConId) (f : X → Part → Forest → Forest → Forest → Forest) (x : X) (forest : Forest) → has c forest ≡ false → at c f x forest ≡ forest
at_absent c f x end h = refl
at_absent c f x (con part kids floats rest) h =
    let r = or_false (same part.id c || has c kids || has c floats) (has c rest) h in
    let q = or_false (same part.id c || has c kids) (has c floats) r.0 in
    let p = or_false (same part.id c) (has c kids) q.0 in
    rw (p.0, p.1, q.1) (ap (λ z. con part kids floats z) (at_absent c f x rest r.1))

-- where the node is not there, there is nothing of it
pub only_absent : (c : ConId) (forest : Forest) → has c forest ≡ false → only c forest ≡ end
only_absent c end h = refl
only_absent c (con part kids floats rest) h =
    let r = or_false (same part.id c || has c kids || has c floats) (has c rest) h in
    let q = or_false (same part.id c || has c kids) (has c floats) r.0 in
    let p = or_false (same part.id c) (has c kids) q.0 in
    rw (p.0, p.1, q.1) (only_absent c rest r.1)

-- a row that has not the node is as before
pub but_absent : (c : ConId) (row : Forest) → in_row c row ≡ false → but c row ≡ row
but_absent c end h = refl
but_absent c (con part kids floats rest) h =
    let p = or_false (same part.id c) (in_row c rest) h in
    rw p.0 (ap (λ z. con part kids floats z) (but_absent c rest p.1))

pub node_in_absent : (c : ConId) (row : Forest) → in_row c row ≡ false → node_in c row ≡ end
node_in_absent c end h = refl
node_in_absent c (con part kids floats rest) h =
    let p = or_false (same part.id c) (in_row c rest) h in
    rw p.0 (node_in_absent c rest p.1)

pub append_end : (row : Forest) → append row end ≡ row
append_end end = refl
append_end (con part kids floats rest) = ap (λ z. con part kids floats z) (append_end rest)

-- what is taken out of a row and put behind it, is its end
pub to_end_absent : (c : ConId) (row : Forest) → append (but c row) (first_alone (node_in c row)) ≡ to_end c row
to_end_absent c row = by_test (in_row c row) refl
  where
    by_test : (b : Bool) → in_row c row ≡ b → append (but c row) (first_alone (node_in c row)) ≡ to_end c row
    by_test true e = rw e refl
    by_test false e = rw (e, node_in_absent c row e, but_absent c row e, append_end row) refl

-- an empty row holds none of the ids
pub first_held_end : (ids : List ConId) → first_held end ids ≡ None
first_held_end [] = refl
first_held_end (id ∷ ids) = first_held_end ids

-- an empty row holds none of the ids
pub outside_end : (ids : List ConId) → outside end ids ≡ ids
outside_end [] = refl
outside_end (id ∷ ids) = ap (λ z. id ∷ z) (outside_end ids)

same_step : {A : Type 0} (a k l : Bool) (x x' y y' z z' w w' : A) → x ≡ x' → y ≡ y' → z ≡ z' → w ≡ w' → cond a x (cond k y (cond l z w)) ≡ cond a x' (cond k y' (cond l z' w'))
same_step true k l x x' y y' z z' w w' p q r s = p
same_step false true l x x' y y' z z' w w' p q r s = q
same_step false false true x x' y y' z z' w w' p q r s = r
same_step false false false x x' y y' z z' w w' p q r s = s

-- two ways to say one change
pub at_same : {X Y : Type 0} (c : ConId) (f : X → Part → Forest → Forest → Forest → Forest) (x : X) (g : Y → Part → Forest → Forest → Forest → Forest) (y : Y) (forest : Forest)
    → ((part : Part) (kids floats rest : Forest) → f x part kids floats rest ≡ g y part kids floats rest) → at c f x forest ≡ at c g y forest
at_same c f x g y end e = refl
at_same c f x g y (con part kids floats rest) e =
    same_step (same part.id c) (has c kids) (has c floats) _ _ _ _ _ _ _ _
    (e part kids floats rest)
    (ap (λ z. con part z floats rest) (at_same c f x g y kids e))
    (ap (λ z. con part kids z rest) (at_same c f x g y floats e))
    (ap (λ z. con part kids floats z) (at_same c f x g y rest e))
