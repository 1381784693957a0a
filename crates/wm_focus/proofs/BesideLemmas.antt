-- Neighbours in a row.
use Rattle.std.proofs.Common.{◌≡◌, Bool, true, false, cond, ◌||◌, Option, None, Some, refl, ap, sym, ◌∙◌, arith}
use Rattle.std.specs.Option.{option_or}
use Rattle.std.specs.Prelude.{option_and_then}
use Rattle.wm_base.specs.declared.geometry.Dir.{Dir}
use Rattle.wm_base.specs.declared.ids.ConId.{ConId}
use Rattle.wm_shared.proofs.DownLemmas.{Once, down_kids, down_rest, has_only, none, once_only, once_rest, only_below}
use Rattle.wm_shared.proofs.KidLemmas.{child_there}
use Rattle.wm_shared.proofs.NeighbourLemmas.{AreTwo, neighbour_two}
use Rattle.wm_focus.specs.declared.rungs.Aim.TheVariants.{Beside}
use Rattle.wm_focus.specs.Moves.{beside, neighbour_below}
use Rattle.wm_focus.specs.Rungs.{aimed, rung, runs}
use Rattle.wm_shared.specs.Neighbours.{neighbour}
use Rattle.wm_focus.specs.Walks.{neighbour_at}
use Rattle.wm_tree.proofs.AttachLemmas.{has_row}
use Rattle.wm_forest.proofs.CountLemmas.{counted}
use Rattle.wm_forest.proofs.ForestLemmas.{only_absent}
use Rattle.wm_forest.proofs.RecencyLemmas.{same_is, same_self}
use Rattle.wm_forest.specs.declared.part.NodeKind.{NodeKind}
use Rattle.wm_forest.specs.declared.part.NodeKind.TheVariants.{Root, Output, Space, Con}
use Rattle.wm_forest.specs.Forest.{Forest, end, con}
use Rattle.wm_forest.specs.Look.{has, in_row, only, same}
use Rattle.wm_forest.specs.SoundRow.{tally}
use Rattle.wm_tree.specs.TreeValue.{TreeValue, parent}
use Rattle.wm_forest.specs.Focus.{tiled_by, tiled_kids}

-- ---- the walk to the parent

abbrev seen : Bool → Option ConId → Option (Option ConId)
seen true b = Some b
seen false b = None

walk_seen : (d : Dir) (c p : ConId) (f : Forest) → neighbour_at d c p f ≡ seen (has p f) (neighbour_below d c (only p f))
walk_seen d c p end = refl
walk_seen d c p (con part kids floats rest) =
    step (same part.id p) (has p kids) (has p floats) (neighbour_at d c p kids) (neighbour_at d c p floats) (neighbour_at d c p rest) (walk_seen d c p kids) (walk_seen d c p floats) (walk_seen d c p rest)
  where
    step : (s k l : Bool) (x y z : Option (Option ConId)) → x ≡ seen k (neighbour_below d c (only p kids)) → y ≡ seen l (neighbour_below d c (only p floats)) → z ≡ seen (has p rest) (neighbour_below d c (only p rest))
        → cond s (Some (aimed Beside d (rung part.kind kids c))) (option_or x (option_or y z))
        ≡ seen (s || k || l || has p rest) (neighbour_below d c (cond s (con part kids floats end) (cond k (only p kids) (cond l (only p floats) (only p rest)))))
    step true k l x y z p q r = refl
    step false true l x y z p q r = ap (λ o. option_or o (option_or y z)) p
    step false false true x y z p q r = ap (λ o. option_or o (option_or y z)) p ∙ ap (λ o. option_or o z) q
    step false false false x y z p q r = ap (λ o. option_or o (option_or y z)) p ∙ ap (λ o. option_or o z) q ∙ r

pub walk_some : (d : Dir) (c p : ConId) (f : Forest) (x : Option ConId) → neighbour_at d c p f ≡ Some x → x ≡ neighbour_below d c (only p f)
walk_some d c p f x h = by (has p f) (sym (walk_seen d c p f) ∙ h) where
  by : (b : Bool) → seen b (neighbour_below d c (only p f)) ≡ Some x → x ≡ neighbour_below d c (only p f)
  by true e = cc
  by false e = cc

pub walk_none : (d : Dir) (c p : ConId) (f : Forest) → neighbour_at d c p f ≡ None → None ≡ neighbour_below d c (only p f)
walk_none d c p f h = by (has p f) refl (sym (walk_seen d c p f) ∙ h) where
  by : (b : Bool) → has p f ≡ b → seen b (neighbour_below d c (only p f)) ≡ None → None ≡ neighbour_below d c (only p f)
  by true a e = cc
  by false a e = sym (ap (neighbour_below d c) (only_absent p f a))

-- the walk from the parent is what stands beside the node
pub beside_is : (d : Dir) (c p : ConId) (t : TreeValue) → parent t c ≡ Some p → neighbour_below d c (only p t.nodes) ≡ beside d c t
beside_is d c p t h = ap (option_and_then (λ (q : ConId). neighbour_below d c (only q t.nodes))) (sym h)

pub beside_some : (d : Dir) (c p : ConId) (t : TreeValue) (row : Forest) (x : Option ConId) → row ≡ t.nodes → parent t c ≡ Some p → neighbour_at d c p row ≡ Some x → x ≡ beside d c t
beside_some d c p t row x e h k = walk_some d c p row x k ∙ (ap (λ f. neighbour_below d c (only p f)) e ∙ beside_is d c p t h)

pub beside_none : (d : Dir) (c p : ConId) (t : TreeValue) (row : Forest) → row ≡ t.nodes → parent t c ≡ Some p → neighbour_at d c p row ≡ None → None ≡ beside d c t
beside_none d c p t row e h k = walk_none d c p row k ∙ (ap (λ f. neighbour_below d c (only p f)) e ∙ beside_is d c p t h)

-- ---- two nodes of a row

runs_two : (d : Dir) (c n : ConId) (kind : NodeKind) (kids : Forest) → Once kids → aimed Beside d (rung kind kids c) ≡ Some n → AreTwo c n (tiled_by kind kids)
runs_two d c n (Root r) kids once h = cc
runs_two d c n (Output o) kids once h = cc
runs_two d c n (Space s) kids once h = step (runs d (Space s)) h where
  step : (b : Bool) → cond b (neighbour d c kids) None ≡ Some n → AreTwo c n kids
  step true h = neighbour_two d c n kids once h
  step false h = cc
runs_two d c n (Con k) kids once h = step (runs d (Con k)) h where
  step : (b : Bool) → cond b (neighbour d c kids) None ≡ Some n → AreTwo c n kids
  step true h = neighbour_two d c n kids once h
  step false h = cc

pub below_two : (d : Dir) (c n : ConId) (f : Forest) → Once f → neighbour_below d c f ≡ Some n → AreTwo c n (tiled_kids f)
below_two d c n end once h = cc
below_two d c n (con part kids floats rest) once h = runs_two d c n part.kind kids (λ i. omega (arith, once i)) h

-- ---- nothing is below two nodes of a row

row_apart : (c n x : ConId) (row : Forest) → Once row → AreTwo c n row → has x (only n row) ≡ true → has x (only c row) ≡ false
row_apart c n x end once t h = cc
row_apart c n x (con part kids floats rest) once t h =
    step (same part.id c) (same part.id n) refl refl t.first t.second (λ p q. row_apart c n x rest (once_rest part kids floats rest once) (record { first = p; second = q; two = t.two }))
  where
    node : Forest
    node = con part kids floats rest

    absent : (g : Forest) (b : Bool) → has x g ≡ b → tally x g ≡ 0 → has x g ≡ false
    absent g b e z = none x g z

    step : (a b : Bool) → same part.id c ≡ a → same part.id n ≡ b → (a || in_row c rest) ≡ true → (b || in_row n rest) ≡ true
        → (in_row c rest ≡ true → in_row n rest ≡ true → has x (only n rest) ≡ true → has x (only c rest) ≡ false) → has x (only c node) ≡ false
    step true true ea eb p q r =
        let one : same c n ≡ true = same_self c n (sym (same_is part.id c ea) ∙ same_is part.id n eb) in
        let other = t.two in
        absurd (cc)
    step true false ea eb p q r =
        let behind = has_only x n rest (ap (has x) (sym (down_rest part kids floats rest once n (has_row n rest q))) ∙ h) in
        let clear : has x (con part kids floats end) ≡ false = none x (con part kids floats end) (omega (arith, once x, counted x rest behind)) in
        rw ea clear
    step false true ea eb p q r =
        let here : has x (con part kids floats end) ≡ true = rw eb at h in
        let clear = none x rest (omega (arith, once x, counted x (con part kids floats end) here)) in
        rw (down_rest part kids floats rest once c (has_row c rest p)) (by (has x (only c rest)) refl clear)
      where
        by : (e : Bool) → has x (only c rest) ≡ e → has x rest ≡ false → has x (only c rest) ≡ false
        by false e z = e
        by true e z = let k = has_only x c rest e in absurd (cc)
    step false false ea eb p q r =
        rw (down_rest part kids floats rest once c (has_row c rest p)) (r p q (ap (has x) (sym (down_rest part kids floats rest once n (has_row n rest q))) ∙ h))

-- what is found among the children of a node
only_child : (i : ConId) (f : Forest) → Once f → in_row i (tiled_kids f) ≡ true → only i f ≡ only i (tiled_kids f)
only_child i end once h = refl
only_child i (con part kids floats rest) once h = by_kind part.kind refl h where
  by_kind : (kind : NodeKind) → part.kind ≡ kind → in_row i (tiled_by kind kids) ≡ true → only i (con part kids floats rest) ≡ only i (tiled_by kind kids)
  by_kind (Root c) e h = cc
  by_kind (Output o) e h = cc
  by_kind (Space s) e h = down_kids part kids floats rest once i (has_row i kids h)
  by_kind (Con c) e h = down_kids part kids floats rest once i (has_row i kids h)

kids_once : (f : Forest) → Once f → Once (tiled_kids f)
kids_once end once = once
kids_once (con part kids floats rest) once = by_kind part.kind where
  by_kind : (kind : NodeKind) → Once (tiled_by kind kids)
  by_kind (Root c) = λ i. omega arith
  by_kind (Output o) = λ i. omega arith
  by_kind (Space s) = λ i. omega (arith, once i)
  by_kind (Con c) = λ i. omega (arith, once i)

-- nothing is below two children of a node
pub apart_below : (p c n x : ConId) (f : Forest) → Once f → AreTwo c n (tiled_kids (only p f)) → has x (only n f) ≡ true → has x (only c f) ≡ false
apart_below p c n x f once t h =
    let g : Forest = only p f in
    let g_once = once_only p f once in
    let found : (i : ConId) → in_row i (tiled_kids g) ≡ true → only i f ≡ only i (tiled_kids g) =
    λ i h. sym (only_below i p f once (child_there i g h)) ∙ only_child i g g_once h in
    rw (found c t.first) (row_apart c n x (tiled_kids g) (kids_once g g_once) t (rw (found n t.second) at h))
