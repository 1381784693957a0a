-- What focusing raises is tiled or a workspace, and so nothing else changes.
use Rattle.std.proofs.Common.{◌≡◌, Bool, true, false, cond, ◌||◌, ◌⊎◌, inl, inr, List, [], ◌∷◌, ◌++◌, Option, None, Some, refl, ap, sym, ◌∙◌}
use Rattle.std.specs.Option.{option_or}
use Rattle.wm_base.specs.declared.geometry.Dir.{Dir}
use Rattle.wm_base.specs.declared.ids.ConId.{ConId}
use Rattle.wm_shared.proofs.NeighbourLemmas.{first_there, neighbour_two, right}
use Rattle.wm_shared.proofs.DownLemmas.{Once, in_floats, in_kids, in_rest, once_floats, once_kids, once_only, once_rest}
use Rattle.wm_shared.proofs.KidLemmas.{holder_in_row, kid_of, spot_tiled, tiled_in}
use Rattle.law_commands.proofs.RaiseKeeps.{Stands, raise_differs}
use Rattle.wm_focus.proofs.RungLemmas.{first_aimed-append, holder_is}
use Rattle.wm_focus.proofs.SubjectLemmas.{tiled_is}
use Rattle.wm_focus.proofs.MoveGoals.{chained}
use Rattle.wm_focus.proofs.TurnLemmas.{heads, heads_only}
use Rattle.wm_floats.specs.Rounds.{focus_round_tree}
use Rattle.wm_focus.specs.declared.direction.Goal.TheVariants.{Node}
use Rattle.wm_focus.specs.Direction.{first_goal, focus_dir_tree, focusing_some, goal_of, gone_to}
use Rattle.law_commands.specs.Focusing.{ChildKeeps, DifferInFocus, DirectionKeeps, ParentKeeps}
use Rattle.wm_focus.specs.Parents.{raised_some}
use Rattle.wm_focus.specs.Rungs.{aimed, far_end, first_aimed, nearest, rung, rungs, runs}
use Rattle.wm_shared.specs.Neighbours.{first_id, is_forward, last_id, neighbour}
use Rattle.wm_shared.specs.Outputs.{output_from}
use Rattle.wm_shared.specs.Subject.{is_space}
use Rattle.wm_focus.specs.declared.rungs.Aim.{Aim}
use Rattle.wm_focus.specs.declared.rungs.Aim.TheVariants.{Around, Beside, Out}
use Rattle.wm_tree.proofs.AttachLemmas.{has_row}
use Rattle.wm_forest.proofs.RecencyLemmas.{same_is, same_self}
use Rattle.wm_forest.specs.Change.{is_end}
use Rattle.wm_forest.specs.declared.part.NodeKind.{NodeKind}
use Rattle.wm_forest.specs.declared.part.NodeKind.TheVariants.{Root, Output, Space, Con}
use Rattle.wm_forest.specs.declared.part.Part.{Part}
use Rattle.wm_forest.specs.Forest.{Forest, end, con}
use Rattle.wm_forest.specs.Look.{first_kids, has, in_row, only, rest_of, same}
use Rattle.wm_forest.specs.Recency.{first_held}
use Rattle.wm_tree.specs.Sound.{IsSound}
use Rattle.wm_forest.specs.SoundRow.{roots}
use Rattle.wm_forest.specs.Spot.{top}
use Rattle.wm_tree.specs.Words.{with_raised}
use Rattle.wm_tree.specs.TreeValue.{TreeValue, focused_child, leaf, is_tiled_con, or_id, parent, workspace_of}
use Rattle.wm_forest.specs.Focus.{follow, leaf_at, leaf_of, row_holder, tiled_by, tiled_kids}

-- ---- tiled nodes

-- a node of the row itself is tiled where the row is
row_tiled : (x : ConId) (b : Bool) (row : Forest) → Once row → in_row x row ≡ true → tiled_in b x row ≡ b
row_tiled x b end once h = cc
row_tiled x b (con part kids floats rest) once h = step (same part.id x) refl (row_tiled x b rest (once_rest part kids floats rest once)) h where
  step : (a : Bool) → same part.id x ≡ a → (in_row x rest ≡ true → tiled_in b x rest ≡ b) → (a || in_row x rest) ≡ true → tiled_in b x (con part kids floats rest) ≡ b
  step true e p h = rw e refl
  step false e p h = let n = in_rest part kids floats rest once x (has_row x rest h) in rw (n.0, n.1, n.2) (p h)

-- what is tiled is there
tiled_has : (x : ConId) (b : Bool) (f : Forest) → tiled_in b x f ≡ true → has x f ≡ true
tiled_has x b end h = cc
tiled_has x b (con part kids floats rest) h = step (same part.id x) (has x kids) (has x floats) (tiled_has x b rest) h where
  step : (a k l : Bool) → (tiled_in b x rest ≡ true → has x rest ≡ true) → cond a b (cond k (tiled_in true x kids) (cond l (tiled_in false x floats) (tiled_in b x rest))) ≡ true → (a || k || l || has x rest) ≡ true
  step true k l p h = refl
  step false true l p h = refl
  step false false true p h = refl
  step false false false p h = p h

module _ (x : ConId) (b : Bool) (part : Part) (kids floats rest : Forest) (once : Once (con part kids floats rest)) where
  up_kids : tiled_in true x kids ≡ true → tiled_in b x (con part kids floats rest) ≡ true
  up_kids h = let e = tiled_has x true kids h in rw (in_kids part kids floats rest once x e, e) h

  up_floats : tiled_in false x floats ≡ true → tiled_in b x (con part kids floats rest) ≡ true
  up_floats h =
      let e = tiled_has x false floats h in
      let n = in_floats part kids floats rest once x e in
      rw (n.0, n.1, e) h

  up_rest : tiled_in b x rest ≡ true → tiled_in b x (con part kids floats rest) ≡ true
  up_rest h = let n = in_rest part kids floats rest once x (tiled_has x b rest h) in rw (n.0, n.1, n.2) h

-- what is tiled below a node is tiled
below_tiled : (w x : ConId) (b : Bool) (f : Forest) → Once f → tiled_in true x (first_kids (only w f)) ≡ true → tiled_in b x f ≡ true
below_tiled w x b end once h = cc
below_tiled w x b (con part kids floats rest) once h =
    step (same part.id w) (has w kids) (has w floats) (below_tiled w x true kids (once_kids part kids floats rest once)) (below_tiled w x false floats (once_floats part kids floats rest once)) (below_tiled w x b rest (once_rest part kids floats rest once)) h
  where
    step : (a k l : Bool) → (tiled_in true x (first_kids (only w kids)) ≡ true → tiled_in true x kids ≡ true) → (tiled_in true x (first_kids (only w floats)) ≡ true → tiled_in false x floats ≡ true)
        → (tiled_in true x (first_kids (only w rest)) ≡ true → tiled_in b x rest ≡ true) → tiled_in true x (first_kids (cond a (con part kids floats end) (cond k (only w kids) (cond l (only w floats) (only w rest))))) ≡ true
        → tiled_in b x (con part kids floats rest) ≡ true
    step true k l p q r h = up_kids x b part kids floats rest once h
    step false true l p q r h = up_kids x b part kids floats rest once (p h)
    step false false true p q r h = up_floats x b part kids floats rest once (q h)
    step false false false p q r h = up_rest x b part kids floats rest once (r h)

-- ---- what is found above

last_there : (x : ConId) (row : Forest) → last_id row ≡ Some x → in_row x row ≡ true
last_there x end h = cc
last_there x (con part kids floats rest) h = step (last_id rest) (last_there x rest) h where
  step : (o : Option ConId) → (o ≡ Some x → in_row x rest ≡ true) → option_or o (Some part.id) ≡ Some x → in_row x (con part kids floats rest) ≡ true
  step None p h = let one : part.id ≡ x = cc in rw (same_self part.id x one) refl
  step (Some y) p h = right (same part.id x) (in_row x rest) (p h)

far_there : (d : Dir) (x : ConId) (row : Forest) → far_end d row ≡ Some x → in_row x row ≡ true
far_there d x row h = step (is_end (rest_of row)) (is_forward d) h where
  step : (a b : Bool) → cond a None (cond b (first_id row) (last_id row)) ≡ Some x → in_row x row ≡ true
  step true b h = cc
  step false true h = first_there x row h
  step false false h = last_there x row h

-- what is aimed at stands among the children
aimed_there : (aim : Aim) (d : Dir) (x child : ConId) (kind : NodeKind) (kids : Forest) → Once kids → in_row child kids ≡ true → aimed aim d (rung kind kids child) ≡ Some x → in_row x kids ≡ true
aimed_there Beside d x child kind kids once t h = step (runs d kind) h where
  step : (b : Bool) → cond b (neighbour d child kids) None ≡ Some x → in_row x kids ≡ true
  step true h = (neighbour_two d child x kids once h).second
  step false h = cc
aimed_there Around d x child kind kids once t h = step (runs d kind) h where
  step : (b : Bool) → cond b (far_end d kids) None ≡ Some x → in_row x kids ≡ true
  step true h = far_there d x kids h
  step false h = cc
aimed_there Out d x child kind kids once t h = step (runs d kind) h where
  step : (b : Bool) → cond b (Some child) None ≡ Some x → in_row x kids ≡ true
  step true h = let one : child ≡ x = cc in rw (← one) t
  step false h = cc

near_tiled : (aim : Aim) (d : Dir) (c x : ConId) (b : Bool) (f : Forest) → Once f → nearest aim d c f ≡ Some x → tiled_in b x f ≡ true
near_tiled aim d c x b end once h = cc
near_tiled aim d c x b (con part kids floats rest) once h =
    step (same part.id c) (has c kids) (has c floats) refl (near_tiled aim d c x true kids (once_kids part kids floats rest once)) (near_tiled aim d c x false floats (once_floats part kids floats rest once)) (near_tiled aim d c x b rest (once_rest part kids floats rest once)) h
  where
    own : ConId
    own = or_id (row_holder c kids) c

    plain : (o : Option ConId) → option_or o None ≡ o
    plain None = refl
    plain (Some y) = refl

    here : has c kids ≡ true → aimed aim d (rung part.kind kids own) ≡ Some x → tiled_in true x kids ≡ true
    here k h =
        let held = holder_is c kids k in
        let stands : in_row own kids ≡ true = ap (λ o. in_row (or_id o c) kids) held.1 ∙ holder_in_row c held.0 kids held.1 in
        row_tiled x true kids (once_kids part kids floats rest once) (aimed_there aim d x own part.kind kids (once_kids part kids floats rest once) stands h)

    from_kids : (o : Option ConId) → nearest aim d c kids ≡ o → has c kids ≡ true → (nearest aim d c kids ≡ Some x → tiled_in true x kids ≡ true)
        → option_or o (first_aimed aim d (rung part.kind kids own ∷ [])) ≡ Some x → tiled_in true x kids ≡ true
    from_kids (Some y) e k u h = u (e ∙ h)
    from_kids None e k u h = here k (sym (plain (aimed aim d (rung part.kind kids own))) ∙ h)

    step : (a k m : Bool) → has c kids ≡ k → (nearest aim d c kids ≡ Some x → tiled_in true x kids ≡ true) → (nearest aim d c floats ≡ Some x → tiled_in false x floats ≡ true) → (nearest aim d c rest ≡ Some x → tiled_in b x rest ≡ true)
        → first_aimed aim d (cond a [] (cond k (rungs c kids ++ rung part.kind kids own ∷ []) (cond m (rungs c floats) (rungs c rest)))) ≡ Some x → tiled_in b x (con part kids floats rest) ≡ true
    step true k m e u v w h = cc
    step false true m e u v w h = up_kids x b part kids floats rest once (from_kids (nearest aim d c kids) refl e u (sym (first_aimed-append aim d (rungs c kids) (rung part.kind kids own ∷ [])) ∙ h))
    step false false true e u v w h = up_floats x b part kids floats rest once (v h)
    step false false false e u v w h = up_rest x b part kids floats rest once (w h)

-- ---- leaves

first_has : (f : Forest) (ids : List ConId) (y : ConId) → first_held f ids ≡ Some y → has y f ≡ true
first_has f [] y h = cc
first_has f (id ∷ ids) y h = step (has id f) refl (first_has f ids y) h where
  step : (b : Bool) → has id f ≡ b → (first_held f ids ≡ Some y → has y f ≡ true) → cond b (Some id) (first_held f ids) ≡ Some y → has y f ≡ true
  step true e p h = let one : id ≡ y = cc in rw (← one) e
  step false e p h = p h

leaf_tiled : (ids : List ConId) (row : Forest) (c : ConId) → Once row → has c row ≡ true → tiled_in true (leaf_at ids row c) row ≡ true
leaf_tiled ids end c once h = cc
leaf_tiled ids (con part kids floats rest) c once h =
    step (has c (con part kids floats end)) (has c rest) (whole (same part.id c) (has c kids) (has c floats) (has c rest) h) (λ y. leaf_tiled ids kids y (once_kids part kids floats rest once)) (leaf_tiled ids rest c (once_rest part kids floats rest once))
  where
    whole : (a k l r : Bool) → (a || k || l || r) ≡ true → ((a || k || l || false) || r) ≡ true
    whole true k l r h = refl
    whole false true l r h = refl
    whole false false true r h = refl
    whole false false false r h = h

    down : ((y : ConId) → has y kids ≡ true → tiled_in true (leaf_at ids kids y) kids ≡ true) → (o : Option ConId) → first_held kids ids ≡ o → tiled_in true (follow part.id (leaf_at ids kids) o) (con part kids floats rest) ≡ true
    down p None e = rw (same_self part.id part.id refl) refl
    down p (Some y) e = up_kids (leaf_at ids kids y) true part kids floats rest once (p y (first_has kids ids y e))

    step : (a r : Bool) → (a || r) ≡ true → ((y : ConId) → has y kids ≡ true → tiled_in true (leaf_at ids kids y) kids ≡ true) → (r ≡ true → tiled_in true (leaf_at ids rest c) rest ≡ true)
        → tiled_in true (cond a (follow part.id (leaf_at ids kids) (first_held kids ids)) (leaf_at ids rest c)) (con part kids floats rest) ≡ true
    step true r h p q = down p (first_held kids ids) refl
    step false r h p q = up_rest (leaf_at ids rest c) true part kids floats rest once (q h)

tiled_kids_has : (y : ConId) (kind : NodeKind) (kids : Forest) → has y (tiled_by kind kids) ≡ true → has y kids ≡ true
tiled_kids_has y (Root c) kids h = cc
tiled_kids_has y (Output o) kids h = cc
tiled_kids_has y (Space s) kids h = h
tiled_kids_has y (Con c) kids h = h

-- the leaf of what is tiled is tiled
leaf_stands : (g x : ConId) (t : TreeValue) → IsSound t → tiled_in false g t.nodes ≡ true → leaf t g ≡ Some x → tiled_in false x t.nodes ≡ true
leaf_stands g x t s own h = by (only g t.nodes) (once_only g t.nodes s.once) refl (heads_only g t.nodes (tiled_has g false t.nodes own)) h where
  by : (found : Forest) → Once found → only g t.nodes ≡ found → heads g (only g t.nodes) ≡ true → leaf_of t.recency found ≡ Some x → tiled_in false x t.nodes ≡ true
  by end once e first h = cc
  by (con part kids floats rest) once e first h = step (first_held (tiled_by part.kind kids) t.recency) refl h where
    step : (o : Option ConId) → first_held (tiled_by part.kind kids) t.recency ≡ o → Some (follow part.id (leaf_at t.recency kids) o) ≡ Some x → tiled_in false x t.nodes ≡ true
    step None p h =
        let one : part.id ≡ x = cc in
        let it : part.id ≡ g = same_is part.id g (rw e at first) in
        rw (← one) (rw it own)
    step (Some y) p h =
        let one : leaf_at t.recency kids y ≡ x = cc in
        let there = tiled_kids_has y part.kind kids (first_has (tiled_by part.kind kids) t.recency y p) in
        let low = leaf_tiled t.recency kids y (once_kids part kids floats rest once) there in
        below_tiled g x false t.nodes s.once (rw e (rw (← one) low))

-- ---- the laws

raised_differs : (x : ConId) (o : Option ConId) (t : TreeValue) → IsSound t → o ≡ Some x → Stands x t → DifferInFocus (workspace_of t x) t (raised_some o t)
raised_differs x None t s e stands = cc
raised_differs x (Some y) t s e stands = let one : y ≡ x = cc in rw one (raise_differs x t s stands)

pub child_keeps : ChildKeeps
child_keeps c x t s h =
    let row : Forest = tiled_kids (only c t.nodes) in
    let k = chained (λ (y : ConId). row_holder y row) (first_held row t.recency) x h in
    raised_differs x (focused_child t c) t s h (inl (kid_of c x roots false 0 t.nodes s.shaped s.once (holder_in_row k.0 x row k.2)).1)

-- the goal is found beside the nodes above, or round them
goal_tiled : (d : Dir) (c g : ConId) (t : TreeValue) → IsSound t → goal_of d c t ≡ Some (Node g) → tiled_in false g t.nodes ≡ true
goal_tiled d c g t s h = step (nearest Beside d c t.nodes) (output_from d c t) (nearest Around d c t.nodes) refl refl h where
  step : (o p q : Option ConId) → nearest Beside d c t.nodes ≡ o → nearest Around d c t.nodes ≡ q → first_goal o p q ≡ Some (Node g) → tiled_in false g t.nodes ≡ true
  step (Some y) p q e f h = let one : y ≡ g = cc in near_tiled Beside d c g false t.nodes s.once (e ∙ ap (λ (z : ConId). Some z) one)
  step None (Some y) q e f h = cc
  step None None (Some y) e f h = let one : y ≡ g = cc in near_tiled Around d c g false t.nodes s.once (f ∙ ap (λ (z : ConId). Some z) one)
  step None None None e f h = cc

pub direction_keeps : DirectionKeeps
direction_keeps c n x d t s own h l same_shown =
    let new : focus_dir_tree c d t ≡ with_raised x t = ap (λ b. cond b (focus_round_tree c d t) (gone_to (goal_of d c t) t)) own ∙ ap (λ g. gone_to g t) h ∙ (ap (λ o. focusing_some o t) l ∙ ap (with_raised x) same_shown) in
    let stands = leaf_stands n x t s (goal_tiled d c n t s h) l in
    rw new (raise_differs x t s (inl stands))

pub parent_keeps : ParentKeeps
parent_keeps c x t s h stands = raised_differs x (parent t c) t s h (by stands) where
  by : (is_tiled_con t x ≡ true) ⊎ (is_space t x ≡ true) → Stands x t
  by (inl e) = inl (sym (spot_tiled x top t.nodes) ∙ (tiled_is t x e).1)
  by (inr e) = inr e
