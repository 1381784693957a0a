-- The tiled containers above a node that are found at its rungs.
use Rattle.std.proofs.Common.{◌≡◌, ℕ, Bool, true, false, cond, [], ◌∷◌, ◌++◌, Option, None, Some, refl, ap, sym, ◌∙◌}
use Rattle.std.specs.Option.{option_or}
use Rattle.wm_base.specs.declared.geometry.Dir.{Dir}
use Rattle.wm_base.specs.declared.ids.ConId.{ConId}
use Rattle.wm_shared.proofs.DownLemmas.{Once, down_floats, down_kids, down_rest, once_floats, once_kids, once_rest}
use Rattle.wm_focus.proofs.RungLemmas.{first_aimed-append, holder_is}
use Rattle.wm_focus.specs.declared.rungs.Aim.TheVariants.{Out}
use Rattle.wm_focus.specs.Rungs.{first_aimed, nearest, rung, rungs, runs}
use Rattle.wm_forest.specs.declared.part.NodeKind.{NodeKind}
use Rattle.wm_forest.specs.declared.part.NodeKind.TheVariants.{Root, Output, Space, Con}
use Rattle.wm_forest.specs.Forest.{Forest, end, con}
use Rattle.wm_forest.specs.Look.{has, in_row, only, same}
use Rattle.wm_forest.specs.SoundRow.{IsSoundRow, Level, below, containers}
use Rattle.wm_forest.specs.Spot.{room_below}
use Rattle.wm_tree.specs.TreeValue.{or_id}
use Rattle.wm_forest.specs.Focus.{row_holder, tiled_by}
use Rattle.wm_shared.proofs.KidLemmas.{IsKid, child_kid, holder_holds, kid_floats, kid_kids, kid_rest, kid_there}

runs_tiled : (d : Dir) (kind : NodeKind) (kids : Forest) → runs d kind ≡ true → tiled_by kind kids ≡ kids
runs_tiled d (Root c) kids h = cc
runs_tiled d (Output o) kids h = cc
runs_tiled d (Space s) kids h = refl
runs_tiled d (Con c) kids h = refl

-- a tiled container that holds p
abbrev pub IsAbove : Bool → ConId → ConId → Forest → Type 0
IsAbove b p x f = IsKid b x f × (has p (only x f) ≡ true)

-- the child that is found above p is a tiled container that holds it
pub out_above : (d : Dir) (p x : ConId) (l : Level) (b : Bool) (room : ℕ) (f : Forest) → IsSoundRow l b room f → Once f → nearest Out d p f ≡ Some x → IsAbove b p x f
out_above d p x l b room end s once h = cc
out_above d p x l b room (con part kids floats rest) s once h =
    step (same part.id p) (has p kids) (has p floats) refl (out_above d p x (below l) true (room_below room part.kind) kids s.2 (once_kids part kids floats rest once))
    (out_above d p x containers false (room_below room part.kind) floats s.3 (once_floats part kids floats rest once)) (out_above d p x l b room rest s.4 (once_rest part kids floats rest once)) h
  where
    up_kids : IsAbove true p x kids → IsAbove b p x (con part kids floats rest)
    up_kids k = (kid_kids part kids floats rest once b x k.0, rw (down_kids part kids floats rest once x (kid_there true x kids k.0)) k.1)

    here : (r : Bool) → runs d part.kind ≡ r → has p kids ≡ true → option_or (cond r (Some (or_id (row_holder p kids) p)) None) None ≡ Some x → IsAbove true p x kids
    here false e k h = cc
    here true e k h =
        let held = holder_is p kids k in
        let one : held.0 ≡ x = let z : Some (or_id (row_holder p kids) p) ≡ Some held.0 = ap (λ (o : Option ConId). Some (or_id o p)) held.1 in cc in
        let y = holder_holds p x kids (once_kids part kids floats rest once) (held.1 ∙ ap (λ (z : ConId). Some z) one) in
        (child_kid x l b room part kids floats rest s once (ap (in_row x) (runs_tiled d part.kind kids e) ∙ y.0), y.1)

    from_kids : (o : Option ConId) → nearest Out d p kids ≡ o → has p kids ≡ true → (nearest Out d p kids ≡ Some x → IsAbove true p x kids)
        → option_or o (first_aimed Out d (rung part.kind kids (or_id (row_holder p kids) p) ∷ [])) ≡ Some x → IsAbove true p x kids
    from_kids (Some y) e k u h = u (e ∙ h)
    from_kids None e k u h = here (runs d part.kind) refl k h

    step : (a k m : Bool) → has p kids ≡ k → (nearest Out d p kids ≡ Some x → IsAbove true p x kids) → (nearest Out d p floats ≡ Some x → IsAbove false p x floats) → (nearest Out d p rest ≡ Some x → IsAbove b p x rest)
        → first_aimed Out d (cond a [] (cond k (rungs p kids ++ rung part.kind kids (or_id (row_holder p kids) p) ∷ []) (cond m (rungs p floats) (rungs p rest)))) ≡ Some x → IsAbove b p x (con part kids floats rest)
    step true k m e u v w h = cc
    step false true m e u v w h = up_kids (from_kids (nearest Out d p kids) refl e u (sym (first_aimed-append Out d (rungs p kids) (rung part.kind kids (or_id (row_holder p kids) p) ∷ [])) ∙ h))
    step false false true e u v w h = let k = v h in (kid_floats part kids floats rest once b x k.0, rw (down_floats part kids floats rest once x (kid_there false x floats k.0)) k.1)
    step false false false e u v w h = let k = w h in (kid_rest part kids floats rest once b x k.0, rw (down_rest part kids floats rest once x (kid_there b x rest k.0)) k.1)
