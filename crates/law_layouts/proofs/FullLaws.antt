-- `fullscreen toggle` twice, where another container of the workspace may be fullscreen.
use Rattle.std.proofs.Common.{◌≡◌, Bool, true, false, cond, not, Option, None, Some, refl, ap, sym, ◌∙◌}
use Rattle.std.specs.Option.{option_map}
use Rattle.law_layouts.proofs.NodeChanges.{has_kinded, kinded, part_kinded}
use Rattle.law_layouts.proofs.RaiseLooks.{Looks, node_looks, same_looks, unfull_looks}
use Rattle.law_layouts.proofs.StateChanges.{restated_is, state_alike, state_same, state_twice, stated, with_state, workspace_kept}
use Rattle.law_layouts.specs.Switches.{FullTogglesTwice, full_toggled, is_fullscreen}
use Rattle.wm_base.specs.declared.ids.ConId.{ConId}
use Rattle.wm_floats.specs.Fullscreen.{fullscreen_tree, others_unfull, unfull_but}
use Rattle.wm_floats.specs.Windows.{full_set, restated, state_of}
use Rattle.wm_forest.specs.Change.{at, unfull}
use Rattle.wm_forest.specs.declared.part.ConPart.{ConPart}
use Rattle.wm_forest.specs.declared.part.ConState.{ConState}
use Rattle.wm_forest.specs.declared.part.NodeKind.{NodeKind}
use Rattle.wm_forest.specs.declared.part.NodeKind.TheVariants.{Root, Output, Space, Con}
use Rattle.wm_forest.specs.declared.part.Part.{Part}
use Rattle.wm_forest.specs.declared.spot.Spot.{Spot}
use Rattle.wm_forest.specs.Forest.{Forest, end, con}
use Rattle.wm_forest.specs.Look.{con_kind, first_part, has, kind_by, only, same}
use Rattle.wm_forest.specs.Spot.{spot_below, top}
use Rattle.wm_tree.specs.TreeValue.{TreeValue, workspace_of}

module _ (c : ConId) where
  -- c itself keeps its part where the others lose fullscreen
  but_looks : (w : ConId) (s : Spot) (f : Forest) → Looks c s f (at w unfull_but c f)
  but_looks w s end = same_looks c s end
  but_looks w s (con part kids floats rest) = step (same part.id w) (has w kids) (has w floats) (but_looks w (spot_below true s part) kids) (but_looks w (spot_below false s part) floats) (but_looks w s rest)
    where
      step : (a k l : Bool) → Looks c (spot_below true s part) kids (at w unfull_but c kids) → Looks c (spot_below false s part) floats (at w unfull_but c floats) → Looks c s rest (at w unfull_but c rest)
          → Looks c s (con part kids floats rest) (cond a (unfull_but c part kids floats rest) (cond k (con part (at w unfull_but c kids) floats rest) (cond l (con part kids (at w unfull_but c floats) rest) (con part kids floats (at w unfull_but c rest)))))
      step true k l u v z = node_looks c s part kids floats rest (unfull c kids) (unfull c floats) rest (unfull_looks c (spot_below true s part) kids) (unfull_looks c (spot_below false s part) floats) (same_looks c s rest)
      step false true l u v z = node_looks c s part kids floats rest (at w unfull_but c kids) floats rest u (same_looks c (spot_below false s part) floats) (same_looks c s rest)
      step false false true u v z = node_looks c s part kids floats rest kids (at w unfull_but c floats) rest (same_looks c (spot_below true s part) kids) v (same_looks c s rest)
      step false false false u v z = node_looks c s part kids floats rest kids floats (at w unfull_but c rest) (same_looks c (spot_below true s part) kids) (same_looks c (spot_below false s part) floats) z

  -- and may change before or after that
  module _ (g : NodeKind → NodeKind) where
    unfull_same : (f : Forest) → unfull c (at c kinded g f) ≡ at c kinded g (unfull c f)
    unfull_same end = refl
    unfull_same (con part kids floats rest) = step (same part.id c) (has c kids) (has c floats) refl refl refl (unfull_same kids) (unfull_same floats) (unfull_same rest)
      where
        there_kids : has c (unfull c kids) ≡ has c kids
        there_kids = (unfull_looks c top kids).there

        there_floats : has c (unfull c floats) ≡ has c floats
        there_floats = (unfull_looks c top floats).there

        step : (a k l : Bool) → same part.id c ≡ a → has c kids ≡ k → has c floats ≡ l → unfull c (at c kinded g kids) ≡ at c kinded g (unfull c kids) → unfull c (at c kinded g floats) ≡ at c kinded g (unfull c floats) → unfull c (at c kinded g rest) ≡ at c kinded g (unfull c rest)
            → unfull c (cond a (kinded g part kids floats rest) (cond k (con part (at c kinded g kids) floats rest) (cond l (con part kids (at c kinded g floats) rest) (con part kids floats (at c kinded g rest))))) ≡ at c kinded g (unfull c (con part kids floats rest))
        step true k l ea ek el u v z = rw (ea, ea) refl
        step false true l ea ek el u v z = rw (ea, ea, there_kids, ek, u) refl
        step false false true ea ek el u v z = rw (ea, ea, there_kids, ek, there_floats, el, v) refl
        step false false false ea ek el u v z = rw (ea, ea, there_kids, ek, there_floats, el, z) refl

    but_same : (w : ConId) (f : Forest) → at w unfull_but c (at c kinded g f) ≡ at c kinded g (at w unfull_but c f)
    but_same w end = refl
    but_same w (con part kids floats rest) =
        step (same part.id c) (has c kids) (has c floats) (same part.id w) (has w kids) (has w floats) refl refl refl refl refl refl (but_same w kids) (but_same w floats) (but_same w rest)
      where
        un_kids : has c (unfull c kids) ≡ has c kids
        un_kids = (unfull_looks c top kids).there

        un_floats : has c (unfull c floats) ≡ has c floats
        un_floats = (unfull_looks c top floats).there

        at_kids : has c (at w unfull_but c kids) ≡ has c kids
        at_kids = (but_looks w top kids).there

        at_floats : has c (at w unfull_but c floats) ≡ has c floats
        at_floats = (but_looks w top floats).there

        w_kids : has w (at c kinded g kids) ≡ has w kids
        w_kids = has_kinded c w g kids

        w_floats : has w (at c kinded g floats) ≡ has w floats
        w_floats = has_kinded c w g floats

        step : (a k l x m n : Bool) → same part.id c ≡ a → has c kids ≡ k → has c floats ≡ l → same part.id w ≡ x → has w kids ≡ m → has w floats ≡ n
            → at w unfull_but c (at c kinded g kids) ≡ at c kinded g (at w unfull_but c kids) → at w unfull_but c (at c kinded g floats) ≡ at c kinded g (at w unfull_but c floats) → at w unfull_but c (at c kinded g rest) ≡ at c kinded g (at w unfull_but c rest)
            → at w unfull_but c (cond a (kinded g part kids floats rest) (cond k (con part (at c kinded g kids) floats rest) (cond l (con part kids (at c kinded g floats) rest) (con part kids floats (at c kinded g rest)))))
            ≡ at c kinded g (cond x (unfull_but c part kids floats rest) (cond m (con part (at w unfull_but c kids) floats rest) (cond n (con part kids (at w unfull_but c floats) rest) (con part kids floats (at w unfull_but c rest)))))
        step true k l true m n ea ek el ex em en u v z = rw (ea, ex) refl
        step true k l false true n ea ek el ex em en u v z = rw (ea, ex, em) refl
        step true k l false false true ea ek el ex em en u v z = rw (ea, ex, em, en) refl
        step true k l false false false ea ek el ex em en u v z = rw (ea, ex, em, en) refl
        step false true l true m n ea ek el ex em en u v z = rw (ea, ex, un_kids, ek, unfull_same kids) refl
        step false true l false true n ea ek el ex em en u v z = rw (ea, ex, w_kids, em, at_kids, ek, u) refl
        step false true l false false true ea ek el ex em en u v z = rw (ea, ex, w_kids, em, en, ek) refl
        step false true l false false false ea ek el ex em en u v z = rw (ea, ex, w_kids, em, en, ek) refl
        step false false true true m n ea ek el ex em en u v z = rw (ea, ex, un_kids, ek, un_floats, el, unfull_same floats) refl
        step false false true false true n ea ek el ex em en u v z = rw (ea, ex, em, at_kids, ek, el) refl
        step false false true false false true ea ek el ex em en u v z = rw (ea, ex, em, w_floats, en, ek, at_floats, el, v) refl
        step false false true false false false ea ek el ex em en u v z = rw (ea, ex, em, w_floats, en, ek, el) refl
        step false false false true m n ea ek el ex em en u v z = rw (ea, ex, un_kids, ek, un_floats, el) refl
        step false false false false true n ea ek el ex em en u v z = rw (ea, ex, em, at_kids, ek, el) refl
        step false false false false false true ea ek el ex em en u v z = rw (ea, ex, em, en, ek, at_floats, el) refl
        step false false false false false false ea ek el ex em en u v z = rw (ea, ex, em, en, ek, el, z) refl

-- ---- of trees

state_other : (c : ConId) (w : Option ConId) (t : TreeValue) → state_of c (others_unfull c w t) ≡ state_of c t
state_other c None t = refl
state_other c (Some w) t = ap (λ o. option_map (λ (p : ConPart). p.state) (kind_by con_kind o)) (but_looks c w top t.nodes).part

others_same : (f : ConState → ConState) (c : ConId) (w : Option ConId) (t : TreeValue) → others_unfull c w (with_state f c t) ≡ with_state f c (others_unfull c w t)
others_same f c None t = refl
others_same f c (Some w) t = ap (λ z. record t { nodes = z }) (but_same c (stated f) w t.nodes)

set_is : (b : Bool) (c : ConId) (t : TreeValue) → full_set b c t ≡ with_state (λ s. record s { fullscreen = b }) c t
set_is b c t = restated_is (λ s. record s { fullscreen = b }) c t

-- the state that there is
set_same : (c : ConId) (t : TreeValue) → with_state (λ s. record s { fullscreen = is_fullscreen (state_of c t) }) c t ≡ t
set_same c t = by (state_of c t) refl
  where
    by : (o : Option ConState) → state_of c t ≡ o → with_state (λ s. record s { fullscreen = is_fullscreen o }) c t ≡ t
    by None e = sym (restated_is (λ s. record s { fullscreen = false }) c t) ∙ ap (λ o. restated c (option_map (λ (s : ConState). record s { fullscreen = false }) o) t) e
    by (Some s) e = state_alike (λ z. record z { fullscreen = s.fullscreen }) (λ z. z) c s t e refl ∙ state_same c t

-- what c is, it is among others without fullscreen
there_and_back : (c : ConId) (b : Bool) (t : TreeValue) → is_fullscreen (state_of c t) ≡ b → (x : Bool) → with_state (λ s. record s { fullscreen = b }) c (with_state (λ s. record s { fullscreen = x }) c t) ≡ t
there_and_back c b t e x = state_twice (λ s. record s { fullscreen = b }) (λ s. record s { fullscreen = x }) c t ∙ (ap (λ z. with_state (λ s. record s { fullscreen = z }) c t) (sym e) ∙ set_same c t)

-- another state
state_now : (f : ConState → ConState) (c : ConId) (s : ConState) (t : TreeValue) → state_of c t ≡ Some s → state_of c (with_state f c t) ≡ Some (f s)
state_now f c s t h = by (first_part (only c t.nodes)) refl h
  where
    by_kind : (k : NodeKind) → option_map (λ (p : ConPart). p.state) (con_kind k) ≡ Some s → option_map (λ (p : ConPart). p.state) (con_kind (stated f k)) ≡ Some (f s)
    by_kind (Root d) h = cc
    by_kind (Output o) h = cc
    by_kind (Space w) h = cc
    by_kind (Con d) h = let one : d.state ≡ s = cc in ap (λ z. Some (f z)) one

    by : (o : Option Part) → first_part (only c t.nodes) ≡ o → option_map (λ (p : ConPart). p.state) (kind_by con_kind o) ≡ Some s → state_of c (with_state f c t) ≡ Some (f s)
    by None e h = cc
    by (Some part) e h = ap (λ o. option_map (λ (p : ConPart). p.state) (kind_by con_kind o)) (part_kinded c (stated f) part t.nodes e) ∙ by_kind part.kind h

toggle_as : (c : ConId) (t : TreeValue) (b : Bool) → is_fullscreen (state_of c t) ≡ b → full_toggled c t ≡ fullscreen_tree c (not b) t
toggle_as c t b e = ap (λ z. fullscreen_tree c (not z) t) e

pub full_toggles_twice : FullTogglesTwice
full_toggles_twice c s t h = by (is_fullscreen (state_of c t)) refl
  where
    kept : state_of c (others_unfull c (workspace_of t c) t) ≡ state_of c t
    kept = state_other c (workspace_of t c) t

    by : (b : Bool) → is_fullscreen (state_of c t) ≡ b → full_toggled c (full_toggled c t) ≡ others_unfull c (workspace_of t c) t
    by false e =
        let u : TreeValue = others_unfull c (workspace_of t c) t in
        let v : TreeValue = with_state (λ z. record z { fullscreen = true }) c u in
        let one : full_toggled c t ≡ v = toggle_as c t false e ∙ set_is true c u in
        let now : is_fullscreen (state_of c v) ≡ true = ap is_fullscreen (state_now (λ z. record z { fullscreen = true }) c s u (kept ∙ h)) in
        ap (full_toggled c) one ∙ (toggle_as c v true now ∙ (set_is false c v ∙ there_and_back c false u (ap is_fullscreen kept ∙ e) true))
    by true e =
        let u : TreeValue = others_unfull c (workspace_of t c) t in
        let v : TreeValue = with_state (λ z. record z { fullscreen = false }) c t in
        let one : full_toggled c t ≡ v = toggle_as c t true e ∙ set_is false c t in
        let now : is_fullscreen (state_of c v) ≡ false = ap is_fullscreen (state_now (λ z. record z { fullscreen = false }) c s t h) in
        let home : workspace_of v c ≡ workspace_of t c = workspace_kept (λ z. record z { fullscreen = false }) c c t in
        ap (full_toggled c) one
        ∙ (toggle_as c v false now ∙ (ap (λ z. full_set true c (others_unfull c z v)) home ∙ (ap (full_set true c) (others_same (λ z. record z { fullscreen = false }) c (workspace_of t c) t)
        ∙ (set_is true c (with_state (λ z. record z { fullscreen = false }) c u) ∙ there_and_back c true u (ap is_fullscreen kept ∙ e) false))))
