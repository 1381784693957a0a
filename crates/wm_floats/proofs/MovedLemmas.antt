-- A container that has moved is what arrived.
use Rattle.std.proofs.Common.{◌≡◌, ◌≢◌, ◌≤◌, Bool, true, false, cond, ◌||◌, Option, None, Some, Result, Ok, Err, refl, ap, sym, ◌∙◌, subst, ℕ, arith}
use Rattle.std.specs.Option.{option_map}
use Rattle.std.specs.Prelude.{OnOk}
use Rattle.wm_base.specs.declared.geometry.Rect.{Rect}
use Rattle.wm_base.specs.declared.ids.ConId.{ConId}
use Rattle.wm_floats.specs.Floating.{IsGoal, earlier, earlier_in, floating_by, floating_rect, new_rect, rect_or, tiling_place}
use Rattle.wm_floats.specs.Kinds.{is_flagged_state}
use Rattle.wm_floats.specs.Windows.{flag_set, natural_by, restated, state_of}
use Rattle.wm_shared.specs.Rects.{output_part_of}
use Rattle.wm_shared.proofs.KidLemmas.{con_there}
use Rattle.wm_forest.proofs.CountLemmas.{count-without, counted, found_counted}
use Rattle.wm_forest.proofs.ForestLemmas.{only_absent}
use Rattle.wm_forest.proofs.LookLemmas.{none_of_four, seen-without}
use Rattle.wm_forest.proofs.OnceLemmas.{in_rest}
use Rattle.wm_forest.specs.declared.kind.KindEdit.TheVariants as edits
use Rattle.wm_forest.specs.declared.part.ConPart.{ConPart}
use Rattle.wm_forest.specs.declared.part.ConState.{ConState}
use Rattle.wm_forest.specs.declared.part.NodeKind.{NodeKind}
use Rattle.wm_forest.specs.declared.part.NodeKind.TheVariants.{Root, Output, Space, Con}
use Rattle.wm_forest.specs.declared.part.Part.{Part}
use Rattle.wm_forest.specs.declared.place.Place.{Place}
use Rattle.wm_forest.specs.declared.place.Place.TheVariants.{After, Before, First, Last, Float, Scratchpad}
use Rattle.wm_forest.specs.Change.{append, arriving, at, nobody, or_rect, placed, unfull, unfull_kind, without}
use Rattle.wm_forest.specs.Forest.{Forest, end, con}
use Rattle.wm_forest.specs.Kinds.{changed, kind_changed}
use Rattle.wm_forest.specs.Look.{con_kind, first_part, has, kind_by, kind_of, only, same}
use Rattle.wm_tree.specs.Move.{apart, moved, moved_share}
use Rattle.wm_forest.specs.Place.{named, put, put_word, rect_at}
use Rattle.wm_tree.specs.Sound.{IsSound}
use Rattle.wm_forest.specs.SoundRow.{one_of, tally}
use Rattle.wm_forest.specs.Spot.{top}
use Rattle.wm_tree.specs.TreeValue.{TreeValue, is_tiled_con, leaf, or_id}

-- ---- rows that are joined

has_append : (c : ConId) (a row : Forest) → has c row ≡ true → has c (append a row) ≡ true
has_append c end row h = h
has_append c (con part kids floats rest) row h = in_rest c part kids floats (append rest row) (has_append c rest row h)

only_append : (c : ConId) (a row : Forest) → has c a ≡ false → only c (append a row) ≡ only c row
only_append c end row h = refl
only_append c (con part kids floats rest) row h =
    let n = none_of_four (same part.id c) (has c kids) (has c floats) (has c rest) h in rw (n.0, n.1, n.2) (only_append c rest row n.3)

-- ---- what is put at a place

found_there : (c : ConId) (q : Part) (a b f : Forest) → only c f ≡ con q a b end → has c f ≡ true
found_there c q a b f e = by (has c f) refl
  where
    by : (x : Bool) → has c f ≡ x → x ≡ true
    by true h = refl
    by false h = let none = only_absent c f h in cc

module _ (c : ConId) (q : Part) (a b : Forest) (own : same q.id c ≡ true) where
  abbrev row : Forest
  row = con q a b end

  in_own : has c (con q a b end) ≡ true
  in_own = rw own refl

  only_own : only c (con q a b end) ≡ con q a b end
  only_own = rw own refl

  put_here : (p : Place) (part : Part) (kids floats rest : Forest) → (same part.id c ≡ false) × (has c kids ≡ false) × (has c floats ≡ false) × (has c rest ≡ false) → only c (put_word p (con q a b end) part kids floats rest) ≡ con q a b end
  put_here (After d) part kids floats rest n = rw (n.0, n.1, n.2, own) refl
  put_here (Before d) part kids floats rest n = rw own refl
  put_here (First d) part kids floats rest n = rw (n.0, own) refl
  put_here (Last d) part kids floats rest n = rw (n.0, has_append c kids (con q a b end) in_own) (only_append c kids (con q a b end) n.1 ∙ only_own)
  put_here (Float w r) part kids floats rest n = rw (n.0, n.1, has_append c floats (con q a b end) in_own) (only_append c floats (con q a b end) n.2 ∙ only_own)
  put_here (Scratchpad r) part kids floats rest n = rw (n.0, n.1, has_append c floats (con q a b end) in_own) (only_append c floats (con q a b end) n.2 ∙ only_own)

  put_only : (i : ConId) (p : Place) (f : Forest) → has c f ≡ false → has i f ≡ true → only c (at i (put_word p) (con q a b end) f) ≡ con q a b end
  put_only i p end none there = cc
  put_only i p (con part kids floats rest) none there =
      step (same part.id i) (has i kids) (has i floats) (has i rest) refl refl refl refl (put_only i p kids n.1) (put_only i p floats n.2) (put_only i p rest n.3) there
    where
      n : (same part.id c ≡ false) × (has c kids ≡ false) × (has c floats ≡ false) × (has c rest ≡ false)
      n = none_of_four (same part.id c) (has c kids) (has c floats) (has c rest) none

      step : (x k l r : Bool) → same part.id i ≡ x → has i kids ≡ k → has i floats ≡ l → has i rest ≡ r
          → (has i kids ≡ true → only c (at i (put_word p) (con q a b end) kids) ≡ con q a b end) → (has i floats ≡ true → only c (at i (put_word p) (con q a b end) floats) ≡ con q a b end) → (has i rest ≡ true → only c (at i (put_word p) (con q a b end) rest) ≡ con q a b end)
          → (x || k || l || r) ≡ true
          → only c (cond x (put_word p (con q a b end) part kids floats rest) (cond k (con part (at i (put_word p) (con q a b end) kids) floats rest) (cond l (con part kids (at i (put_word p) (con q a b end) floats) rest) (con part kids floats (at i (put_word p) (con q a b end) rest))))) ≡ con q a b end
      step true k l r ex ek el er u v w t = put_here p part kids floats rest n
      step false true l r ex ek el er u v w t = let e = u ek in rw (n.0, found_there c q a b (at i (put_word p) (con q a b end) kids) e) e
      step false false true r ex ek el er u v w t = let e = v el in rw (n.0, n.1, found_there c q a b (at i (put_word p) (con q a b end) floats) e) e
      step false false false true ex ek el er u v w t = let e = w er in rw (n.0, n.1, n.2) e
      step false false false false ex ek el er u v w t = cc

-- ---- what is taken out

-- what is found is c alone
record Led (c : ConId) (g : Forest) : Type 0 where
  part : Part
  kids : Forest
  floats : Forest
  is : g ≡ con part kids floats end
  own : same part.id c ≡ true

led : (c : ConId) (f : Forest) → has c f ≡ true → Led c (only c f)
led c end h = cc
led c (con part kids floats rest) h = step (same part.id c) (has c kids) (has c floats) (has c rest) refl refl refl refl h (led c kids) (led c floats) (led c rest)
  where
    step : (x k l r : Bool) → same part.id c ≡ x → has c kids ≡ k → has c floats ≡ l → has c rest ≡ r → (x || k || l || r) ≡ true
        → (has c kids ≡ true → Led c (only c kids)) → (has c floats ≡ true → Led c (only c floats)) → (has c rest ≡ true → Led c (only c rest))
        → Led c (cond x (con part kids floats end) (cond k (only c kids) (cond l (only c floats) (only c rest))))
    step true k l r ex ek el er t u v w = record { part = part; kids = kids; floats = floats; is = refl; own = ex }
    step false true l r ex ek el er t u v w = u ek
    step false false true r ex ek el er t u v w = v el
    step false false false true ex ek el er t u v w = w er
    step false false false false ex ek el er t u v w = cc

gone : (c : ConId) (f : Forest) → tally c f ≤ 1 → has c f ≡ true → has c (without c f) ≡ false
gone c f once there = by (has c (without c f)) refl
  where
    by : (b : Bool) → has c (without c f) ≡ b → b ≡ false
    by false e = refl
    by true e = absurd (omega (arith, once, count-without (one_of c) c f, found_counted c f there, counted c (without c f) e))

-- ---- its rectangle

arrived_rect : (share : ℕ) (rect : Option Rect) (kind : NodeKind) → con_kind kind ≢ None
    → (earlier_in (con_kind (unfull_kind (placed share rect kind))) ≡ or_rect rect (earlier_in (con_kind kind))) × (earlier_in (con_kind (placed share rect kind)) ≡ or_rect rect (earlier_in (con_kind kind)))
arrived_rect share rect (Root d) ok = absurd (ok refl)
arrived_rect share rect (Output o) ok = absurd (ok refl)
arrived_rect share rect (Space w) ok = absurd (ok refl)
arrived_rect share rect (Con d) ok = (refl, refl)

-- a container that has moved has the rectangle of its place, or else the one that it had
pub moved_rect : (c : ConId) (p : Place) (t : TreeValue) → IsSound t → IsGoal c p t → kind_of con_kind c t.nodes ≢ None → earlier c (moved c p t) ≡ or_rect (rect_at p) (earlier c t)
moved_rect c p t s g ok = by (led c t.nodes g.0) (apart t c (named p))
  where
    absent_now : has c (without c t.nodes) ≡ false
    absent_now = gone c t.nodes (s.once c) g.0

    there_now : has (named p) (without c t.nodes) ≡ true
    there_now = (seen-without c (named p) top t.nodes (g.2.2 g.0 g.1)).there ∙ g.1

    by : (l : Led c (only c t.nodes)) (away : Bool)
        → earlier_in (kind_by con_kind (first_part (only c (put p (arriving (moved_share c p t.nodes) (rect_at p) away (only c t.nodes)) (without c t.nodes))))) ≡ or_rect (rect_at p) (earlier_in (kind_by con_kind (first_part (only c t.nodes))))
    by l true =
        let kind_ok : con_kind l.part.kind ≢ None = λ e. ok (ap (λ z. kind_by con_kind (first_part z)) l.is ∙ e) in
        let Has : Forest → Type 0 = λ z. earlier_in (kind_by con_kind (first_part (only c (put p (arriving (moved_share c p t.nodes) (rect_at p) true z) (without c t.nodes))))) ≡ or_rect (rect_at p) (earlier_in (kind_by con_kind (first_part z))) in
        subst Has (sym l.is) (
        ap (λ z. earlier_in (kind_by con_kind (first_part z)))
        (put_only c (record l.part { kind = unfull_kind (placed (moved_share c p t.nodes) (rect_at p) l.part.kind) }) (unfull nobody l.kids) (unfull nobody l.floats) l.own (named p) p (without c t.nodes) absent_now there_now)
        ∙ (arrived_rect (moved_share c p t.nodes) (rect_at p) l.part.kind kind_ok).0)
    by l false =
        let kind_ok : con_kind l.part.kind ≢ None = λ e. ok (ap (λ z. kind_by con_kind (first_part z)) l.is ∙ e) in
        let Has : Forest → Type 0 = λ z. earlier_in (kind_by con_kind (first_part (only c (put p (arriving (moved_share c p t.nodes) (rect_at p) false z) (without c t.nodes))))) ≡ or_rect (rect_at p) (earlier_in (kind_by con_kind (first_part z))) in
        subst Has (sym l.is) (
        ap (λ z. earlier_in (kind_by con_kind (first_part z)))
        (put_only c (record l.part { kind = placed (moved_share c p t.nodes) (rect_at p) l.part.kind }) l.kids l.floats l.own (named p) p (without c t.nodes) absent_now there_now)
        ∙ (arrived_rect (moved_share c p t.nodes) (rect_at p) l.part.kind kind_ok).1)

-- a container with another state
state_edited : (c : ConId) (s : ConState) (p : ConPart) (f : Forest) → kind_by con_kind (first_part (only c f)) ≡ Some p → kind_by con_kind (first_part (only c (at c kind_changed (edits.State s) f))) ≡ Some (record p { state = s })
state_edited c s p end h = cc
state_edited c s p (con part kids floats rest) h =
    step (same part.id c) (has c kids) (has c floats) refl refl refl h (state_edited c s p kids) (state_edited c s p floats) (state_edited c s p rest)
  where
    by_kind : (k : NodeKind) → con_kind k ≡ Some p → con_kind (changed (edits.State s) k) ≡ Some (record p { state = s })
    by_kind (Root d) h = cc
    by_kind (Output o) h = cc
    by_kind (Space w) h = cc
    by_kind (Con d) h = let e : d ≡ p = cc in rw e refl

    still : (g : Forest) → kind_by con_kind (first_part (only c g)) ≡ Some (record p { state = s }) → has c g ≡ true
    still g e = con_there c g (λ z. cc (z, e))

    step : (x k l : Bool) → same part.id c ≡ x → has c kids ≡ k → has c floats ≡ l → kind_by con_kind (first_part (cond x (con part kids floats end) (cond k (only c kids) (cond l (only c floats) (only c rest))))) ≡ Some p
        → (kind_by con_kind (first_part (only c kids)) ≡ Some p → kind_by con_kind (first_part (only c (at c kind_changed (edits.State s) kids))) ≡ Some (record p { state = s }))
        → (kind_by con_kind (first_part (only c floats)) ≡ Some p → kind_by con_kind (first_part (only c (at c kind_changed (edits.State s) floats))) ≡ Some (record p { state = s }))
        → (kind_by con_kind (first_part (only c rest)) ≡ Some p → kind_by con_kind (first_part (only c (at c kind_changed (edits.State s) rest))) ≡ Some (record p { state = s }))
        → kind_by con_kind (first_part (only c (cond x (kind_changed (edits.State s) part kids floats rest) (cond k (con part (at c kind_changed (edits.State s) kids) floats rest) (cond l (con part kids (at c kind_changed (edits.State s) floats) rest) (con part kids floats (at c kind_changed (edits.State s) rest)))))))
        ≡ Some (record p { state = s })
    step true k l ex ek el h u v w = rw ex (by_kind part.kind h)
    step false true l ex ek el h u v w = let e = u h in rw (ex, still (at c kind_changed (edits.State s) kids) e) e
    step false false true ex ek el h u v w = let e = v h in rw (ex, ek, still (at c kind_changed (edits.State s) floats) e) e
    step false false false ex ek el h u v w = rw (ex, ek, el) (w h)

pub flag_rect : (c : ConId) (on : Bool) (t : TreeValue) → earlier c (flag_set on c t) ≡ earlier c t
flag_rect c on t = by (kind_of con_kind c t.nodes) refl
  where
    by : (o : Option ConPart) → kind_of con_kind c t.nodes ≡ o → earlier c (restated c (option_map (λ (s : ConState). record s { flagged = on }) (option_map (λ (p : ConPart). p.state) o)) t) ≡ earlier c t
    by None e = refl
    by (Some p) e = ap earlier_in (state_edited c (record p.state { flagged = on }) p t.nodes e) ∙ ap earlier_in (sym e)

-- ---- there and back

pub float_rect : (c w : ConId) (r : Rect) (t new : TreeValue) → new ≡ moved c (Float w r) t → IsSound t → IsGoal c (Float w r) t → kind_of con_kind c t.nodes ≢ None → earlier c new ≡ Some r
float_rect c w r t new e s g ok = ap (earlier c) e ∙ moved_rect c (Float w r) t s g ok

tiling_rect : (w : ConId) (t : TreeValue) → rect_at (tiling_place w t) ≡ None
tiling_rect w t = by (is_tiled_con t (or_id (leaf t w) w))
  where
    by : (b : Bool) → rect_at (cond b (After (or_id (leaf t w) w)) (Last w)) ≡ None
    by true = refl
    by false = refl

pub sink_rect : (c w : ConId) (p : Place) (t mid new : TreeValue) → p ≡ tiling_place w t → mid ≡ moved c p t → new ≡ flag_set false c mid → IsSound t → IsGoal c p t → kind_of con_kind c t.nodes ≢ None → earlier c new ≡ earlier c t
sink_rect c w p t mid new ep em en s g ok =
    ap (earlier c) en ∙ (flag_rect c false mid ∙ (ap (earlier c) em ∙ (moved_rect c p t s g ok ∙ ap (λ z. or_rect z (earlier c t)) (ap rect_at ep ∙ tiling_rect w t))))

pub float_rect_ok : {A E : Type 0} (o : Result A E) (c w : ConId) (r : Rect) (t new : TreeValue) → OnOk o (new ≡ moved c (Float w r) t) → r ≡ floating_rect c t → IsSound t → IsGoal c (Float w r) t → kind_of con_kind c t.nodes ≢ None
    → OnOk o (earlier c new ≡ Some (floating_rect c t))
float_rect_ok (Ok a) c w r t new e er s g ok = float_rect c w r t new e s g ok ∙ ap (λ z. Some z) er
float_rect_ok (Err a) c w r t new e er s g ok = tt

pub as_before : (c : ConId) (r : Rect) (t : TreeValue) → earlier c t ≡ Some r → floating_rect c t ≡ r
as_before c r t h = by (kind_of con_kind c t.nodes) h
  where
    by : (o : Option ConPart) → earlier_in o ≡ Some r → floating_by (output_part_of c t) o ≡ r
    by None h = cc
    by (Some p) h = ap (λ z. rect_or z (new_rect (output_part_of c t) p.state.border (natural_by p.kind))) h

-- one that has come to the scratchpad is flagged and has that rectangle
pub hidden_state : (c : ConId) (r : Rect) (t mid new : TreeValue) → mid ≡ moved c (Scratchpad r) t → new ≡ flag_set true c mid → r ≡ floating_rect c t → IsSound t → IsGoal c (Scratchpad r) t → kind_of con_kind c t.nodes ≢ None
    → (is_flagged_state (state_of c new) ≡ true) × (earlier c new ≡ Some (floating_rect c t))
hidden_state c r t mid new em en er s g ok =
    let had : earlier c mid ≡ Some r = ap (earlier c) em ∙ moved_rect c (Scratchpad r) t s g ok in
    (ap (λ z. is_flagged_state (state_of c z)) en ∙ by (kind_of con_kind c mid.nodes) refl had, ap (earlier c) en ∙ (flag_rect c true mid ∙ (had ∙ ap (λ z. Some z) er)))
  where
    by : (o : Option ConPart) → kind_of con_kind c mid.nodes ≡ o → earlier_in o ≡ Some r → is_flagged_state (state_of c (restated c (option_map (λ (s : ConState). record s { flagged = true }) (option_map (λ (p : ConPart). p.state) o)) mid)) ≡ true
    by None e h = cc
    by (Some p) e h = ap (λ z. is_flagged_state (option_map (λ (q : ConPart). q.state) z)) (state_edited c (record p.state { flagged = true }) p mid.nodes e)
