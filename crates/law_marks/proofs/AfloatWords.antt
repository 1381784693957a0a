-- What floats is a window with a rectangle: what words on one node, and those that move nodes, leave of that.
use Rattle.std.proofs.Common.{◌≡◌, ℕ, ◌≤◌, Bool, true, false, cond, inl, inr, Option, None, Some, refl, ap, sym, ◌∙◌, subst, arith}
use Rattle.std.specs.Prelude.{is_some}
use Rattle.std.specs.Option.{option_map}
use Rattle.wm_base.specs.declared.geometry.Rect.{Rect}
use Rattle.wm_base.specs.declared.ids.ConId.{ConId}
use Rattle.law_lasting.proofs.EachLemmas.{each_at, each_change, each_only, each_put, each_replaced, each_to_end, each_without}
use Rattle.law_lasting.proofs.PlaceLemmas.{own_share}
use Rattle.law_lasting.proofs.StowedWords.{HasState}
use Rattle.law_lasting.specs.Changes.{stows}
use Rattle.law_lasting.specs.Each.{Each}
use Rattle.law_lasting.specs.Rects.{FitsRect, Floats, MayFloat}
use Rattle.law_marks.proofs.AfloatKinds.{IsRight, Right, and_true, rects_of, right_state, right_unfull}
use Rattle.law_marks.proofs.AfloatShares.{hidden_share, moved_gives, shareless_window, untiled_share}
use Rattle.wm_floats.specs.Floating.{IsGoal}
use Rattle.wm_floats.specs.Fullscreen.{fullscreen_tree, others_unfull, unfull_but}
use Rattle.wm_floats.specs.Windows.{restated, state_of}
use Rattle.wm_focus.specs.Moves.{IsTurn}
use Rattle.wm_forest.specs.Change.{is_window_kind}
use Rattle.wm_opens.specs.Opens.{is_window_of, is_window_part}
use Rattle.wm_forest.specs.Change.{arriving, at, hole, nobody, placed, raised_at, raised_in, replaced, unfull, unfull_kind, without}
use Rattle.wm_forest.specs.declared.kind.KindEdit.TheVariants as edits
use Rattle.wm_forest.specs.declared.part.ConState.{ConState}
use Rattle.wm_forest.specs.declared.part.NodeKind.{NodeKind}
use Rattle.wm_forest.specs.declared.part.NodeKind.TheVariants.{Root, Output, Space, Con}
use Rattle.wm_forest.specs.declared.place.Place.{Place}
use Rattle.wm_forest.specs.declared.place.Place.TheVariants.{After, Before, First, Last, Float, Scratchpad}
use Rattle.wm_forest.specs.Exchange.{exchanged_nodes, holed}
use Rattle.wm_forest.specs.Forest.{Forest, end, con}
use Rattle.wm_forest.specs.Kinds.{kind_changed}
use Rattle.wm_forest.specs.Look.{con_kind, first_floats, first_part, kind_by, only, same}
use Rattle.wm_forest.specs.Place.{named, rect_at, tiles}
use Rattle.wm_forest.specs.SoundRow.{IsOutputRect}
use Rattle.wm_forest.specs.Sticky.{is_sticky, loose, loosened, sticky}
use Rattle.wm_tree.specs.Along.{gone_along, nowhere}
use Rattle.wm_tree.specs.Move.{apart, exchanged, moved, moved_share, share_in}
use Rattle.wm_tree.specs.Sound.{IsSound}
use Rattle.wm_tree.specs.TreeValue.{TreeValue, workspace_of}

-- ---- raising, and sticky windows

each_unfull : (c : ConId) (f : Forest) → Each Right f → Each Right (unfull c f)
each_unfull c end p = p
each_unfull c (con part kids floats rest) p = (step (same part.id c), each_unfull c kids p.1, each_unfull c floats p.2, each_unfull c rest p.3)
  where
    step : (b : Bool) → Right (cond b part (record part { kind = unfull_kind part.kind }))
    step true = p.0
    step false = right_unfull part.kind p.0

pub raised_right : (c : ConId) (w : Option ConId) (f : Forest) → Each Right f → Each Right (raised_at c w f)
raised_right c None f p = p
raised_right c (Some w) f p = each_change Right w raised_in c (λ part kids floats rest q. (q.0, each_unfull c kids q.1, each_to_end Right c (unfull c floats) (each_unfull c floats q.2), q.3)) f p

each_loose : (f : Forest) → Each Right f → Each Right (loose f)
each_loose end p = p
each_loose (con part kids floats rest) p = step (is_sticky part.kind) (each_loose rest p.3)
  where
    step : (b : Bool) → Each Right (loose rest) → Each Right (cond b (loose rest) (con part kids floats (loose rest)))
    step true q = q
    step false q = (p.0, p.1, p.2, q)

each_sticky : (f : Forest) → Each Right f → Each Right (sticky f)
each_sticky end p = p
each_sticky (con part kids floats rest) p = step (is_sticky part.kind) (each_sticky rest p.3)
  where
    step : (b : Bool) → Each Right (sticky rest) → Each Right (cond b (con part kids floats (sticky rest)) (sticky rest))
    step true q = (p.0, p.1, p.2, q)
    step false q = q

each_floats : (f : Forest) → Each Right f → Each Right (first_floats f)
each_floats end p = p
each_floats (con part kids floats rest) p = p.2

pub along_right : (v w : ConId) (t : TreeValue) → Each Right t.nodes → Each Right (gone_along v w t).nodes
along_right v w t p =
    each_put Right (Float w nowhere) (unfull nobody (sticky (first_floats (only v t.nodes)))) (at v loosened end t.nodes)
    (each_unfull nobody (sticky (first_floats (only v t.nodes))) (each_sticky (first_floats (only v t.nodes)) (each_floats (only v t.nodes) (each_only Right v t.nodes p))))
    (each_change Right v loosened end (λ part kids floats rest q. (q.0, q.1, each_loose floats q.2, q.3)) t.nodes p)

-- ---- states

-- another state with the same rectangle
pub kept_state : (c : ConId) (f : ConState → ConState) (t : TreeValue) → ((s : ConState) → (f s).rect ≡ s.rect) → Each Right t.nodes → Each Right (restated c (option_map f (state_of c t)) t).nodes
kept_state c f t keeps p = by (state_of c t) refl
  where
    by : (o : Option ConState) → state_of c t ≡ o → Each Right (restated c (option_map f o) t).nodes
    by None e = p
    by (Some s) e =
        each_at Right c kind_changed (edits.State (f s)) (HasState s)
        (λ part kids floats rest g q. (right_state s (f s) part.kind g (λ h. subst FitsRect (sym (keeps s)) h) (λ h. ap is_some (keeps s) ∙ h) q.0, q.1, q.2, q.3)) t.nodes e p

others_right : (c : ConId) (w : Option ConId) (t : TreeValue) → Each Right t.nodes → Each Right (others_unfull c w t).nodes
others_right c None t p = p
others_right c (Some w) t p = each_change Right w unfull_but c (λ part kids floats rest q. (q.0, each_unfull c kids q.1, each_unfull c floats q.2, q.3)) t.nodes p

pub fullscreen_right : (c : ConId) (on : Bool) (t : TreeValue) → Each Right t.nodes → Each Right (fullscreen_tree c on t).nodes
fullscreen_right c true t p = kept_state c (λ (s : ConState). record s { fullscreen = true }) (others_unfull c (workspace_of t c) t) (λ s. refl) (others_right c (workspace_of t c) t p)
fullscreen_right c false t p = kept_state c (λ (s : ConState). record s { fullscreen = false }) t (λ s. refl) p

-- ---- moves

-- the first node is right as it comes to its new place
abbrev ComesRight : ℕ → Option Rect → Forest → Type 0
ComesRight share rect end = Unit {0}
ComesRight share rect (con part kids floats rest) = IsRight (placed share rect part.kind)

arriving_right : (share : ℕ) (rect : Option Rect) (away : Bool) (f : Forest) → ComesRight share rect f → Each Right f → Each Right (arriving share rect away f)
arriving_right share rect away end c p = p
arriving_right share rect true (con part kids floats rest) c p = (right_unfull (placed share rect part.kind) c, each_unfull nobody kids p.1, each_unfull nobody floats p.2, p.3)
arriving_right share rect false (con part kids floats rest) c p = (c, p.1, p.2, p.3)

comes_tiled : (share : ℕ) (f : Forest) → 1 ≤ share → Each Right f → ComesRight share None f
comes_tiled share end some p = tt
comes_tiled share (con part kids floats rest) some p = by part.kind p.0
  where
    by : (kind : NodeKind) → IsRight kind → IsRight (placed share None kind)
    by (Root c) h = tt
    by (Output o) h = tt
    by (Space s) h = tt
    by (Con c) h = (h.0, λ e. absurd (omega (arith, some, e)))

comes_afloat : (share : ℕ) (r : Rect) (f : Forest) → IsOutputRect r → is_window_part (kind_by con_kind (first_part f)) ≡ true → ComesRight share (Some r) f
comes_afloat share r end fits window = tt
comes_afloat share r (con part kids floats rest) fits window = by part.kind window
  where
    by : (kind : NodeKind) → is_window_part (con_kind kind) ≡ true → IsRight (placed share (Some r) kind)
    by (Root c) h = tt
    by (Output o) h = tt
    by (Space s) h = tt
    by (Con c) h = (fits, λ e. and_true (is_window_kind c.kind) true h refl)

moved_right : (c : ConId) (p : Place) (t : TreeValue) → ComesRight (moved_share c p t.nodes) (rect_at p) (only c t.nodes) → Each Right t.nodes → Each Right (moved c p t).nodes
moved_right c p t comes q =
    each_put Right p (arriving (moved_share c p t.nodes) (rect_at p) (apart t c (named p)) (only c t.nodes)) (without c t.nodes)
    (arriving_right (moved_share c p t.nodes) (rect_at p) (apart t c (named p)) (only c t.nodes) comes (each_only Right c t.nodes q)) (each_without Right c t.nodes q)

pub tiled_right : (c : ConId) (p : Place) (t : TreeValue) → IsSound t → IsGoal c p t → tiles p ≡ true → Each Right t.nodes → Each Right (moved c p t).nodes
tiled_right c p t s goal h q = moved_right c p t (by p h (comes_tiled (moved_share c p t.nodes) (only c t.nodes) (moved_gives c p t s goal h) (each_only Right c t.nodes q))) q
  where
    by : (d : Place) → tiles d ≡ true → ComesRight (moved_share c p t.nodes) None (only c t.nodes) → ComesRight (moved_share c p t.nodes) (rect_at d) (only c t.nodes)
    by (After x) z k = k
    by (Before x) z k = k
    by (First x) z k = k
    by (Last x) z k = k
    by (Float w r) z k = cc
    by (Scratchpad r) z k = cc

pub floated_right : (c w : ConId) (r : Rect) (t : TreeValue) → IsOutputRect r → is_window_of t c ≡ true → Each Right t.nodes → Each Right (moved c (Float w r) t).nodes
floated_right c w r t fits window q = moved_right c (Float w r) t (comes_afloat (moved_share c (Float w r) t.nodes) r (only c t.nodes) fits window) q

pub stowed_right : (c : ConId) (r : Rect) (t : TreeValue) → IsOutputRect r → is_window_of t c ≡ true → Each Right t.nodes → Each Right (moved c (Scratchpad r) t).nodes
stowed_right c r t fits window q = moved_right c (Scratchpad r) t (comes_afloat (moved_share c (Scratchpad r) t.nodes) r (only c t.nodes) fits window) q

-- what may float is a window
window_by : (c w : ConId) (r : Rect) (t : TreeValue) → IsSound t → IsGoal c (Float w r) t → MayFloat c (Float w r) t → Each Right t.nodes → is_window_of t c ≡ true
window_by c w r t s goal (inl window) q = window
window_by c w r t s goal (inr (inl untiled)) q = let ok = goal.2.0 goal.0 in shareless_window c t q ok (untiled_share c t s goal.0 ok untiled)
window_by c w r t s goal (inr (inr hidden)) q = let ok = goal.2.0 goal.0 in shareless_window c t q ok (hidden_share c t s q ok hidden)

pub moving_right : (c : ConId) (p : Place) (t : TreeValue) → IsSound t → IsGoal c p t → stows p ≡ false → Floats c p t → Each Right t.nodes → Each Right (moved c p t).nodes
moving_right c (After d) t s goal out floats q = tiled_right c (After d) t s goal refl q
moving_right c (Before d) t s goal out floats q = tiled_right c (Before d) t s goal refl q
moving_right c (First d) t s goal out floats q = tiled_right c (First d) t s goal refl q
moving_right c (Last d) t s goal out floats q = tiled_right c (Last d) t s goal refl q
moving_right c (Float w r) t s goal out floats q = floated_right c w r t (floats.0 (rects_of t.nodes q)) (window_by c w r t s goal floats.1 q) q
moving_right c (Scratchpad r) t s goal out floats q = cc

-- ---- exchanging

exchanged_all : (a b : ConId) (sa sb : ℕ) (away : Bool) (f : Forest) → 1 ≤ sa → 1 ≤ sb → Each Right f → Each Right (exchanged_nodes a b sa sb away f)
exchanged_all a b sa sb away f some_a some_b p =
    let with_hole : Each Right (holed a f) = each_replaced Right a hole f (tt, tt, tt, tt) p in
    let one : Each Right (only a f) = each_only Right a f p in
    let other : Each Right (only b (holed a f)) = each_only Right b (holed a f) with_hole in
    let half : Each Right (replaced b (arriving sb None away (only a f)) (holed a f)) =
    each_replaced Right b (arriving sb None away (only a f)) (holed a f) (arriving_right sb None away (only a f) (comes_tiled sb (only a f) some_b one) one) with_hole in
    each_replaced Right nobody (arriving sa None away (only b (holed a f))) (replaced b (arriving sb None away (only a f)) (holed a f))
    (arriving_right sa None away (only b (holed a f)) (comes_tiled sa (only b (holed a f)) some_a other) other) half

pub exchanged_right : (a b : ConId) (t : TreeValue) → IsSound t → IsTurn a b t → Each Right t.nodes → Each Right (exchanged a b t).nodes
exchanged_right a b t s g q =
    exchanged_all a b (share_in a t.nodes) (share_in b t.nodes) (apart t a b) t.nodes (own_share a t s g.0 (g.2.0 g.0)) (own_share b t s g.1 (g.2.1 g.1)) q
