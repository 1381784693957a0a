-- What is seen of a container that has moved to a place, and where it stands there.
use Rattle.std.proofs.Common.{◌≡◌, ℕ, ◌≤◌, Bool, true, false, cond, ◌||◌, Option, Some, refl, ap, sym, ◌∙◌, subst, arith}
use Rattle.std.specs.Prelude.{option_and_then}
use Rattle.wm_base.specs.declared.geometry.Rect.{Rect}
use Rattle.wm_base.specs.declared.ids.ConId.{ConId}
use Rattle.wm_floats.specs.Floating.{IsGoal}
use Rattle.wm_forest.proofs.CountLemmas.{count-without, counted, found_counted}
use Rattle.wm_forest.proofs.LookLemmas.{none_of_four, seen-without}
use Rattle.wm_forest.proofs.OnceLemmas.{in_floats, in_kids, in_rest}
use Rattle.wm_forest.specs.Change.{append, arriving, at, nobody, placed, unfull, unfull_kind, without}
use Rattle.wm_forest.specs.declared.part.NodeKind.{NodeKind}
use Rattle.wm_forest.specs.declared.part.NodeKind.TheVariants.{Root, Output, Space, Con}
use Rattle.wm_forest.specs.declared.part.Part.{Part}
use Rattle.wm_forest.specs.declared.place.Place.{Place}
use Rattle.wm_forest.specs.declared.place.Place.TheVariants.{After, Before, First, Last, Float, Scratchpad}
use Rattle.wm_forest.specs.declared.spot.Spot.{Spot}
use Rattle.wm_forest.specs.Forest.{Forest, end, con}
use Rattle.wm_forest.specs.Look.{first_part, has, only, same}
use Rattle.wm_forest.specs.Place.{named, put, put_word, rect_at, tiles}
use Rattle.wm_forest.specs.SoundRow.{one_of, tally}
use Rattle.wm_forest.specs.Spot.{space_by, spot_below, spot_in, spot_of, top}
use Rattle.wm_tree.specs.Move.{apart, moved, moved_share}
use Rattle.wm_tree.specs.Sound.{IsSound}
use Rattle.wm_tree.specs.TreeValue.{TreeValue, is_con, is_con_kind, is_tiled_spot}

abbrev pub spaced : Option Spot → Option ConId
spaced o = option_and_then (λ (s : Spot). s.space) o

-- the place is beside a container
abbrev pub beside : Place → Bool
beside (After d) = true
beside (Before d) = true
beside (First d) = false
beside (Last d) = false
beside (Float w r) = false
beside (Scratchpad r) = false

-- what a place needs: it is in this workspace, and where it is beside a node, that is a tiled container
pub record Goal (p : Place) (w : Option ConId) (part : Option Part) (spot : Option Spot) : Type 0 where
  pub space : spaced spot ≡ w
  pub con : beside p ≡ true → is_con part ≡ true
  pub tiled : beside p ≡ true → is_tiled_spot spot ≡ true

-- a node of this part is there, in this workspace
pub record Landed (p : Place) (w : Option ConId) (q : Part) (found : Option Part) (spot : Option Spot) : Type 0 where
  pub part : found ≡ Some q
  pub space : spaced spot ≡ w
  pub tiled : is_tiled_spot spot ≡ tiles p

con_space : (w : Option ConId) (id : ConId) (k : NodeKind) → is_con_kind k ≡ true → space_by w id k ≡ w
con_space w id (Root d) h = cc
con_space w id (Output o) h = cc
con_space w id (Space s) h = cc
con_space w id (Con d) h = refl

module _ (c : ConId) (q : Part) (a b : Forest) (own : same q.id c ≡ true) (is : is_con_kind q.kind ≡ true) where
  abbrev row : Forest
  row = con q a b end

  -- behind other nodes of its row
  pub append_has : (f : Forest) → has c (append f (con q a b end)) ≡ true
  append_has end = rw own refl
  append_has (con part kids floats rest) = in_rest c part kids floats (append rest (con q a b end)) (append_has rest)

  append_part : (f : Forest) → has c f ≡ false → first_part (only c (append f (con q a b end))) ≡ Some q
  append_part end h = rw own refl
  append_part (con part kids floats rest) h = let n = none_of_four (same part.id c) (has c kids) (has c floats) (has c rest) h in rw (n.0, n.1, n.2) (append_part rest n.3)

  append_spot : (s : Spot) (f : Forest) → has c f ≡ false → spot_in s c (append f (con q a b end)) ≡ Some (spot_of s q)
  append_spot s end h = rw own refl
  append_spot s (con part kids floats rest) h = let n = none_of_four (same part.id c) (has c kids) (has c floats) (has c rest) h in rw (n.0, n.1, n.2) (append_spot s rest n.3)

  own_space : (s : Spot) → spaced (Some (spot_of s q)) ≡ s.space
  own_space s = con_space s.space q.id q.kind is

  word_has : (p : Place) (part : Part) (kids floats rest : Forest) → has c (put_word p (con q a b end) part kids floats rest) ≡ true
  word_has (After d) part kids floats rest = in_rest c part kids floats (con q a b rest) (rw own refl)
  word_has (Before d) part kids floats rest = rw own refl
  word_has (First d) part kids floats rest = in_kids c part (con q a b kids) floats rest (rw own refl)
  word_has (Last d) part kids floats rest = in_kids c part (append kids (con q a b end)) floats rest (append_has kids)
  word_has (Float w r) part kids floats rest = in_floats c part kids (append floats (con q a b end)) rest (append_has floats)
  word_has (Scratchpad r) part kids floats rest = in_floats c part kids (append floats (con q a b end)) rest (append_has floats)

  word_lands : (p : Place) (w : Option ConId) (s : Spot) (part : Part) (kids floats rest : Forest) → has c (con part kids floats rest) ≡ false → Goal p w (Some part) (Some (spot_of s part))
      → Landed p w q (first_part (only c (put_word p (con q a b end) part kids floats rest))) (spot_in s c (put_word p (con q a b end) part kids floats rest))
  word_lands (After d) w s part kids floats rest h g =
      let n = none_of_four (same part.id c) (has c kids) (has c floats) (has c rest) h in
      record { part = rw (n.0, n.1, n.2, own) refl; space = rw (n.0, n.1, n.2, own) (own_space s ∙ (sym (con_space s.space part.id part.kind (g.con refl)) ∙ g.space)); tiled = rw (n.0, n.1, n.2, own) (g.tiled refl) }
  word_lands (Before d) w s part kids floats rest h g =
      record { part = rw own refl; space = rw own (own_space s ∙ (sym (con_space s.space part.id part.kind (g.con refl)) ∙ g.space)); tiled = rw own (g.tiled refl) }
  word_lands (First d) w s part kids floats rest h g =
      let n = none_of_four (same part.id c) (has c kids) (has c floats) (has c rest) h in
      record { part = rw (n.0, own) refl; space = rw (n.0, own) (own_space (spot_below true s part) ∙ g.space); tiled = rw (n.0, own) refl }
  word_lands (Last d) w s part kids floats rest h g =
      let n = none_of_four (same part.id c) (has c kids) (has c floats) (has c rest) h in
      record { part = rw (n.0, append_has kids) (append_part kids n.1); space = rw (n.0, append_has kids, append_spot (spot_below true s part) kids n.1) (own_space (spot_below true s part) ∙ g.space); tiled = rw (n.0, append_has kids, append_spot (spot_below true s part) kids n.1) refl }
  word_lands (Float v r) w s part kids floats rest h g =
      let n = none_of_four (same part.id c) (has c kids) (has c floats) (has c rest) h in
      record {
        part = rw (n.0, n.1, append_has floats) (append_part floats n.2);
        space = rw (n.0, n.1, append_has floats, append_spot (spot_below false s part) floats n.2) (own_space (spot_below false s part) ∙ g.space);
        tiled = rw (n.0, n.1, append_has floats, append_spot (spot_below false s part) floats n.2) refl;
      }
  word_lands (Scratchpad r) w s part kids floats rest h g =
      let n = none_of_four (same part.id c) (has c kids) (has c floats) (has c rest) h in
      record {
        part = rw (n.0, n.1, append_has floats) (append_part floats n.2);
        space = rw (n.0, n.1, append_has floats, append_spot (spot_below false s part) floats n.2) (own_space (spot_below false s part) ∙ g.space);
        tiled = rw (n.0, n.1, append_has floats, append_spot (spot_below false s part) floats n.2) refl;
      }

  put_has : (i : ConId) (p : Place) (f : Forest) → has i f ≡ true → has c (at i (put_word p) (con q a b end) f) ≡ true
  put_has i p end h = cc
  put_has i p (con part kids floats rest) h = step (same part.id i) (has i kids) (has i floats) h (put_has i p kids) (put_has i p floats) (put_has i p rest)
    where
      step : (x k l : Bool) → (x || k || l || has i rest) ≡ true → (k ≡ true → has c (at i (put_word p) (con q a b end) kids) ≡ true) → (l ≡ true → has c (at i (put_word p) (con q a b end) floats) ≡ true)
          → (has i rest ≡ true → has c (at i (put_word p) (con q a b end) rest) ≡ true)
          → has c (cond x (put_word p (con q a b end) part kids floats rest) (cond k (con part (at i (put_word p) (con q a b end) kids) floats rest) (cond l (con part kids (at i (put_word p) (con q a b end) floats) rest) (con part kids floats (at i (put_word p) (con q a b end) rest))))) ≡ true
      step true k l h u v w = word_has p part kids floats rest
      step false true l h u v w = in_kids c part (at i (put_word p) (con q a b end) kids) floats rest (u refl)
      step false false true h u v w = in_floats c part kids (at i (put_word p) (con q a b end) floats) rest (v refl)
      step false false false h u v w = in_rest c part kids floats (at i (put_word p) (con q a b end) rest) (w h)

  pub put_lands : (i : ConId) (p : Place) (w : Option ConId) (s : Spot) (f : Forest) → has i f ≡ true → has c f ≡ false → Goal p w (first_part (only i f)) (spot_in s i f)
      → Landed p w q (first_part (only c (at i (put_word p) (con q a b end) f))) (spot_in s c (at i (put_word p) (con q a b end) f))
  put_lands i p w s end h none g = cc
  put_lands i p w s (con part kids floats rest) h none g =
      step (same part.id i) (has i kids) (has i floats) refl refl h g (put_lands i p w (spot_below true s part) kids) (put_lands i p w (spot_below false s part) floats) (put_lands i p w s rest)
    where
      n : (same part.id c ≡ false) × (has c kids ≡ false) × (has c floats ≡ false) × (has c rest ≡ false)
      n = none_of_four (same part.id c) (has c kids) (has c floats) (has c rest) none

      Lands : Spot → Forest → Type 0
      Lands s f = Landed p w q (first_part (only c f)) (spot_in s c f)

      step : (x k l : Bool) → has i kids ≡ k → has i floats ≡ l → (x || k || l || has i rest) ≡ true
          → Goal p w (first_part (cond x (con part kids floats end) (cond k (only i kids) (cond l (only i floats) (only i rest))))) (cond x (Some (spot_of s part)) (cond k (spot_in (spot_below true s part) i kids) (cond l (spot_in (spot_below false s part) i floats) (spot_in s i rest))))
          → (k ≡ true → has c kids ≡ false → Goal p w (first_part (only i kids)) (spot_in (spot_below true s part) i kids) → Lands (spot_below true s part) (at i (put_word p) (con q a b end) kids))
          → (l ≡ true → has c floats ≡ false → Goal p w (first_part (only i floats)) (spot_in (spot_below false s part) i floats) → Lands (spot_below false s part) (at i (put_word p) (con q a b end) floats))
          → (has i rest ≡ true → has c rest ≡ false → Goal p w (first_part (only i rest)) (spot_in s i rest) → Lands s (at i (put_word p) (con q a b end) rest))
          → Lands s (cond x (put_word p (con q a b end) part kids floats rest) (cond k (con part (at i (put_word p) (con q a b end) kids) floats rest) (cond l (con part kids (at i (put_word p) (con q a b end) floats) rest) (con part kids floats (at i (put_word p) (con q a b end) rest)))))
      step true k l ek el h g u v z = word_lands p w s part kids floats rest none g
      step false true l ek el h g u v z = let r = u refl n.1 g in rw (n.0, put_has i p kids ek) r
      step false false true ek el h g u v z = let r = v refl n.2 g in rw (n.0, n.1, put_has i p floats el) r
      step false false false ek el h g u v z = let r = z h n.3 g in rw (n.0, n.1, n.2) r

-- ---- what moves

-- what is found of c is c alone
pub record Led (c : ConId) (g : Forest) : Type 0 where
  pub part : Part
  pub kids : Forest
  pub floats : Forest
  pub is : g ≡ con part kids floats end
  pub own : same part.id c ≡ true

pub led : (c : ConId) (f : Forest) → has c f ≡ true → Led c (only c f)
led c end h = cc
led c (con part kids floats rest) h = step (same part.id c) (has c kids) (has c floats) refl h (led c kids) (led c floats) (led c rest)
  where
    step : (x k l : Bool) → same part.id c ≡ x → (x || k || l || has c rest) ≡ true → (k ≡ true → Led c (only c kids)) → (l ≡ true → Led c (only c floats)) → (has c rest ≡ true → Led c (only c rest))
        → Led c (cond x (con part kids floats end) (cond k (only c kids) (cond l (only c floats) (only c rest))))
    step true k l ex h u v w = record { part = part; kids = kids; floats = floats; is = refl; own = ex }
    step false true l ex h u v w = u refl
    step false false true ex h u v w = v refl
    step false false false ex h u v w = w h

gone : (c : ConId) (f : Forest) → tally c f ≤ 1 → has c f ≡ true → has c (without c f) ≡ false
gone c f once there = by (has c (without c f)) refl
  where
    by : (b : Bool) → has c (without c f) ≡ b → b ≡ false
    by false e = refl
    by true e = absurd (omega (arith, once, count-without (one_of c) c f, found_counted c f there, counted c (without c f) e))

-- the kind with which it arrives
abbrev pub arrived : ℕ → Option Rect → Bool → NodeKind → NodeKind
arrived share rect away k = cond away (unfull_kind (placed share rect k)) (placed share rect k)

arrived_con : (share : ℕ) (rect : Option Rect) (away : Bool) (k : NodeKind) → is_con_kind (arrived share rect away k) ≡ is_con_kind k
arrived_con share rect true (Root d) = refl
arrived_con share rect true (Output o) = refl
arrived_con share rect true (Space w) = refl
arrived_con share rect true (Con d) = refl
arrived_con share rect false (Root d) = refl
arrived_con share rect false (Output o) = refl
arrived_con share rect false (Space w) = refl
arrived_con share rect false (Con d) = refl

-- a container that has moved: it has the part that it had but for its kind as it arrives, and is in the workspace of its place
pub record Moved (c : ConId) (p : Place) (w : Option ConId) (t : TreeValue) : Type 0 where
  pub was : Part
  pub found : first_part (only c t.nodes) ≡ Some was
  pub lands : Landed p w (record was { kind = arrived (moved_share c p t.nodes) (rect_at p) (apart t c (named p)) was.kind }) (first_part (only c (moved c p t).nodes)) (spot_in top c (moved c p t).nodes)

pub has_moved : (c : ConId) (p : Place) (w : Option ConId) (t : TreeValue) → IsSound t → IsGoal c p t → is_con (first_part (only c t.nodes)) ≡ true → Goal p w (first_part (only (named p) t.nodes)) (spot_in top (named p) t.nodes) → Moved c p w t
has_moved c p w t s g con_c goal = by (led c t.nodes g.0)
  where
    out : has (named p) (only c t.nodes) ≡ false
    out = g.2.2 g.0 g.1

    by : Led c (only c t.nodes) → Moved c p w t
    by l =
        let seen = seen-without c (named p) top t.nodes out in
        let found : first_part (only c t.nodes) ≡ Some l.part = ap first_part l.is in
        let con_own : is_con_kind l.part.kind ≡ true = ap is_con (sym found) ∙ con_c in
        let there : has (named p) (without c t.nodes) ≡ true = seen.there ∙ g.1 in
        let none : has c (without c t.nodes) ≡ false = gone c t.nodes (s.once c) g.0 in
        let still : Goal p w (first_part (only (named p) (without c t.nodes))) (spot_in top (named p) (without c t.nodes)) =
        record { space = ap spaced seen.spot ∙ goal.space; con = λ e. ap is_con seen.part ∙ goal.con e; tiled = λ e. ap is_tiled_spot seen.spot ∙ goal.tiled e } in
        let share : ℕ = moved_share c p t.nodes in
        let Lands : Forest → Type 0 = λ z. Landed p w (record l.part { kind = arrived share (rect_at p) (apart t c (named p)) l.part.kind }) (first_part (only c (put p (arriving share (rect_at p) (apart t c (named p)) z) (without c t.nodes))))
        (spot_in top c (put p (arriving share (rect_at p) (apart t c (named p)) z) (without c t.nodes))) in
        record { was = l.part; found = found; lands = subst Lands (sym l.is) (here l.part l.kids l.floats l.own con_own there none still (apart t c (named p))) }
      where
        here : (part : Part) (kids floats : Forest) → same part.id c ≡ true → is_con_kind part.kind ≡ true → has (named p) (without c t.nodes) ≡ true → has c (without c t.nodes) ≡ false
            → Goal p w (first_part (only (named p) (without c t.nodes))) (spot_in top (named p) (without c t.nodes)) → (away : Bool)
            → Landed p w (record part { kind = arrived (moved_share c p t.nodes) (rect_at p) away part.kind }) (first_part (only c (put p (arriving (moved_share c p t.nodes) (rect_at p) away (con part kids floats end)) (without c t.nodes))))
            (spot_in top c (put p (arriving (moved_share c p t.nodes) (rect_at p) away (con part kids floats end)) (without c t.nodes)))
        here part kids floats own con_own there none still true =
            put_lands c (record part { kind = arrived (moved_share c p t.nodes) (rect_at p) true part.kind }) (unfull nobody kids) (unfull nobody floats) own (arrived_con (moved_share c p t.nodes) (rect_at p) true part.kind ∙ con_own) (named p) p w top (without c t.nodes) there none still
        here part kids floats own con_own there none still false =
            put_lands c (record part { kind = arrived (moved_share c p t.nodes) (rect_at p) false part.kind }) kids floats own (arrived_con (moved_share c p t.nodes) (rect_at p) false part.kind ∙ con_own) (named p) p w top (without c t.nodes) there none still
