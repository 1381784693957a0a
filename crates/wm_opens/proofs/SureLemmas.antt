-- Steps of a sound tree that keep it sound, keep what is known, and keep containers without floating windows.
use Rattle.std.proofs.Common.{◌≡◌, ◌≢◌, ℕ, ◌+◌, ◌≤◌, ◌<◌, Bool, true, false, cond, List, [], ◌∷◌, ltb, Option, None, Some, refl, ap, arith}
use Rattle.std.proofs.lemmas.Bool.Decides.{nat_tests}
use Rattle.wm_base.specs.declared.errors.Limit.{Limit}
use Rattle.wm_base.specs.declared.ids.ConId.{ConId}
use Rattle.wm_base.specs.declared.plan.Layout.{Layout}
use Rattle.wm_opens.proofs.KeptLemmas.{Kept, kept_edited, kept_exchanged, kept_moved, kept_raised, kept_refl, kept_space_moved, kept_trans, kept_with_space, kept_wrapped}
use Rattle.wm_opens.proofs.MeasureLemmas.{kinds_at, kinds_fresh, kinds_measured, others, others_kept}
use Rattle.wm_opens.proofs.OpenLemmas.{IsAt, found_at, no_more, windows_tallied}
use Rattle.wm_opens.proofs.TidyLemmas.{IsFreeAt, tidy_arriving, tidy_edited, tidy_exchanged, tidy_loosened, tidy_only, tidy_put, tidy_raised_in, tidy_sticky, tidy_unfull, tidy_without, tidy_wrapped, tidy_first_floats}
use Rattle.wm_opens.proofs.WordLemmas.{count-loosened}
use Rattle.wm_opens.specs.Opens.{IsTidy, is_fill, window_at, windows, windows_at}
use Rattle.wm_shared.specs.Refusing.{full_error}
use Rattle.wm_forest.specs.Change.{is_window_kind}
use Rattle.wm_forest.proofs.CountLemmas.{count-without, found_counted, tally-absent}
use Rattle.wm_forest.proofs.ForestLemmas.{only_absent}
use Rattle.wm_tree.proofs.MoveLemmas.{sound-moved}
use Rattle.wm_tree.proofs.RaiseLemmas.{sound-raised}
use Rattle.wm_forest.proofs.RecencyLemmas.{same_self}
use Rattle.wm_forest.proofs.TimesLemmas.{times-append, times-raised}
use Rattle.wm_tree.specs.Along.{gone_along, nowhere}
use Rattle.wm_forest.specs.Sticky.{loosened, sticky}
use Rattle.wm_forest.specs.Change.{arriving, at, nobody, unfull, without, raised_at}
use Rattle.wm_forest.specs.Counts.{count, one_con}
use Rattle.wm_forest.specs.declared.kind.KindEdit.{KindEdit}
use Rattle.wm_forest.specs.declared.part.NodeKind.{NodeKind}
use Rattle.wm_forest.specs.declared.part.NodeKind.TheVariants.{Root, Output, Space, Con}
use Rattle.wm_forest.specs.declared.part.Part.{Part}
use Rattle.wm_forest.specs.declared.place.NewCon.TheVariants as new
use Rattle.wm_forest.specs.declared.place.Place.{Place}
use Rattle.wm_forest.specs.declared.place.Place.TheVariants.{After, Before, First, Last, Float, Scratchpad}
use Rattle.wm_forest.specs.Forest.{Forest, end, con}
use Rattle.wm_forest.specs.Look.{con_kind, first_floats, first_part, has, kind_by, kind_of, only, same, space_kind}
use Rattle.wm_tree.specs.Move.{IsMove, apart, exchanged, moved, moved_share, passed_by_move, share_in, wrapped}
use Rattle.wm_tree.specs.Outputs.{new_space, space_moved, with_space}
use Rattle.wm_forest.specs.Place.{IsPlace, named, new_part, rect_at}
use Rattle.wm_forest.specs.SoundRow.{IsNode, IsSoundRow, one_of, ranked, ranks, roots, tally, times}
use Rattle.wm_tree.specs.Sound.{IsSound}
use Rattle.wm_tree.specs.TreeValue.{TreeValue, workspace_of}
use Rattle.wm_forest.specs.RootId.{id, root}
use Rattle.wm_tree.specs.Words.{edited, with_raised}

-- the new tree is sound, counts no more by any measure, knows what the old one knew, and is as tidy
pub record Sure (t new : TreeValue) : Type 0 where
  pub sound : IsSound new
  pub kept : Kept t new
  pub again : (v : ConId) → v.0 < t.next_id → times v t.recency ≤ times v new.recency
  pub tidy : IsTidy t.nodes → IsTidy new.nodes

pub sure_refl : (t : TreeValue) → IsSound t → Sure t t
sure_refl t s = record { sound = s; kept = kept_refl t; again = λ v below. omega arith; tidy = λ p. p }

pub sure_trans : (a b c : TreeValue) → Sure a b → Sure b c → Sure a c
sure_trans a b c p q = record {
  sound = q.sound;
  kept = kept_trans a b c p.kept q.kept;
  again = λ v below. let first = p.kept.next in omega (arith, p.again v below, q.again v (omega (arith, below, first)));
  tidy = λ h. q.tidy (p.tidy h);
}

-- ---- such steps keep each window

-- windows and others are what is ranked
ranks_both : (b : Bool) (kind : NodeKind) → cond b (ranks kind) 0 ≡ cond b (windows kind) 0 + cond b (others kind) 0
ranks_both true (Root c) = refl
ranks_both true (Output o) = refl
ranks_both true (Space s) = refl
ranks_both true (Con c) = by_kind (is_window_kind c.kind)
  where
    by_kind : (b : Bool) → 1 ≡ cond b 1 0 + cond b 0 1
    by_kind true = refl
    by_kind false = refl
ranks_both false kind = refl

ranked_both : (v : ConId) (f : Forest) → ranked v f ≡ count (window_at v) f + count (kinds_at others v) f
ranked_both v end = refl
ranked_both v (con part kids floats rest) = omega (arith, ranks_both (same part.id v) part.kind, ranked_both v kids, ranked_both v floats, ranked_both v rest)

-- a step that is sure keeps each window
pub sure_windows : (v : ConId) (t new : TreeValue) → IsSound t → Sure t new → windows_at v new ≡ windows_at v t
sure_windows v t new s h = by_test (ltb v.0 t.next_id) refl
  where
    by_test : (b : Bool) → ltb v.0 t.next_id ≡ b → windows_at v new ≡ windows_at v t
    by_test true e =
        let below : v.0 < t.next_id = grind (arith, nat_tests) in
        let rest : count (kinds_at others v) new.nodes ≤ count (kinds_at others v) t.nodes =
        (h.kept.fewer (kinds_at others v) (kinds_measured others v others_kept)).fewer (kinds_fresh others v t.next_id below) in
        omega (arith, no_more v t new h.kept, rest, ranked_both v t.nodes, ranked_both v new.nodes, s.known v, h.sound.known v, h.again v below)
    by_test false e =
        let late : t.next_id ≤ v.0 = grind (arith, nat_tests) in
        omega (arith, no_more v t new h.kept, windows_tallied v t.nodes, s.fresh v late)

-- ---- ids of no container

-- no container has the id
abbrev pub IsNoCon : ConId → Forest → Type 0
IsNoCon w f = count (kinds_at one_con w) f ≡ 0

one_or_none : (b : Bool) (kind : NodeKind) → cond b (one_con kind) 0 ≤ cond b 1 0
one_or_none true (Root c) = omega arith
one_or_none true (Output o) = omega arith
one_or_none true (Space s) = omega arith
one_or_none true (Con c) = omega arith
one_or_none false kind = omega arith

pub cons_tallied : (w : ConId) (f : Forest) → count (kinds_at one_con w) f ≤ tally w f
cons_tallied w end = omega arith
cons_tallied w (con part kids floats rest) = omega (arith, one_or_none (same part.id w) part.kind, cons_tallied w kids, cons_tallied w floats, cons_tallied w rest)

no_con_kind : (kind : NodeKind) → one_con kind ≡ 0 → con_kind kind ≡ None
no_con_kind (Root c) h = refl
no_con_kind (Output o) h = refl
no_con_kind (Space s) h = refl
no_con_kind (Con c) h = absurd (omega (arith, h))

first_no_con : (w : ConId) (g : Forest) → IsAt w g → count (kinds_at one_con w) g ≡ 0 → kind_by con_kind (first_part g) ≡ None
first_no_con w end at none = refl
first_no_con w (con part kids floats rest) at none =
    let here : kinds_at one_con w part ≡ one_con part.kind = ap (λ b. cond b (one_con part.kind) 0) at.0 in
    no_con_kind part.kind (omega (arith, here, none))

-- what such an id names is no container
pub no_con_none : (w : ConId) (f : Forest) → IsNoCon w f → kind_of con_kind w f ≡ None
no_con_none w f none = by_test (has w f) refl
  where
    by_test : (b : Bool) → has w f ≡ b → kind_of con_kind w f ≡ None
    by_test true e = first_no_con w (only w f) (found_at w f e) (omega (arith, none, count-without (kinds_at one_con w) w f))
    by_test false e = ap (λ g. kind_by con_kind (first_part g)) (only_absent w f e)

space_one : (kind : NodeKind) → space_kind kind ≢ None → one_con kind ≡ 0
space_one (Root c) ok = refl
space_one (Output o) ok = refl
space_one (Space s) ok = refl
space_one (Con c) ok = absurd (ok refl)

nothing_by : (b : Bool) (n : ℕ) → n ≡ 0 → cond b n 0 ≡ 0
nothing_by true n e = e
nothing_by false n e = refl

-- the first node has the id, and is no container
pub first_alone_no : (w : ConId) (part : Part) (kids floats rest : Forest) → same part.id w ≡ true → one_con part.kind ≡ 0 → tally w (con part kids floats rest) ≤ 1 → IsNoCon w (con part kids floats rest)
first_alone_no w part kids floats rest own none once =
    let is : one_of w part ≡ 1 = ap (λ b. cond {A = ℕ} b 1 0) own in
    let zero : kinds_at one_con w part ≡ 0 = nothing_by (same part.id w) (one_con part.kind) none in
    omega (arith, is, zero, once, cons_tallied w kids, cons_tallied w floats, cons_tallied w rest)

space_first : (w : ConId) (g : Forest) → IsAt w g → tally w g ≤ 1 → kind_by space_kind (first_part g) ≢ None → IsNoCon w g
space_first w end at once ok = refl
space_first w (con part kids floats rest) at once ok = first_alone_no w part kids floats rest at.0 (space_one part.kind ok) once

-- no container has the id of a workspace
pub space_no_con : (w : ConId) (t : TreeValue) → IsSound t → kind_of space_kind w t.nodes ≢ None → IsNoCon w t.nodes
space_no_con w t s ok = by_test (has w t.nodes) refl
  where
    by_test : (b : Bool) → has w t.nodes ≡ b → IsNoCon w t.nodes
    by_test true e =
        let all : tally w (without w t.nodes) + tally w (only w t.nodes) ≡ tally w t.nodes = count-without (one_of w) w t.nodes in
        let here : IsNoCon w (only w t.nodes) = space_first w (only w t.nodes) (found_at w t.nodes e) (omega (arith, all, s.once w)) ok in
        omega (arith, here, all, s.once w, found_counted w t.nodes e, cons_tallied w (without w t.nodes), count-without (kinds_at one_con w) w t.nodes)
    by_test false e = omega (arith, cons_tallied w t.nodes, tally-absent w t.nodes e)

root_first : (f : Forest) → IsSoundRow roots false 0 f → tally root f ≤ 1 → IsNoCon root f
root_first end p once = refl
root_first (con part kids floats rest) p once = by_kind part.kind refl p.0
  where
    by_kind : (kind : NodeKind) → part.kind ≡ kind → IsNode roots false 0 part.id kind part.marks kids → IsNoCon root (con part kids floats rest)
    by_kind (Root c) e n = first_alone_no root part kids floats rest (same_self part.id root n.0) (ap one_con e) once
    by_kind (Output o) e n = absurd n
    by_kind (Space s) e n = absurd n
    by_kind (Con c) e n = absurd n

-- the root is no container
pub root_no_con : (t : TreeValue) → IsSound t → IsNoCon root t.nodes
root_no_con t s = root_first t.nodes s.shaped (s.once root)

-- ---- words

-- a step that leaves the order of recency as it is
pub sure_by : (t new : TreeValue) → IsSound new → Kept t new → new.recency ≡ t.recency → (IsTidy t.nodes → IsTidy new.nodes) → Sure t new
sure_by t new s k e h = record { sound = s; kept = k; again = λ v below. rw e (omega arith); tidy = h }

pub sure_edited : (c : ConId) (edit : KindEdit) (t : TreeValue) → is_fill edit ≡ false → IsSound (edited c edit t) → Sure t (edited c edit t)
sure_edited c edit t h s = sure_by t (edited c edit t) s (kept_edited c edit t h) refl (tidy_edited c edit t.nodes)

tidy_raised : (c : ConId) (w : Option ConId) (f : Forest) → IsTidy f → IsTidy (raised_at c w f)
tidy_raised c None f p = p
tidy_raised c (Some w) f p = tidy_raised_in w c f p

pub sure_raised : (c : ConId) (t : TreeValue) → IsSound t → Sure t (with_raised c t)
sure_raised c t s = record {
  sound = sound-raised c t s;
  kept = kept_raised c t;
  again = λ v below. omega (arith, times-raised v c t.recency);
  tidy = tidy_raised c (workspace_of t c) t.nodes;
}

-- a container may move to the place
pub record MayMove (c : ConId) (p : Place) (t : TreeValue) : Type 0 where
  pub is_con : kind_of con_kind c t.nodes ≢ None
  pub here : has c t.nodes ≡ true
  pub there : has (named p) t.nodes ≡ true
  pub outside : has (named p) (only c t.nodes) ≡ false
  pub fits : IsPlace p t.nodes

-- a goal of a move, as commands say it
pub may_move : (c : ConId) (p : Place) (t : TreeValue) → (has c t.nodes ≡ true) × (has (named p) t.nodes ≡ true) × IsMove c p t.nodes → MayMove c p t
may_move c p t g = record { is_con = g.2.0 g.0; here = g.0; there = g.1; outside = g.2.2 g.0 g.1; fits = g.2.1 }

free_place : (c : ConId) (p : Place) (t : TreeValue) → IsSound t → has (named p) t.nodes ≡ true → IsPlace p t.nodes → IsFreeAt p (without c t.nodes)
free_place c (After n) t s h fits = tt
free_place c (Before n) t s h fits = tt
free_place c (First n) t s h fits = tt
free_place c (Last n) t s h fits = tt
free_place c (Float w r) t s h fits =
    let none : IsNoCon w t.nodes = space_no_con w t s (fits h) in
    no_con_none w (without c t.nodes) (omega (arith, none, count-without (kinds_at one_con w) c t.nodes))
free_place c (Scratchpad r) t s h fits =
    let none : IsNoCon root t.nodes = root_no_con t s in
    no_con_none root (without c t.nodes) (omega (arith, none, count-without (kinds_at one_con root) c t.nodes))

pub not_full : (o : Option Limit) → full_error o ≡ None → o ≡ None
not_full None h = refl
not_full (Some l) h = cc

pub sure_moved : (c : ConId) (p : Place) (t : TreeValue) → IsSound t → MayMove c p t → full_error (passed_by_move c p t.nodes) ≡ None → Sure t (moved c p t)
sure_moved c p t s g fits =
    sure_by t (moved c p t) (sound-moved c p t g.is_con g.here g.there g.outside g.fits (not_full (passed_by_move c p t.nodes) fits) s) (kept_moved c p t) refl
    (λ h. tidy_put p (arriving (moved_share c p t.nodes) (rect_at p) (apart t c (named p)) (only c t.nodes)) (without c t.nodes) (free_place c p t s g.there g.fits)
    (tidy_arriving (moved_share c p t.nodes) (rect_at p) (apart t c (named p)) (only c t.nodes) (tidy_only c t.nodes h)) (tidy_without c t.nodes h))

pub sure_exchanged : (a b : ConId) (t : TreeValue) → has a t.nodes ≡ true → IsSound (exchanged a b t) → Sure t (exchanged a b t)
sure_exchanged a b t h s = sure_by t (exchanged a b t) s (kept_exchanged a b t h) refl (tidy_exchanged a b (share_in a t.nodes) (share_in b t.nodes) (apart t a b) t.nodes)

pub sure_wrapped : (c : ConId) (layout : Layout) (t : TreeValue) → IsSound (wrapped c layout t) → Sure t (wrapped c layout t)
sure_wrapped c layout t s = record {
  sound = s;
  kept = kept_wrapped c layout t;
  again = λ v below. omega (arith, times-append v t.recency (id t.next_id ∷ []));
  tidy = tidy_wrapped c (new_part (id t.next_id) (share_in c t.nodes) t.border None (new.Split layout)) t.nodes;
}

pub sure_with_space : (o : ConId) (name : List ℕ) (t : TreeValue) → IsSound (with_space o name t) → Sure t (with_space o name t)
sure_with_space o name t s = record {
  sound = s;
  kept = kept_with_space o name t;
  again = λ v below. omega (arith, times-append v t.recency (id t.next_id ∷ []));
  tidy = tidy_put (Last o) (new_space (id t.next_id) name t) t.nodes tt (tt, tt, tt, tt);
}

pub sure_space_moved : (w o : ConId) (t : TreeValue) → IsSound (space_moved w o t) → Sure t (space_moved w o t)
sure_space_moved w o t s =
    sure_by t (space_moved w o t) s (kept_space_moved w o t) refl (λ h. tidy_put (Last o) (only w t.nodes) (without w t.nodes) tt (tidy_only w t.nodes h) (tidy_without w t.nodes h))

-- sticky windows that come to what is no container
pub tidy_along : (v w : ConId) (t : TreeValue) → IsNoCon w t.nodes → IsTidy t.nodes → IsTidy (gone_along v w t).nodes
tidy_along v w t none h =
    let loosened_none : IsNoCon w (at v loosened end t.nodes) = omega (arith, none, count-loosened (kinds_at one_con w) v t.nodes) in
    tidy_put (Float w nowhere) (unfull nobody (sticky (first_floats (only v t.nodes)))) (at v loosened end t.nodes) (no_con_none w (at v loosened end t.nodes) loosened_none)
    (tidy_unfull nobody (sticky (first_floats (only v t.nodes))) (tidy_sticky (first_floats (only v t.nodes)) (tidy_first_floats (only v t.nodes) (tidy_only v t.nodes h)))) (tidy_loosened v t.nodes h)
