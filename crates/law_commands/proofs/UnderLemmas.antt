-- What stands below a workspace, and which changes keep it there.
use Rattle.std.proofs.Common.{◌≡◌, ◌≢◌, ◌≤◌, Bool, true, false, cond, ◌||◌, ◌⊎◌, inl, inr, Option, None, Some, refl, ap, sym, ◌∙◌, arith}
use Rattle.std.specs.Prelude.{option_and_then}
use Rattle.wm_base.specs.declared.geometry.Rect.{Rect}
use Rattle.wm_base.specs.declared.ids.ConId.{ConId}
use Rattle.wm_shared.proofs.SpaceLemmas.{IsSpaceIn}
use Rattle.wm_shared.proofs.SpaceOfLemmas.{IsLow, LowKind, below_space}
use Rattle.wm_tree.proofs.AlongLemmas.{has_loose}
use Rattle.wm_forest.proofs.ChangeLemmas.{by_change}
use Rattle.wm_forest.proofs.CountLemmas.{counted, there}
use Rattle.wm_forest.proofs.LookLemmas.{none_of_four}
use Rattle.wm_forest.proofs.OnceLemmas.{in_floats, in_kids, in_rest, only_floats, only_kids, only_rest}
use Rattle.wm_tree.proofs.RaiseLemmas.{count-raised}
use Rattle.wm_forest.proofs.RecencyLemmas.{same_is, same_self}
use Rattle.wm_forest.specs.Sticky.{loose, loosened}
use Rattle.wm_forest.specs.Change.{append, at, raised_in, to_end, unfull, raised_at}
use Rattle.wm_forest.specs.declared.kind.KindEdit.{KindEdit}
use Rattle.wm_forest.specs.declared.part.NodeKind.{NodeKind}
use Rattle.wm_forest.specs.declared.part.NodeKind.TheVariants.{Root, Output, Space, Con}
use Rattle.wm_forest.specs.declared.part.Part.{Part}
use Rattle.wm_forest.specs.declared.place.Place.TheVariants.{Float}
use Rattle.wm_forest.specs.declared.spot.Spot.{Spot}
use Rattle.wm_forest.specs.Forest.{Forest, end, con}
use Rattle.wm_forest.specs.Kinds.{kind_changed}
use Rattle.wm_forest.specs.Look.{first_part, has, kind_by, only, same, space_kind}
use Rattle.wm_forest.specs.Place.{put_word}
use Rattle.wm_tree.specs.Sound.{IsSound}
use Rattle.wm_forest.specs.SoundRow.{one_of, tally}
use Rattle.wm_forest.specs.Spot.{space_at, space_by, spot_below, spot_in, spot_of, top}
use Rattle.wm_tree.specs.TreeValue.{TreeValue, workspace_of}

-- the node w is there, and c is below it, or is it
pub record IsUnder (c w : ConId) (f : Forest) : Type 0 where
  pub there : has w f ≡ true
  pub under : has c (only w f) ≡ true

-- ---- a change of the node w itself

module _ {X : Type 0} (c w : ConId) (f : X → Part → Forest → Forest → Forest → Forest) (x : X) (B : Forest → Type 0)
    (here : (part : Part) (kids floats rest : Forest) → same part.id w ≡ true → B (con part kids floats end) → IsUnder c w (f x part kids floats rest))
  where
    pub under_at : (g : Forest) → has w g ≡ true → B (only w g) → IsUnder c w (at w f x g)
    under_at end h b = cc
    under_at (con part kids floats rest) h b = step (same part.id w) (has w kids) (has w floats) refl refl refl h b (under_at kids) (under_at floats) (under_at rest)
      where
        step : (a k l : Bool) → same part.id w ≡ a → has w kids ≡ k → has w floats ≡ l → (a || k || l || has w rest) ≡ true → B (cond a (con part kids floats end) (cond k (only w kids) (cond l (only w floats) (only w rest))))
            → (has w kids ≡ true → B (only w kids) → IsUnder c w (at w f x kids)) → (has w floats ≡ true → B (only w floats) → IsUnder c w (at w f x floats)) → (has w rest ≡ true → B (only w rest) → IsUnder c w (at w f x rest))
            → IsUnder c w (cond a (f x part kids floats rest) (cond k (con part (at w f x kids) floats rest) (cond l (con part kids (at w f x floats) rest) (con part kids floats (at w f x rest)))))
        step true k l ea ek el h b u v r = here part kids floats rest ea b
        step false true l ea ek el h b u v r = let g = u ek b in record { there = rw (ea, g.there) refl; under = rw (ea, g.there) g.under }
        step false false true ea ek el h b u v r = let g = v el b in record { there = rw (ea, ek, g.there) refl; under = rw (ea, ek, g.there) g.under }
        step false false false ea ek el h b u v r = let g = r h b in record { there = rw (ea, ek, el, g.there) refl; under = rw (ea, ek, el) g.under }

-- what is there is there behind another row, and before one
pub has_left : (i : ConId) (a b : Forest) → has i a ≡ true → has i (append a b) ≡ true
has_left i end b h = cc
has_left i (con part kids floats rest) b h = step (same part.id i) (has i kids) (has i floats) h (has_left i rest b)
  where
    step : (a k l : Bool) → (a || k || l || has i rest) ≡ true → (has i rest ≡ true → has i (append rest b) ≡ true) → (a || k || l || has i (append rest b)) ≡ true
    step true k l h u = refl
    step false true l h u = refl
    step false false true h u = refl
    step false false false h u = u h

pub has_right : (i : ConId) (a b : Forest) → has i b ≡ true → has i (append a b) ≡ true
has_right i end b h = h
has_right i (con part kids floats rest) b h = in_rest i part kids floats (append rest b) (has_right i rest b h)

-- raising c keeps it below its workspace
pub under_raised : (c w : ConId) (f : Forest) → IsUnder c w f → IsUnder c w (at w raised_in c f)
under_raised c w f h = under_at c w raised_in c (λ g. has c g ≡ true) here f h.there h.under
  where
    here : (part : Part) (kids floats rest : Forest) → same part.id w ≡ true → has c (con part kids floats end) ≡ true → IsUnder c w (con part (unfull c kids) (to_end c (unfull c floats)) rest)
    here part kids floats rest e h =
        let own : raised_at c (Some part.id) (con part kids floats end) ≡ con part (unfull c kids) (to_end c (unfull c floats)) end = rw (same_self part.id part.id refl) refl in
        let sum : tally c (con part (unfull c kids) (to_end c (unfull c floats)) end) ≡ tally c (con part kids floats end) = ap (tally c) (sym own) ∙ count-raised (one_of c) (λ q. refl) c (Some part.id) (con part kids floats end) in
        let kept : has c (con part (unfull c kids) (to_end c (unfull c floats)) end) ≡ true = there c (con part (unfull c kids) (to_end c (unfull c floats)) end) (omega (arith, sum, counted c (con part kids floats end) h)) in
        record { there = rw e refl; under = rw e kept }

-- floating windows that come to w keep what is below it there
pub under_joined : (c w : ConId) (r : Rect) (row f : Forest) → IsUnder c w f → IsUnder c w (at w (put_word (Float w r)) row f)
under_joined c w r row f h = under_at c w (put_word (Float w r)) row (λ g. has c g ≡ true) here f h.there h.under
  where
    here : (part : Part) (kids floats rest : Forest) → same part.id w ≡ true → has c (con part kids floats end) ≡ true → IsUnder c w (con part kids (append floats row) rest)
    here part kids floats rest e h = record { there = rw e refl; under = rw e (step (same part.id c) (has c kids) (has c floats) h (has_left c floats row)) }
      where
        step : (a k l : Bool) → (a || k || l || false) ≡ true → (l ≡ true → has c (append floats row) ≡ true) → (a || k || has c (append floats row) || false) ≡ true
        step true k l h u = refl
        step false true l h u = refl
        step false false true h u = rw (u refl) refl
        step false false false h u = cc

-- and are below it themselves
pub under_come : (c w : ConId) (r : Rect) (row f : Forest) → has w f ≡ true → has c row ≡ true → IsUnder c w (at w (put_word (Float w r)) row f)
under_come c w r row f there h = under_at c w (put_word (Float w r)) row (λ g. Unit {0}) here f there tt
  where
    here : (part : Part) (kids floats rest : Forest) → same part.id w ≡ true → Unit {0} → IsUnder c w (con part kids (append floats row) rest)
    here part kids floats rest e u = record { there = rw e refl; under = rw e (step (same part.id c) (has c kids) (has_right c floats row h)) }
      where
        step : (a k : Bool) → has c (append floats row) ≡ true → (a || k || has c (append floats row) || false) ≡ true
        step true k g = refl
        step false true g = refl
        step false false g = rw g refl

-- ---- a change of another node

-- c and w are there as before, and c is below w as before
pub record StaysUnder (c w : ConId) (old new : Forest) : Type 0 where
  pub one : has c new ≡ has c old
  pub space : has w new ≡ has w old
  pub under : has c (only w new) ≡ has c (only w old)

pub still_under : (c w : ConId) (old new : Forest) → StaysUnder c w old new → IsUnder c w old → IsUnder c w new
still_under c w old new s h = record { there = s.space ∙ h.there; under = s.under ∙ h.under }

pub stays_trans : (c w : ConId) (f g h : Forest) → StaysUnder c w f g → StaysUnder c w g h → StaysUnder c w f h
stays_trans c w f g h a b = record { one = b.one ∙ a.one; space = b.space ∙ a.space; under = b.under ∙ a.under }

module _ {X : Type 0} (c w x : ConId) (f : X → Part → Forest → Forest → Forest → Forest) (y : X) (A : Forest → Type 0)
    (here : (part : Part) (kids floats rest : Forest) → A (con part kids floats end) → StaysUnder c w (con part kids floats rest) (f y part kids floats rest))
  where
    pub stays_at : (g : Forest) → A (only x g) → StaysUnder c w g (at x f y g)
    stays_at =
        by_change x f y (λ old new found. A found → StaysUnder c w old new) (λ a. record { one = refl; space = refl; under = refl }) here
        (λ part kids floats rest new found p a.
        let s = p a in record { one = ap (λ z. same part.id c || z || has c floats || has c rest) s.one; space = ap (λ z. same part.id w || z || has w floats || has w rest) s.space; under = by_kids (same part.id w) part kids floats rest new s })
        (λ part kids floats rest new found p a.
        let s = p a in record { one = ap (λ z. same part.id c || has c kids || z || has c rest) s.one; space = ap (λ z. same part.id w || has w kids || z || has w rest) s.space; under = by_floats (same part.id w) (has w kids) part kids floats rest new s })
        (λ part kids floats rest new found p a.
        let s = p a in record { one = ap (λ z. same part.id c || has c kids || has c floats || z) s.one; space = ap (λ z. same part.id w || has w kids || has w floats || z) s.space; under = by_rest (same part.id w) (has w kids) (has w floats) part kids floats rest new s })
      where
        by_kids : (a : Bool) (part : Part) (kids floats rest new : Forest) → StaysUnder c w kids new
            → has c (cond a (con part new floats end) (cond (has w new) (only w new) (cond (has w floats) (only w floats) (only w rest))))
            ≡ has c (cond a (con part kids floats end) (cond (has w kids) (only w kids) (cond (has w floats) (only w floats) (only w rest))))
        by_kids true part kids floats rest new s = ap (λ z. same part.id c || z || has c floats || false) s.one
        by_kids false part kids floats rest new s = rw s.space (choose (has w kids))
          where
            choose : (b : Bool) → has c (cond b (only w new) (cond (has w floats) (only w floats) (only w rest))) ≡ has c (cond b (only w kids) (cond (has w floats) (only w floats) (only w rest)))
            choose true = s.under
            choose false = refl

        by_floats : (a k : Bool) (part : Part) (kids floats rest new : Forest) → StaysUnder c w floats new
            → has c (cond a (con part kids new end) (cond k (only w kids) (cond (has w new) (only w new) (only w rest))))
            ≡ has c (cond a (con part kids floats end) (cond k (only w kids) (cond (has w floats) (only w floats) (only w rest))))
        by_floats true k part kids floats rest new s = ap (λ z. same part.id c || has c kids || z || false) s.one
        by_floats false true part kids floats rest new s = refl
        by_floats false false part kids floats rest new s = rw s.space (choose (has w floats))
          where
            choose : (b : Bool) → has c (cond b (only w new) (only w rest)) ≡ has c (cond b (only w floats) (only w rest))
            choose true = s.under
            choose false = refl

        by_rest : (a k l : Bool) (part : Part) (kids floats rest new : Forest) → StaysUnder c w rest new
            → has c (cond a (con part kids floats end) (cond k (only w kids) (cond l (only w floats) (only w new))))
            ≡ has c (cond a (con part kids floats end) (cond k (only w kids) (cond l (only w floats) (only w rest))))
        by_rest true k l part kids floats rest new s = refl
        by_rest false true l part kids floats rest new s = refl
        by_rest false false true part kids floats rest new s = refl
        by_rest false false false part kids floats rest new s = s.under

pub stays_edited : (c w x : ConId) (e : KindEdit) (g : Forest) → StaysUnder c w g (at x kind_changed e g)
stays_edited c w x e g = stays_at c w x kind_changed e (λ z. Unit {0}) (λ part kids floats rest u. record { one = refl; space = refl; under = here part kids floats rest (same part.id w) }) g tt
  where
    here : (part : Part) (kids floats rest : Forest) (a : Bool)
        → has c (cond a (kind_changed e part kids floats end) (cond (has w kids) (only w kids) (cond (has w floats) (only w floats) (only w rest)))) ≡ has c (cond a (con part kids floats end) (cond (has w kids) (only w kids) (cond (has w floats) (only w floats) (only w rest))))
    here part kids floats rest true = refl
    here part kids floats rest false = refl

-- sticky windows of another workspace go away, where neither is below that
pub stays_loosened : (c w v : ConId) (g : Forest) → has c (only v g) ≡ false → has w (only v g) ≡ false → StaysUnder c w g (at v loosened end g)
stays_loosened c w v g hc hw = stays_at c w v loosened end (λ z. (has c z ≡ false) × (has w z ≡ false)) here g (hc, hw)
  where
    here : (part : Part) (kids floats rest : Forest) → (has c (con part kids floats end) ≡ false) × (has w (con part kids floats end) ≡ false) → StaysUnder c w (con part kids floats rest) (con part kids (loose floats) rest)
    here part kids floats rest a =
        let n = none_of_four (same part.id c) (has c kids) (has c floats) false a.0 in
        let m = none_of_four (same part.id w) (has w kids) (has w floats) false a.1 in
        let c_loose = has_loose c floats n.2 in
        let w_loose = has_loose w floats m.2 in
        record { one = rw (n.2, c_loose) refl; space = rw (m.2, w_loose) refl; under = rw (m.0, m.1, m.2, w_loose) refl }

-- ---- the workspace of a node

abbrev spaced : Option Spot → Option ConId
spaced o = option_and_then (λ (s : Spot). s.space) o

abbrev Once : Forest → Type 0
Once f = (i : ConId) → tally i f ≤ 1

-- a workspace is its own
pub own_spot : (w : ConId) (s : Spot) (f : Forest) → IsSpaceIn w f → spaced (spot_in s w f) ≡ Some w
own_spot w s end ok = absurd (ok refl)
own_spot w s (con part kids floats rest) ok = step (same part.id w) (has w kids) (has w floats) refl ok (own_spot w (spot_below true s part) kids) (own_spot w (spot_below false s part) floats) (own_spot w s rest)
  where
    own : (kind : NodeKind) → part.id ≡ w → space_kind kind ≢ None → space_by s.space part.id kind ≡ Some w
    own (Root d) e ok = absurd (ok refl)
    own (Output o) e ok = absurd (ok refl)
    own (Con d) e ok = absurd (ok refl)
    own (Space x) e ok = ap Some e

    step : (a k l : Bool) → same part.id w ≡ a → kind_by space_kind (first_part (cond a (con part kids floats end) (cond k (only w kids) (cond l (only w floats) (only w rest))))) ≢ None
        → (IsSpaceIn w kids → spaced (spot_in (spot_below true s part) w kids) ≡ Some w) → (IsSpaceIn w floats → spaced (spot_in (spot_below false s part) w floats) ≡ Some w) → (IsSpaceIn w rest → spaced (spot_in s w rest) ≡ Some w)
        → spaced (cond a (Some (spot_of s part)) (cond k (spot_in (spot_below true s part) w kids) (cond l (spot_in (spot_below false s part) w floats) (spot_in s w rest)))) ≡ Some w
    step true k l e ok u v x = own part.kind (same_is part.id w e) ok
    step false true l e ok u v x = u ok
    step false false true e ok u v x = v ok
    step false false false e ok u v x = x ok

space_low : (f : Forest) → kind_by space_kind (first_part f) ≢ None → IsLow (first_part f)
space_low end ok = absurd (ok refl)
space_low (con part kids floats rest) ok = by part.kind ok
  where
    by : (kind : NodeKind) → space_kind kind ≢ None → LowKind kind
    by (Root c) ok = absurd (ok refl)
    by (Output o) ok = absurd (ok refl)
    by (Space w) ok = tt
    by (Con c) ok = absurd (ok refl)

-- what is below a workspace is in it
pub space_under : (c w : ConId) (t : TreeValue) → IsSound t → IsSpaceIn w t.nodes → has c (only w t.nodes) ≡ true → workspace_of t c ≡ Some w
space_under c w t s ok h = below_space w c t s (space_low (only w t.nodes) ok) h ∙ own_spot w top t.nodes ok

under_spot : (c w : ConId) (s : Spot) (f : Forest) → Once f → spaced (spot_in s c f) ≡ Some w → (s.space ≡ Some w) ⊎ IsUnder c w f
under_spot c w s end once h = cc
under_spot c w s (con part kids floats rest) once h =
    step (same part.id c) (has c kids) (has c floats) refl refl refl (under_spot c w (spot_below true s part) kids (λ i. omega (arith, once i))) (under_spot c w (spot_below false s part) floats (λ i. omega (arith, once i))) (under_spot c w s rest (λ i. omega (arith, once i))) h
  where
    node : Forest
    node = con part kids floats rest

    own : (kind : NodeKind) → part.kind ≡ kind → has c (con part kids floats end) ≡ true → space_by s.space part.id kind ≡ Some w → (s.space ≡ Some w) ⊎ IsUnder c w node
    own (Root d) e g h = inl h
    own (Output o) e g h = inl h
    own (Con d) e g h = inl h
    own (Space x) e g h = let one : part.id ≡ w = cc in let own_id = same_self part.id w one in inr (record { there = rw own_id refl; under = rw own_id g })

    up_kids : IsUnder c w kids → IsUnder c w node
    up_kids u = record { there = in_kids w part kids floats rest u.there; under = rw (only_kids w part kids floats rest (once w) u.there) u.under }

    up_floats : IsUnder c w floats → IsUnder c w node
    up_floats u = record { there = in_floats w part kids floats rest u.there; under = rw (only_floats w part kids floats rest (once w) u.there) u.under }

    up_rest : (s.space ≡ Some w) ⊎ IsUnder c w rest → (s.space ≡ Some w) ⊎ IsUnder c w node
    up_rest (inl h) = inl h
    up_rest (inr u) = inr (record { there = in_rest w part kids floats rest u.there; under = rw (only_rest w part kids floats rest (once w) u.there) u.under })

    join : {A : Type 0} → has c (con part kids floats end) ≡ true → (space_at s.space part ≡ Some w) ⊎ A → (A → IsUnder c w node) → (s.space ≡ Some w) ⊎ IsUnder c w node
    join g (inl h) f = own part.kind refl g h
    join g (inr a) f = inr (f a)

    step : (a k l : Bool) → same part.id c ≡ a → has c kids ≡ k → has c floats ≡ l → (spaced (spot_in (spot_below true s part) c kids) ≡ Some w → (space_at s.space part ≡ Some w) ⊎ IsUnder c w kids)
        → (spaced (spot_in (spot_below false s part) c floats) ≡ Some w → (space_at s.space part ≡ Some w) ⊎ IsUnder c w floats) → (spaced (spot_in s c rest) ≡ Some w → (s.space ≡ Some w) ⊎ IsUnder c w rest)
        → spaced (cond a (Some (spot_of s part)) (cond k (spot_in (spot_below true s part) c kids) (cond l (spot_in (spot_below false s part) c floats) (spot_in s c rest)))) ≡ Some w
        → (s.space ≡ Some w) ⊎ IsUnder c w node
    step true k l ea ek el u v x h = own part.kind refl (rw ea refl) h
    step false true l ea ek el u v x h = join (in_kids c part kids floats end ek) (u h) up_kids
    step false false true ea ek el u v x h = join (in_floats c part kids floats end el) (v h) up_floats
    step false false false ea ek el u v x h = up_rest (x h)

-- a node is below its workspace
pub under_space : (c w : ConId) (t : TreeValue) → IsSound t → workspace_of t c ≡ Some w → IsUnder c w t.nodes
under_space c w t s h = by (under_spot c w top t.nodes s.once h)
  where
    by : (top.space ≡ Some w) ⊎ IsUnder c w t.nodes → IsUnder c w t.nodes
    by (inl e) = cc
    by (inr u) = u
