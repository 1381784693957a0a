-- Forests whose parts are changed node by node.
use Rattle.std.proofs.Common.{◌≡◌, ℕ, ◌+◌, ◌≤◌, Bool, true, false, cond, ◌||◌, ◌⊎◌, inl, inr, Option, Some, refl, ap, sym, ◌∙◌, arith}
use Rattle.wm_base.specs.declared.ids.ConId.{ConId}
use Rattle.wm_shared.proofs.DownLemmas.{none}
use Rattle.wm_forest.proofs.CountLemmas.{counted}
use Rattle.wm_forest.proofs.LookLemmas.{none_of_four}
use Rattle.wm_forest.specs.Change.{at, in_place, replaced}
use Rattle.wm_forest.specs.Counts.{count}
use Rattle.wm_forest.specs.declared.kind.KindEdit.{KindEdit}
use Rattle.wm_forest.specs.declared.part.NodeKind.{NodeKind}
use Rattle.wm_forest.specs.declared.part.NodeKind.TheVariants.{Root, Output, Space, Con}
use Rattle.wm_forest.specs.declared.part.Part.{Part}
use Rattle.wm_forest.specs.declared.spot.Spot.{Spot}
pub use Rattle.wm_forest.specs.Each.{mapped}
use Rattle.wm_forest.specs.Forest.{Forest, end, con}
use Rattle.wm_forest.specs.Kinds.{changed, kind_changed}
use Rattle.wm_forest.specs.Look.{first_part, has, only, same}
use Rattle.wm_forest.specs.SoundRow.{tally}
use Rattle.wm_forest.specs.Spot.{space_by, spot_below, spot_in, spot_of}
use Rattle.wm_tree.specs.TreeValue.{is_con_kind}

pub mapped-mapped : (g h : Part → Part) (f : Forest) → mapped g (mapped h f) ≡ mapped (λ p. g (h p)) f
mapped-mapped g h end = refl
mapped-mapped g h (con part kids floats rest) = rw (mapped-mapped g h kids, mapped-mapped g h floats, mapped-mapped g h rest) refl

-- two changes that are alike on all parts but those of x
pub mapped_alike : (x : ConId) (g h : Part → Part) → ((p : Part) → same p.id x ≡ false → g p ≡ h p) → (f : Forest) → has x f ≡ false → mapped g f ≡ mapped h f
mapped_alike x g h e end n = refl
mapped_alike x g h e (con part kids floats rest) n =
    let o = none_of_four (same part.id x) (has x kids) (has x floats) (has x rest) n in
    rw (e part o.0, mapped_alike x g h e kids o.1, mapped_alike x g h e floats o.2, mapped_alike x g h e rest o.3) refl

-- two changes that are alike
pub mapped_all : (g h : Part → Part) → ((p : Part) → g p ≡ h p) → (f : Forest) → mapped g f ≡ mapped h f
mapped_all g h e end = refl
mapped_all g h e (con part kids floats rest) = rw (e part, mapped_all g h e kids, mapped_all g h e floats, mapped_all g h e rest) refl

mapped_id : (f : Forest) → mapped (λ p. p) f ≡ f
mapped_id end = refl
mapped_id (con part kids floats rest) = rw (mapped_id kids, mapped_id floats, mapped_id rest) refl

-- a change of the parts of x alone
pub mapped_none : (x : ConId) (g : Part → Part) → ((p : Part) → same p.id x ≡ false → g p ≡ p) → (f : Forest) → has x f ≡ false → mapped g f ≡ f
mapped_none x g e f n = mapped_alike x g (λ p. p) e f n ∙ mapped_id f

-- what is counted of a changed forest
pub count-mapped : (m n : Part → ℕ) (g : Part → Part) → ((p : Part) → m (g p) ≡ n p) → (f : Forest) → count m (mapped g f) ≡ count n f
count-mapped m n g e end = refl
count-mapped m n g e (con part kids floats rest) = rw (e part, count-mapped m n g e kids, count-mapped m n g e floats, count-mapped m n g e rest) refl

-- a part may change where nothing stands below it
abbrev pub Light : (Part → Part) → Forest → Type 0
Light g end = Unit {0}
Light g (con part kids floats rest) =
    ((g part ≡ part) ⊎ ((kids ≡ end) × (floats ≡ end) × (is_con_kind part.kind ≡ true) × (is_con_kind (g part).kind ≡ true))) × Light g kids × Light g floats × Light g rest

space_con : (space : Option ConId) (id : ConId) (kind : NodeKind) → is_con_kind kind ≡ true → space_by space id kind ≡ space
space_con space id (Root c) h = cc
space_con space id (Output o) h = cc
space_con space id (Space s) h = cc
space_con space id (Con c) h = refl

-- i is in the changed forest what j was in the old one
module _ (g : Part → Part) (i j : ConId) (e : (p : Part) → same (g p).id i ≡ same p.id j) where
  pub has_mapped : (f : Forest) → has i (mapped g f) ≡ has j f
  has_mapped end = refl
  has_mapped (con part kids floats rest) = rw (e part, has_mapped kids, has_mapped floats, has_mapped rest) refl

  pub only_mapped : (f : Forest) → only i (mapped g f) ≡ mapped g (only j f)
  only_mapped end = refl
  only_mapped (con part kids floats rest) =
      rw (e part, has_mapped kids, has_mapped floats, only_mapped kids, only_mapped floats, only_mapped rest) (step (same part.id j) (has j kids) (has j floats))
    where
      step : (a k l : Bool) → cond a (con (g part) (mapped g kids) (mapped g floats) end) (cond k (mapped g (only j kids)) (cond l (mapped g (only j floats)) (mapped g (only j rest))))
          ≡ mapped g (cond a (con part kids floats end) (cond k (only j kids) (cond l (only j floats) (only j rest))))
      step true k l = refl
      step false true l = refl
      step false false true = refl
      step false false false = refl

  pub spot_mapped : (s : Spot) (f : Forest) → Light g f → spot_in s i (mapped g f) ≡ spot_in s j f
  spot_mapped s end light = refl
  spot_mapped s (con part kids floats rest) light =
      step light.0 (λ z. spot_mapped z kids light.1) (λ z. spot_mapped z floats light.2) (spot_mapped s rest light.3)
    where
      step : ((g part ≡ part) ⊎ ((kids ≡ end) × (floats ≡ end) × (is_con_kind part.kind ≡ true) × (is_con_kind (g part).kind ≡ true)))
          → ((z : Spot) → spot_in z i (mapped g kids) ≡ spot_in z j kids) → ((z : Spot) → spot_in z i (mapped g floats) ≡ spot_in z j floats) → spot_in s i (mapped g rest) ≡ spot_in s j rest
          → spot_in s i (mapped g (con part kids floats rest)) ≡ spot_in s j (con part kids floats rest)
      step (inl p) u v w = rw (e part, has_mapped kids, has_mapped floats, p, u (spot_below true s part), v (spot_below false s part), w) refl
      step (inr p) u v w =
          let one : spot_of s (g part) ≡ spot_of s part = ap (λ z. record s { space = z }) (space_con s.space (g part).id (g part).kind p.3 ∙ sym (space_con s.space part.id part.kind p.2)) in
          rw (e part, p.0, p.1, one, w) refl

-- ---- one node

-- the part p in the place of that of c
abbrev pub put : ConId → Part → Part → Part
put c p part = cond (same part.id c) p part

-- the part of c with a change of its kind
abbrev pub tuned : ConId → KindEdit → Part → Part
tuned c edit part = cond (same part.id c) (record part { kind = changed edit part.kind }) part

module _ (c : ConId) where
  put_none : (p : Part) (f : Forest) → has c f ≡ false → mapped (put c p) f ≡ f
  put_none p f n = mapped_none c (put c p) (λ r e. rw e refl) f n

  tuned_none : (edit : KindEdit) (f : Forest) → has c f ≡ false → mapped (tuned c edit) f ≡ f
  tuned_none edit f n = mapped_none c (tuned c edit) (λ r e. rw e refl) f n

  -- c is in one of the rows of the first node alone
  record Aside (part : Part) (kids floats rest : Forest) : Type 0 where
    here : same part.id c ≡ true → (has c kids ≡ false) × (has c floats ≡ false) × (has c rest ≡ false)
    below : has c kids ≡ true → (has c floats ≡ false) × (has c rest ≡ false)
    above : has c floats ≡ true → has c rest ≡ false

  aside : (part : Part) (kids floats rest : Forest) → tally c (con part kids floats rest) ≤ 1 → Aside part kids floats rest
  aside part kids floats rest once = record {
    here = λ e.
        let much : 1 + tally c kids + tally c floats + tally c rest ≤ 1 = rw e at once in
        (none c kids (omega (arith, much)), none c floats (omega (arith, much)), none c rest (omega (arith, much)));
    below = λ e. let some = counted c kids e in (none c floats (omega (arith, once, some)), none c rest (omega (arith, once, some)));
    above = λ e. let some = counted c floats e in none c rest (omega (arith, once, some));
  }

  -- a node without others below it is replaced by another one
  pub replaced_leaf : (p q : Part) (f : Forest) → tally c f ≤ 1 → has c f ≡ true → only c f ≡ con q end end end → replaced c (con p end end end) f ≡ mapped (put c p) f
  replaced_leaf p q end once there h = cc
  replaced_leaf p q (con part kids floats rest) once there h =
      step (same part.id c) (has c kids) (has c floats) (has c rest) refl refl refl refl (replaced_leaf p q kids (omega (arith, once))) (replaced_leaf p q floats (omega (arith, once))) (replaced_leaf p q rest (omega (arith, once))) there h
    where
      x : Forest
      x = con p end end end

      o : Aside part kids floats rest
      o = aside part kids floats rest once

      step : (a k l r : Bool) → same part.id c ≡ a → has c kids ≡ k → has c floats ≡ l → has c rest ≡ r
          → (k ≡ true → only c kids ≡ con q end end end → replaced c x kids ≡ mapped (put c p) kids)
          → (l ≡ true → only c floats ≡ con q end end end → replaced c x floats ≡ mapped (put c p) floats)
          → (r ≡ true → only c rest ≡ con q end end end → replaced c x rest ≡ mapped (put c p) rest)
          → (a || k || l || r) ≡ true → cond a (con part kids floats end) (cond k (only c kids) (cond l (only c floats) (only c rest))) ≡ con q end end end
          → cond a (in_place x part kids floats rest) (cond k (con part (replaced c x kids) floats rest) (cond l (con part kids (replaced c x floats) rest) (con part kids floats (replaced c x rest))))
          ≡ con (cond a p part) (mapped (put c p) kids) (mapped (put c p) floats) (mapped (put c p) rest)
      step true k l r ea ek el er u v w t h =
          let n = o.here ea in
          let low : kids ≡ end = cc in
          let up : floats ≡ end = cc in
          rw (low, up, put_none p rest n.2) refl
      step false true l r ea ek el er u v w t h = let n = o.below ek in rw (u refl h, put_none p floats n.0, put_none p rest n.1) refl
      step false false true r ea ek el er u v w t h = rw (put_none p kids ek, v refl h, put_none p rest (o.above el)) refl
      step false false false r ea ek el er u v w t h = rw (put_none p kids ek, put_none p floats el, w t h) refl

  -- the part that c has anyway
  pub put_back : (q : Part) (f : Forest) → tally c f ≤ 1 → first_part (only c f) ≡ Some q → mapped (put c q) f ≡ f
  put_back q end once h = refl
  put_back q (con part kids floats rest) once h =
      step (same part.id c) (has c kids) (has c floats) refl refl refl (put_back q kids (omega (arith, once))) (put_back q floats (omega (arith, once))) (put_back q rest (omega (arith, once))) h
    where
      o : Aside part kids floats rest
      o = aside part kids floats rest once

      step : (a k l : Bool) → same part.id c ≡ a → has c kids ≡ k → has c floats ≡ l
          → (first_part (only c kids) ≡ Some q → mapped (put c q) kids ≡ kids) → (first_part (only c floats) ≡ Some q → mapped (put c q) floats ≡ floats)
          → (first_part (only c rest) ≡ Some q → mapped (put c q) rest ≡ rest)
          → first_part (cond a (con part kids floats end) (cond k (only c kids) (cond l (only c floats) (only c rest)))) ≡ Some q
          → con (cond a q part) (mapped (put c q) kids) (mapped (put c q) floats) (mapped (put c q) rest) ≡ con part kids floats rest
      step true k l ea ek el u v w h =
          let n = o.here ea in
          let one : part ≡ q = cc in
          rw (put_none q kids n.0, put_none q floats n.1, put_none q rest n.2, one) refl
      step false true l ea ek el u v w h = let n = o.below ek in rw (u h, put_none q floats n.0, put_none q rest n.1) refl
      step false false true ea ek el u v w h = rw (put_none q kids ek, v h, put_none q rest (o.above el)) refl
      step false false false ea ek el u v w h = rw (put_none q kids ek, put_none q floats el, w h) refl

  -- a change of the kind of c
  pub edited_mapped : (edit : KindEdit) (f : Forest) → tally c f ≤ 1 → at c kind_changed edit f ≡ mapped (tuned c edit) f
  edited_mapped edit end once = refl
  edited_mapped edit (con part kids floats rest) once =
      step (same part.id c) (has c kids) (has c floats) refl refl refl (edited_mapped edit kids (omega (arith, once))) (edited_mapped edit floats (omega (arith, once))) (edited_mapped edit rest (omega (arith, once)))
    where
      o : Aside part kids floats rest
      o = aside part kids floats rest once

      own : Part
      own = record part { kind = changed edit part.kind }

      step : (a k l : Bool) → same part.id c ≡ a → has c kids ≡ k → has c floats ≡ l
          → at c kind_changed edit kids ≡ mapped (tuned c edit) kids → at c kind_changed edit floats ≡ mapped (tuned c edit) floats → at c kind_changed edit rest ≡ mapped (tuned c edit) rest
          → cond a (con own kids floats rest) (cond k (con part (at c kind_changed edit kids) floats rest) (cond l (con part kids (at c kind_changed edit floats) rest) (con part kids floats (at c kind_changed edit rest))))
          ≡ con (cond a own part) (mapped (tuned c edit) kids) (mapped (tuned c edit) floats) (mapped (tuned c edit) rest)
      step true k l ea ek el u v w = let n = o.here ea in rw (tuned_none edit kids n.0, tuned_none edit floats n.1, tuned_none edit rest n.2) refl
      step false true l ea ek el u v w = let n = o.below ek in rw (u, tuned_none edit floats n.0, tuned_none edit rest n.1) refl
      step false false true ea ek el u v w = rw (tuned_none edit kids ek, v, tuned_none edit rest (o.above el)) refl
      step false false false ea ek el u v w = rw (tuned_none edit kids ek, tuned_none edit floats el, w) refl
