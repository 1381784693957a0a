-- A container that is sent keeps what it is, and what stands below it.
use Rattle.std.proofs.Common.{◌≡◌, ◌≢◌, ℕ, Bool, true, false, cond, ◌||◌, Option, None, Some, refl, ap, sym, ◌∙◌, subst, arith}
use Rattle.std.specs.Prelude.{is_some}
use Rattle.wm_base.specs.declared.errors.Limit.{Limit}
use Rattle.wm_base.specs.declared.geometry.Rect.{Rect}
use Rattle.wm_base.specs.declared.ids.ConId.{ConId}
use Rattle.law_commands.proofs.RaiseKeeps.{unfull_again}
use Rattle.law_commands.specs.Sending.{SendsBack, unplaced}
use Rattle.wm_shared.proofs.ShowLemmas.{space_is}
use Rattle.wm_shared.specs.Refusing.{full_error}
use Rattle.wm_shared.specs.Subject.{is_container, is_space}
use Rattle.wm_spaces.proofs.SendLemmas.{Ready, ready}
use Rattle.wm_shared.proofs.KidLemmas.{con_there}
use Rattle.wm_spaces.specs.Sending.{sent, sent_place, sent_refusal}
use Rattle.wm_forest.proofs.CountLemmas.{count-without}
use Rattle.wm_forest.proofs.LookLemmas.{seen-without}
use Rattle.wm_tree.proofs.MoveLemmas.{sound-moved}
use Rattle.wm_tree.proofs.SoundLemmas.{gone-detached}
use Rattle.wm_tree.specs.Along.{nowhere}
use Rattle.wm_forest.specs.Change.{append, arriving, nobody, placed, unfull, unfull_kind, without}
use Rattle.wm_forest.specs.declared.part.NodeKind.{NodeKind}
use Rattle.wm_forest.specs.declared.part.NodeKind.TheVariants.{Root, Output, Space, Con}
use Rattle.wm_forest.specs.declared.part.Part.{Part}
use Rattle.wm_forest.specs.declared.place.Place.{Place}
use Rattle.wm_forest.specs.declared.place.Place.TheVariants.{After, Before, First, Last, Float, Scratchpad}
use Rattle.wm_forest.specs.Forest.{Forest, end, con}
use Rattle.wm_forest.specs.Look.{con_kind, first_part, has, kind_by, kind_of, only, same}
use Rattle.wm_tree.specs.Move.{apart, moved, moved_share, passed_by_move}
use Rattle.wm_forest.specs.Place.{named, put, put_word, rect_at}
use Rattle.wm_tree.specs.Sound.{IsSound}
use Rattle.wm_forest.specs.SoundRow.{one_of, tally}
use Rattle.wm_forest.specs.Spot.{top}
use Rattle.wm_tree.specs.TreeValue.{TreeValue}

-- ---- a node that is put somewhere is found there

-- the row x is what is found of c
record Finds (c : ConId) (x f : Forest) : Type 0 where
  pub there : has c f ≡ true
  pub found : only c f ≡ x

none_of : (a k l r : Bool) → (a || k || l || r) ≡ false → (a ≡ false) × (k ≡ false) × (l ≡ false) × (r ≡ false)
none_of true k l r h = cc
none_of false true l r h = cc
none_of false false true r h = cc
none_of false false false r h = (refl, refl, refl, h)

module _ (c : ConId) (q : Part) (k l : Forest) (e : same q.id c ≡ true) where
  abbrev node : Forest
  node = con q k l end

  last : (row : Forest) → has c row ≡ false → Finds c (con q k l end) (append row (con q k l end))
  last end h = record { there = rw e refl; found = rw e refl }
  last (con part kids floats rest) h =
      let n = none_of (same part.id c) (has c kids) (has c floats) (has c rest) h in
      let g = last rest n.3 in
      record { there = rw (n.0, n.1, n.2) g.there; found = rw (n.0, n.1, n.2) g.found }

  by_word : (p : Place) (part : Part) (kids floats rest : Forest) → has c (con part kids floats rest) ≡ false → Finds c (con q k l end) (put_word p (con q k l end) part kids floats rest)
  by_word (After i) part kids floats rest h =
      let n = none_of (same part.id c) (has c kids) (has c floats) (has c rest) h in
      record { there = rw (n.0, n.1, n.2, e) refl; found = rw (n.0, n.1, n.2, e) refl }
  by_word (Before i) part kids floats rest h = record { there = rw e refl; found = rw e refl }
  by_word (First i) part kids floats rest h =
      let n = none_of (same part.id c) (has c kids) (has c floats) (has c rest) h in
      record { there = rw (n.0, e) refl; found = rw (n.0, e) refl }
  by_word (Last i) part kids floats rest h =
      let n = none_of (same part.id c) (has c kids) (has c floats) (has c rest) h in
      let g = last kids n.1 in
      record { there = rw (n.0, g.there) refl; found = rw (n.0, g.there) g.found }
  by_word (Float i r) part kids floats rest h =
      let n = none_of (same part.id c) (has c kids) (has c floats) (has c rest) h in
      let g = last floats n.2 in
      record { there = rw (n.0, n.1, g.there) refl; found = rw (n.0, n.1, g.there) g.found }
  by_word (Scratchpad r) part kids floats rest h =
      let n = none_of (same part.id c) (has c kids) (has c floats) (has c rest) h in
      let g = last floats n.2 in
      record { there = rw (n.0, n.1, g.there) refl; found = rw (n.0, n.1, g.there) g.found }

  put_found : (p : Place) (f : Forest) → has (named p) f ≡ true → has c f ≡ false → Finds c (con q k l end) (put p (con q k l end) f)
  put_found p end there h = cc
  put_found p (con part kids floats rest) there h =
      step (same part.id (named p)) (has (named p) kids) (has (named p) floats) refl refl refl there (put_found p kids) (put_found p floats) (put_found p rest)
    where
      n : (same part.id c ≡ false) × (has c kids ≡ false) × (has c floats ≡ false) × (has c rest ≡ false)
      n = none_of (same part.id c) (has c kids) (has c floats) (has c rest) h

      step : (x y z : Bool) → same part.id (named p) ≡ x → has (named p) kids ≡ y → has (named p) floats ≡ z → (x || y || z || has (named p) rest) ≡ true
          → (has (named p) kids ≡ true → has c kids ≡ false → Finds c (con q k l end) (put p (con q k l end) kids))
          → (has (named p) floats ≡ true → has c floats ≡ false → Finds c (con q k l end) (put p (con q k l end) floats))
          → (has (named p) rest ≡ true → has c rest ≡ false → Finds c (con q k l end) (put p (con q k l end) rest))
          → Finds c (con q k l end)
          (cond x (put_word p (con q k l end) part kids floats rest)
          (cond y (con part (put p (con q k l end) kids) floats rest) (cond z (con part kids (put p (con q k l end) floats) rest) (con part kids floats (put p (con q k l end) rest)))))
      step true y z ex ey ez t u v w = by_word p part kids floats rest h
      step false true z ex ey ez t u v w = let g = u ey n.1 in record { there = rw (n.0, g.there) refl; found = rw (n.0, g.there) g.found }
      step false false true ex ey ez t u v w = let g = v ez n.2 in record { there = rw (n.0, n.1, g.there) refl; found = rw (n.0, n.1, g.there) g.found }
      step false false false ex ey ez t u v w = let g = w t n.3 in record { there = rw (n.0, n.1, n.2, g.there) refl; found = rw (n.0, n.1, n.2) g.found }

-- what is found is one node, of that id
only_one : (c : ConId) (f : Forest) (q : Part) (k l r : Forest) → only c f ≡ con q k l r → (r ≡ end) × (same q.id c ≡ true)
only_one c end q k l r h = cc
only_one c (con part kids floats rest) q k l r h = step (same part.id c) (has c kids) (has c floats) refl h (only_one c kids q k l r) (only_one c floats q k l r) (only_one c rest q k l r)
  where
    step : (a b d : Bool) → same part.id c ≡ a → cond a (con part kids floats end) (cond b (only c kids) (cond d (only c floats) (only c rest))) ≡ con q k l r
        → (only c kids ≡ con q k l r → (r ≡ end) × (same q.id c ≡ true)) → (only c floats ≡ con q k l r → (r ≡ end) × (same q.id c ≡ true)) → (only c rest ≡ con q k l r → (r ≡ end) × (same q.id c ≡ true))
        → (r ≡ end) × (same q.id c ≡ true)
    step true b d e h u v w = let p : part ≡ q = cc in (cc, rw (← p) e)
    step false true d e h u v w = u h
    step false false true e h u v w = v h
    step false false false e h u v w = w h

-- ---- what a place gives

placed_away : (share : ℕ) (rect : Option Rect) (kind : NodeKind) → unfull_kind (placed 0 (Some nowhere) (unfull_kind (placed share rect kind))) ≡ unfull_kind (placed 0 (Some nowhere) kind)
placed_away share rect (Root c) = refl
placed_away share rect (Output o) = refl
placed_away share rect (Space s) = refl
placed_away share rect (Con c) = refl

placed_near : (share : ℕ) (rect : Option Rect) (kind : NodeKind) → unfull_kind (placed 0 (Some nowhere) (placed share rect kind)) ≡ unfull_kind (placed 0 (Some nowhere) kind)
placed_near share rect (Root c) = refl
placed_near share rect (Output o) = refl
placed_near share rect (Space s) = refl
placed_near share rect (Con c) = refl

-- a container that was moved is as it was but for its place
moved_keeps : (c : ConId) (p : Place) (t : TreeValue) → IsSound t → is_container t c ≡ true → Ready c p t → unplaced (only c (moved c p t).nodes) ≡ unplaced (only c t.nodes)
moved_keeps c p t s h r = by_found (only c t.nodes) refl
  where
    there : has (named p) (without c t.nodes) ≡ true
    there = (seen-without c (named p) top t.nodes r.outside).there ∙ r.there

    by_found : (g : Forest) → only c t.nodes ≡ g → unplaced (only c (put p (arriving (moved_share c p t.nodes) (rect_at p) (apart t c (named p)) (only c t.nodes)) (without c t.nodes))) ≡ unplaced (only c t.nodes)
    by_found end e = let bad : is_some (kind_by con_kind (first_part (only c t.nodes))) ≡ false = rw e refl in cc
    by_found (con q k l rest) e = rw e (by_away (apart t c (named p)))
      where
        one : (rest ≡ end) × (same q.id c ≡ true)
        one = only_one c t.nodes q k l rest e

        low : tally nobody (con q k l rest) ≡ 0
        low = let Low : Forest → Type 0 = λ z. tally nobody z ≡ 0 in subst Low e (omega (arith, s.low, count-without (one_of nobody) c t.nodes))

        gone : has c (without c t.nodes) ≡ false
        gone = gone-detached c t s

        alone : (z : Forest) → rest ≡ z → z ≡ end → rest ≡ end
        alone z a b = a ∙ b

        by_away : (b : Bool) → unplaced (only c (put p (arriving (moved_share c p t.nodes) (rect_at p) b (con q k l rest)) (without c t.nodes))) ≡ unplaced (con q k l rest)
        by_away true =
            let x : Part = record q { kind = unfull_kind (placed (moved_share c p t.nodes) (rect_at p) q.kind) } in
            let g = put_found c x (unfull nobody k) (unfull nobody l) one.1 p (without c t.nodes) there gone in
            rw (one.0) (ap unplaced g.found ∙ away_same x)
          where
            away_same : (x : Part) → unplaced (con (record q { kind = unfull_kind (placed (moved_share c p t.nodes) (rect_at p) q.kind) }) (unfull nobody k) (unfull nobody l) end) ≡ unplaced (con q k l end)
            away_same x = rw (unfull_again nobody k (omega (arith, low)), unfull_again nobody l (omega (arith, low)), placed_away (moved_share c p t.nodes) (rect_at p) q.kind) refl
        by_away false =
            let x : Part = record q { kind = placed (moved_share c p t.nodes) (rect_at p) q.kind } in
            let g = put_found c x k l one.1 p (without c t.nodes) there gone in
            rw (one.0) (ap unplaced g.found ∙ rw (placed_near (moved_share c p t.nodes) (rect_at p) q.kind) refl)

is_con : (c : ConId) (t : TreeValue) → is_container t c ≡ true → kind_of con_kind c t.nodes ≢ None
is_con c t h = λ e. let bad : is_some (kind_of con_kind c t.nodes) ≡ false = rw e refl in cc

sent_keeps : (c w : ConId) (t : TreeValue) → IsSound t → is_container t c ≡ true → is_space t w ≡ true → unplaced (only c (sent c w t).nodes) ≡ unplaced (only c t.nodes)
sent_keeps c w t s h ok = by_test (apart t c w) refl
  where
    by_test : (b : Bool) → apart t c w ≡ b → unplaced (only c (cond b (moved c (sent_place c w t) t) t).nodes) ≡ unplaced (only c t.nodes)
    by_test false e = refl
    by_test true e = moved_keeps c (sent_place c w t) t s h (ready c w t s (is_con c t h) (space_is w t ok) e)

con_unplaced : (f : Forest) → is_some (kind_by con_kind (first_part (unplaced f))) ≡ is_some (kind_by con_kind (first_part f))
con_unplaced end = refl
con_unplaced (con part kids floats rest) = by_kind part.kind
  where
    by_kind : (kind : NodeKind) → is_some (con_kind (unfull_kind (placed 0 (Some nowhere) kind))) ≡ is_some (con_kind kind)
    by_kind (Root c) = refl
    by_kind (Output o) = refl
    by_kind (Space s) = refl
    by_kind (Con c) = refl

still_con : (c w : ConId) (t : TreeValue) → IsSound t → is_container t c ≡ true → is_space t w ≡ true → is_container (sent c w t) c ≡ true
still_con c w t s h ok =
    let some : Forest → Bool = λ f. is_some (kind_by con_kind (first_part f)) in
    sym (con_unplaced (only c (sent c w t).nodes)) ∙ (ap some (sent_keeps c w t s h ok) ∙ (con_unplaced (only c t.nodes) ∙ h))

not_full : (o : Option Limit) → full_error o ≡ None → o ≡ None
not_full None h = refl
not_full (Some l) h = cc

sound_sent : (c w : ConId) (t : TreeValue) → IsSound t → is_container t c ≡ true → is_space t w ≡ true → sent_refusal c w t ≡ None → IsSound (sent c w t)
sound_sent c w t s h ok fits = by_test (apart t c w) refl fits
  where
    by_test : (b : Bool) → apart t c w ≡ b → cond b (full_error (passed_by_move c (sent_place c w t) t.nodes)) None ≡ None → IsSound (cond b (moved c (sent_place c w t) t) t)
    by_test false e k = s
    by_test true e k =
        let con_first = is_con c t h in
        let r = ready c w t s con_first (space_is w t ok) e in
        sound-moved c (sent_place c w t) t con_first (con_there c t.nodes con_first) r.there r.outside r.fits (not_full (passed_by_move c (sent_place c w t) t.nodes) k) s

pub sends_back : SendsBack
sends_back c v w t s h ok fits then = sent_keeps c v (sent c w t) (sound_sent c w t s h ok fits) (still_con c w t s h ok) then ∙ sent_keeps c w t s h ok
