-- A new node last in another one: what is seen of it, of that one, and of the others.
use Rattle.std.proofs.Common.{◌≡◌, ◌+◌, ℕ, Bool, true, false, cond, ◌||◌, Some, refl, ap, arith}
use Rattle.std.specs.Prelude.{option_map}
use Rattle.wm_base.specs.declared.ids.ConId.{ConId}
use Rattle.wm_forest.specs.declared.part.Part.{Part}
use Rattle.wm_forest.specs.declared.place.Place.TheVariants.{Last}
use Rattle.wm_forest.specs.Change.{append}
use Rattle.wm_forest.specs.Counts.{row_length}
use Rattle.wm_forest.specs.Forest.{Forest, end, con}
use Rattle.wm_forest.specs.Look.{has, same}
use Rattle.wm_forest.specs.Place.{put}
use Rattle.wm_forest.specs.Spot.{room_below}
use Rattle.wm_forest.proofs.RecencyLemmas.{same_is, same_self}
use Rattle.wm_swallow.proofs.StandLemmas.{Standing, standing, standing_of}
use Rattle.wm_tree.specs.Move.{marks_in}

none_of : (a k l r : Bool) → (a || k || l || r) ≡ false → (a ≡ false) × (k ≡ false) × (l ≡ false) × (r ≡ false)
none_of false false false false h = (refl, refl, refl, refl)
none_of false false false true h = cc
none_of false false true r h = cc
none_of false true l r h = cc
none_of true k l r h = cc

kids_there : (a k l r : Bool) → k ≡ true → (a || k || l || r) ≡ true
kids_there true k l r h = refl
kids_there false true l r h = refl
kids_there false false l r h = cc

floats_there : (a k l r : Bool) → l ≡ true → (a || k || l || r) ≡ true
floats_there true k l r h = refl
floats_there false true l r h = refl
floats_there false false true r h = refl
floats_there false false false r h = cc

behind_there : (a k l r : Bool) → r ≡ true → (a || k || l || r) ≡ true
behind_there true k l r h = refl
behind_there false true l r h = refl
behind_there false false true r h = refl
behind_there false false false r h = h

-- an id that is one of two that differ is not the other
pub not_both : (i p q : ConId) → same i p ≡ true → same p q ≡ false → same i q ≡ false
not_both i p q h d = rw (same_is i p h) d

module _ (p : ConId) (new : Part) where
  abbrev pub grown : Forest → Forest
  grown f = put (Last p) (con new end end end) f

  abbrev one_more : Forest → Forest
  one_more kids = append kids (con new end end end)

  -- ---- rows

  length_more : (f : Forest) → row_length (one_more f) ≡ row_length f + 1
  length_more end = refl
  length_more (con part kids floats rest) = omega (arith, length_more rest)

  length_grown : (f : Forest) → row_length (grown f) ≡ row_length f
  length_grown end = refl
  length_grown (con part kids floats rest) = by (same part.id p) (has p kids) (has p floats) (length_grown rest)
    where
      by : (a k l : Bool) → row_length (grown rest) ≡ row_length rest
          → row_length (cond a (con part (one_more kids) floats rest) (cond k (con part (grown kids) floats rest) (cond l (con part kids (grown floats) rest) (con part kids floats (grown rest))))) ≡ row_length (con part kids floats rest)
      by true k l h = refl
      by false true l h = refl
      by false false true h = refl
      by false false false h = omega (arith, h)

  -- ---- another node than the new one

  module _ (q : ConId) (old : same new.id q ≡ false) where
    has_more : (f : Forest) → has q (one_more f) ≡ has q f
    has_more end = rw old refl
    has_more (con part kids floats rest) = rw (has_more rest) refl

    standing_more : (n : ℕ) (f : Forest) → standing n q (one_more f) ≡ standing n q f
    standing_more n end = rw old refl
    standing_more n (con part kids floats rest) = rw (standing_more n rest) refl

    pub has_grown : (f : Forest) → has q (grown f) ≡ has q f
    has_grown end = refl
    has_grown (con part kids floats rest) = by (same part.id p) (has p kids) (has p floats) (has_grown kids) (has_grown floats) (has_grown rest)
      where
        by : (a k l : Bool) → has q (grown kids) ≡ has q kids → has q (grown floats) ≡ has q floats → has q (grown rest) ≡ has q rest
            → has q (cond a (con part (one_more kids) floats rest) (cond k (con part (grown kids) floats rest) (cond l (con part kids (grown floats) rest) (con part kids floats (grown rest))))) ≡ has q (con part kids floats rest)
        by true k l x y z = rw (has_more kids) refl
        by false true l x y z = rw x refl
        by false false true x y z = rw y refl
        by false false false x y z = rw z refl

    -- other nodes than p are seen as before
    pub standing_other : (n : ℕ) (f : Forest) → same p q ≡ false → standing n q (grown f) ≡ standing n q f
    standing_other n end other = refl
    standing_other n (con part kids floats rest) other =
        by (same part.id p) (has p kids) (has p floats) refl (standing_other (room_below n part.kind) kids other) (standing_other (room_below n part.kind) floats other) (standing_other n rest other)
      where
        by : (a k l : Bool) → same part.id p ≡ a → standing (room_below n part.kind) q (grown kids) ≡ standing (room_below n part.kind) q kids
            → standing (room_below n part.kind) q (grown floats) ≡ standing (room_below n part.kind) q floats → standing n q (grown rest) ≡ standing n q rest
            → standing n q (cond a (con part (one_more kids) floats rest) (cond k (con part (grown kids) floats rest) (cond l (con part kids (grown floats) rest) (con part kids floats (grown rest))))) ≡ standing n q (con part kids floats rest)
        by true k l ea x y z = rw (not_both part.id p q ea other, has_more kids, standing_more (room_below n part.kind) kids) refl
        by false true l ea x y z =
            let same_length : standing_of n part (grown kids) ≡ standing_of n part kids = rw (length_grown kids) refl in
            rw (same_length, has_grown kids, x) refl
        by false false true ea x y z = rw (has_grown floats, y) refl
        by false false false ea x y z = rw z refl

  -- ---- the node itself

  module _ (old : same new.id p ≡ false) where
    -- p has one child more
    abbrev pub with_child : Standing → Standing
    with_child s = record s { kids = s.kids + 1 }

    pub standing_own : (n : ℕ) (f : Forest) → standing n p (grown f) ≡ option_map with_child (standing n p f)
    standing_own n end = refl
    standing_own n (con part kids floats rest) =
        by (same part.id p) (has p kids) (has p floats) refl refl refl (standing_own (room_below n part.kind) kids) (standing_own (room_below n part.kind) floats) (standing_own n rest)
      where
        by : (a k l : Bool) → same part.id p ≡ a → has p kids ≡ k → has p floats ≡ l → standing (room_below n part.kind) p (grown kids) ≡ option_map with_child (standing (room_below n part.kind) p kids)
            → standing (room_below n part.kind) p (grown floats) ≡ option_map with_child (standing (room_below n part.kind) p floats) → standing n p (grown rest) ≡ option_map with_child (standing n p rest)
            → standing n p (cond a (con part (one_more kids) floats rest) (cond k (con part (grown kids) floats rest) (cond l (con part kids (grown floats) rest) (con part kids floats (grown rest)))))
            ≡ option_map with_child (standing n p (con part kids floats rest))
        by true k l ea ek el x y z = rw (ea, length_more kids) refl
        by false true l ea ek el x y z = rw (ea, has_grown p old kids, ek) x
        by false false true ea ek el x y z = rw (ea, ek, has_grown p old floats, el) y
        by false false false ea ek el x y z = rw (ea, ek, el) z

  -- ---- the new node

  has_more_new : (f : Forest) → has new.id (one_more f) ≡ true
  has_more_new end = rw (same_self new.id new.id refl) refl
  has_more_new (con part kids floats rest) = behind_there (same part.id new.id) (has new.id kids) (has new.id floats) (has new.id (one_more rest)) (has_more_new rest)

  pub has_new : (f : Forest) → has p f ≡ true → has new.id (grown f) ≡ true
  has_new end h = cc
  has_new (con part kids floats rest) h = by (same part.id p) (has p kids) (has p floats) refl refl refl (has_new kids) (has_new floats) (has_new rest) h
    where
      by : (a k l : Bool) → same part.id p ≡ a → has p kids ≡ k → has p floats ≡ l → (has p kids ≡ true → has new.id (grown kids) ≡ true) → (has p floats ≡ true → has new.id (grown floats) ≡ true)
          → (has p rest ≡ true → has new.id (grown rest) ≡ true) → (a || k || l || has p rest) ≡ true
          → has new.id (cond a (con part (one_more kids) floats rest) (cond k (con part (grown kids) floats rest) (cond l (con part kids (grown floats) rest) (con part kids floats (grown rest))))) ≡ true
      by true k l ea ek el x y z h = kids_there (same part.id new.id) (has new.id (one_more kids)) (has new.id floats) (has new.id rest) (has_more_new kids)
      by false true l ea ek el x y z h = kids_there (same part.id new.id) (has new.id (grown kids)) (has new.id floats) (has new.id rest) (x ek)
      by false false true ea ek el x y z h = floats_there (same part.id new.id) (has new.id kids) (has new.id (grown floats)) (has new.id rest) (y el)
      by false false false ea ek el x y z h = behind_there (same part.id new.id) (has new.id kids) (has new.id floats) (has new.id (grown rest)) (z h)

  abbrev new_standing : ℕ → Standing
  new_standing n = standing_of n new end

  standing_more_new : (n : ℕ) (f : Forest) → has new.id f ≡ false → standing n new.id (one_more f) ≡ Some (new_standing n)
  standing_more_new n end h = rw (same_self new.id new.id refl) refl
  standing_more_new n (con part kids floats rest) h =
      let o = none_of (same part.id new.id) (has new.id kids) (has new.id floats) (has new.id rest) h in
      rw (o.0, o.1, o.2) (standing_more_new n rest o.3)

  pub standing_new : (n : ℕ) (f : Forest) (s : Standing) → has new.id f ≡ false → standing n p f ≡ Some s → standing n new.id (grown f) ≡ Some (new_standing s.levels)
  standing_new n end s none h = cc
  standing_new n (con part kids floats rest) s none h =
      let o = none_of (same part.id new.id) (has new.id kids) (has new.id floats) (has new.id rest) none in
      by (same part.id p) (has p kids) (has p floats) refl refl refl o (standing_new (room_below n part.kind) kids s o.1) (standing_new (room_below n part.kind) floats s o.2) (standing_new n rest s o.3) h
    where
      by : (a k l : Bool) → same part.id p ≡ a → has p kids ≡ k → has p floats ≡ l → (same part.id new.id ≡ false) × (has new.id kids ≡ false) × (has new.id floats ≡ false) × (has new.id rest ≡ false)
          → (standing (room_below n part.kind) p kids ≡ Some s → standing (room_below n part.kind) new.id (grown kids) ≡ Some (new_standing s.levels))
          → (standing (room_below n part.kind) p floats ≡ Some s → standing (room_below n part.kind) new.id (grown floats) ≡ Some (new_standing s.levels))
          → (standing n p rest ≡ Some s → standing n new.id (grown rest) ≡ Some (new_standing s.levels))
          → cond a (Some (standing_of n part kids)) (cond k (standing (room_below n part.kind) p kids) (cond l (standing (room_below n part.kind) p floats) (standing n p rest))) ≡ Some s
          → standing n new.id (cond a (con part (one_more kids) floats rest) (cond k (con part (grown kids) floats rest) (cond l (con part kids (grown floats) rest) (con part kids floats (grown rest))))) ≡ Some (new_standing s.levels)
      by true k l ea ek el o x y z h =
          let e : standing_of n part kids ≡ s = cc in
          rw (o.0, has_more_new kids, standing_more_new (room_below n part.kind) kids o.1) (ap (λ (z : Standing). Some (new_standing z.levels)) e)
      by false true l ea ek el o x y z h = rw (o.0, has_new kids ek) (x h)
      by false false true ea ek el o x y z h = rw (o.0, o.1, has_new floats el) (y h)
      by false false false ea ek el o x y z h = rw (o.0, o.1, o.2) (z h)

  -- the new node has the marks that it came with
  marks_more_new : (f : Forest) → has new.id f ≡ false → marks_in new.id (one_more f) ≡ new.marks
  marks_more_new end h = rw (same_self new.id new.id refl) refl
  marks_more_new (con part kids floats rest) h =
      let o = none_of (same part.id new.id) (has new.id kids) (has new.id floats) (has new.id rest) h in
      rw (o.0, o.1, o.2) (marks_more_new rest o.3)

  pub marks_new : (f : Forest) → has new.id f ≡ false → has p f ≡ true → marks_in new.id (grown f) ≡ new.marks
  marks_new end none h = cc
  marks_new (con part kids floats rest) none h =
      let o = none_of (same part.id new.id) (has new.id kids) (has new.id floats) (has new.id rest) none in
      by (same part.id p) (has p kids) (has p floats) refl refl refl o (marks_new kids o.1) (marks_new floats o.2) (marks_new rest o.3) h
    where
      by : (a k l : Bool) → same part.id p ≡ a → has p kids ≡ k → has p floats ≡ l → (same part.id new.id ≡ false) × (has new.id kids ≡ false) × (has new.id floats ≡ false) × (has new.id rest ≡ false)
          → (has p kids ≡ true → marks_in new.id (grown kids) ≡ new.marks) → (has p floats ≡ true → marks_in new.id (grown floats) ≡ new.marks) → (has p rest ≡ true → marks_in new.id (grown rest) ≡ new.marks)
          → (a || k || l || has p rest) ≡ true
          → marks_in new.id (cond a (con part (one_more kids) floats rest) (cond k (con part (grown kids) floats rest) (cond l (con part kids (grown floats) rest) (con part kids floats (grown rest))))) ≡ new.marks
      by true k l ea ek el o x y z h = rw (o.0, has_more_new kids) (marks_more_new kids o.1)
      by false true l ea ek el o x y z h = rw (o.0, has_new kids ek) (x ek)
      by false false true ea ek el o x y z h = rw (o.0, o.1, has_new floats el) (y el)
      by false false false ea ek el o x y z h = rw (o.0, o.1, o.2) (z h)
