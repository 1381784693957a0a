-- Two nodes of a row, one of which is the neighbour of the other.
use Rattle.std.proofs.Common.{◌≡◌, Bool, true, false, cond, ◌||◌, Option, None, Some, refl, ap, sym}
use Rattle.wm_base.specs.declared.geometry.Dir.{Dir}
use Rattle.wm_base.specs.declared.ids.ConId.{ConId}
use Rattle.wm_shared.proofs.DownLemmas.{Once, not_below, once_rest}
use Rattle.wm_shared.specs.Neighbours.{after, before, first_id, is_forward, neighbour}
use Rattle.wm_tree.proofs.AttachLemmas.{has_row}
use Rattle.wm_forest.proofs.RecencyLemmas.{same_is, same_self}
use Rattle.wm_forest.specs.declared.part.Part.{Part}
use Rattle.wm_forest.specs.Change.{is_id}
use Rattle.wm_forest.specs.Forest.{Forest, end, con}
use Rattle.wm_forest.specs.Look.{has, in_row, same}

-- both stand in the row, and they are two
pub record AreTwo (c n : ConId) (row : Forest) : Type 0 where
  pub first : in_row c row ≡ true
  pub second : in_row n row ≡ true
  pub two : same c n ≡ false

pub right : (a b : Bool) → b ≡ true → (a || b) ≡ true
right true b h = refl
right false b h = h

-- the nodes of two that are behind the first one
two_rest : (c n : ConId) (part : Part) (kids floats rest : Forest) → AreTwo c n rest → AreTwo c n (con part kids floats rest)
two_rest c n part kids floats rest t = record { first = right (same part.id c) (in_row c rest) t.first; second = right (same part.id n) (in_row n rest) t.second; two = t.two }

-- the first node of a row and one behind it are two
not_one : (c n : ConId) (part : Part) (kids floats rest : Forest) → Once (con part kids floats rest) → same part.id c ≡ true → in_row n rest ≡ true → same c n ≡ false
not_one c n part kids floats rest once e h = by (same c n) refl where
  by : (b : Bool) → same c n ≡ b → same c n ≡ false
  by false s = s
  by true s =
      let away = (not_below part kids floats rest once c e).2 in
      let here : has c rest ≡ true = rw (same_is c n s) (has_row n rest h) in
      absurd (cc)

turned_two : (c n : ConId) → same c n ≡ false → same n c ≡ false
turned_two c n h = by (same n c) refl where
  by : (b : Bool) → same n c ≡ b → same n c ≡ false
  by false e = e
  by true e = let one = same_self c n (sym (same_is n c e)) in absurd (cc)

pub turned : {c n : ConId} {row : Forest} → AreTwo c n row → AreTwo n c row
turned {c} {n} t = record { first = t.second; second = t.first; two = turned_two c n t.two }

pub first_there : (n : ConId) (row : Forest) → first_id row ≡ Some n → in_row n row ≡ true
first_there n end h = cc
first_there n (con part kids floats rest) h = let one : part.id ≡ n = cc in rw (same_self part.id n one) refl

after_two : (c n : ConId) (row : Forest) → Once row → after c row ≡ Some n → AreTwo c n row
after_two c n end once h = cc
after_two c n (con part kids floats rest) once h = step (same part.id c) refl (after_two c n rest (once_rest part kids floats rest once)) h where
  step : (a : Bool) → same part.id c ≡ a → (after c rest ≡ Some n → AreTwo c n rest) → cond a (first_id rest) (after c rest) ≡ Some n → AreTwo c n (con part kids floats rest)
  step true e p h =
      let behind = first_there n rest h in
      record { first = rw e refl; second = right (same part.id n) (in_row n rest) behind; two = not_one c n part kids floats rest once e behind }
  step false e p h = two_rest c n part kids floats rest (p h)

first_is : (c : ConId) (o : Option ConId) → is_id c o ≡ true → o ≡ Some c
first_is c None h = cc
first_is c (Some d) h = ap (λ (z : ConId). Some z) (sym (same_is c d h))

before_two : (c n : ConId) (row : Forest) → Once row → before c row ≡ Some n → AreTwo c n row
before_two c n end once h = cc
before_two c n (con part kids floats rest) once h = step (is_id c (first_id rest)) refl (before_two c n rest (once_rest part kids floats rest once)) h where
  step : (a : Bool) → is_id c (first_id rest) ≡ a → (before c rest ≡ Some n → AreTwo c n rest) → cond a (Some part.id) (before c rest) ≡ Some n → AreTwo c n (con part kids floats rest)
  step true e p h =
      let behind = first_there c rest (first_is c (first_id rest) e) in
      let one : part.id ≡ n = cc in
      let here = same_self part.id n one in
      record { first = right (same part.id c) (in_row c rest) behind; second = rw here refl; two = turned_two n c (not_one n c part kids floats rest once here behind) }
  step false e p h = two_rest c n part kids floats rest (p h)

pub neighbour_two : (d : Dir) (c n : ConId) (row : Forest) → Once row → neighbour d c row ≡ Some n → AreTwo c n row
neighbour_two d c n row once h = step (is_forward d) h where
  step : (b : Bool) → cond b (after c row) (before c row) ≡ Some n → AreTwo c n row
  step true h = after_two c n row once h
  step false h = before_two c n row once h
