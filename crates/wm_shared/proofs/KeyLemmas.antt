-- Of three, the one that comes first is found in any way.
use Rattle.std.proofs.Common.{◌≡◌, Bool, true, false, cond, ◌||◌, ◌⊎◌, inl, inr, List, Option, None, Some, refl, ap, sym, ◌∙◌, arith}
use Rattle.std.proofs.lemmas.Bool.Decides.{nat_tests}
use Rattle.std.specs.Prelude.{nat_abs}
use Rattle.wm_base.specs.declared.ids.ConId.{ConId}
use Rattle.wm_base.specs.declared.geometry.Dir.{Dir}
use Rattle.wm_base.specs.declared.geometry.Rect.{Rect}
use Rattle.wm_shared.specs.declared.keys.Key.{Key}
use Rattle.wm_shared.specs.Keys.{comes_before, least, lesser, with_key}
use Rattle.wm_shared.specs.Outputs.{gap, is_beyond, key_beyond, keys_beyond}
use Rattle.wm_forest.specs.declared.part.Part.{Part}
use Rattle.wm_forest.specs.Forest.{Forest, end, con}
use Rattle.wm_forest.specs.Look.{first_part, in_row, output_kind, rest_of, same}
use Rattle.wm_forest.specs.declared.part.OutputPart.{OutputPart}
use Rattle.wm_forest.proofs.RecencyLemmas.{same_self}

before_trans : (a b c : Key) → comes_before c b ≡ true → comes_before b a ≡ true → comes_before c a ≡ true
before_trans a b c h k = grind (arith, nat_tests)

before_not : (a b c : Key) → comes_before b a ≡ false → comes_before c b ≡ false → comes_before c a ≡ false
before_not a b c h k = grind (arith, nat_tests)

pub lesser_assoc : (x y z : Option Key) → lesser (lesser x y) z ≡ lesser x (lesser y z)
lesser_assoc None y z = refl
lesser_assoc (Some a) None z = refl
lesser_assoc (Some a) (Some b) None = by (comes_before b a) where
  by : (p : Bool) → lesser (cond p (Some b) (Some a)) None ≡ cond p (Some b) (Some a)
  by true = refl
  by false = refl
lesser_assoc (Some a) (Some b) (Some c) = by (comes_before b a) (comes_before c b) refl refl where
  by : (p q : Bool) → comes_before b a ≡ p → comes_before c b ≡ q → lesser (cond p (Some b) (Some a)) (Some c) ≡ lesser (Some a) (cond q (Some c) (Some b))
  by true true p q = rw (q, before_trans a b c q p) refl
  by true false p q = rw (q, p) refl
  by false true p q = refl
  by false false p q = rw (p, before_not a b c p q) refl

pub least_with : (o : Option Key) (ks : List Key) → least (with_key o ks) ≡ lesser o (least ks)
least_with None ks = refl
least_with (Some k) ks = refl

pub lesser_none : (o : Option Key) → lesser o None ≡ o
lesser_none None = refl
lesser_none (Some k) = refl

-- the best so far of a row, with its first node
pub keys_step : (d : Dir) (a : Rect) (row rest : Forest) (part : Part) (best k new all : Option Key) → first_part row ≡ Some part → rest ≡ rest_of row → k ≡ key_beyond d a part.id (output_kind part.kind) → new ≡ lesser best k
    → lesser best (least (keys_beyond d a row)) ≡ all → lesser new (least (keys_beyond d a rest)) ≡ all
keys_step d a end rest part best k new all first e ek en h = cc
keys_step d a (con own kids floats behind) rest part best k new all first e ek en h =
    let one : own ≡ part = cc in
    let key : k ≡ key_beyond d a own.id (output_kind own.kind) = rw one ek in
    rw (en, e, key) (lesser_assoc best (key_beyond d a own.id (output_kind own.kind)) (least (keys_beyond d a behind)) ∙ (ap (lesser best) (sym (least_with (key_beyond d a own.id (output_kind own.kind)) (keys_beyond d a behind))) ∙ h))

-- ---- what is found

lesser_one : (a b : Option Key) (k : Key) → lesser a b ≡ Some k → (a ≡ Some k) ⊎ (b ≡ Some k)
lesser_one None b k h = inr h
lesser_one (Some a) None k h = inl h
lesser_one (Some a) (Some b) k h = by (comes_before b a) h where
  by : (p : Bool) → cond p (Some b) (Some a) ≡ Some k → (Some a ≡ Some k) ⊎ (Some b ≡ Some k)
  by true h = inr h
  by false h = inl h

key_is : (d : Dir) (a : Rect) (c : ConId) (o : Option OutputPart) (k : Key) → key_beyond d a c o ≡ Some k → k.id ≡ c
key_is d a c None k h = cc
key_is d a c (Some o) k h = by (is_beyond d a o.rect) h where
  by : (p : Bool) → cond p (Some (record { first = nat_abs (gap d a o.rect); id = c })) None ≡ Some k → k.id ≡ c
  by true h = let one : k ≡ record { first = nat_abs (gap d a o.rect); id = c } = cc in ap (λ (z : Key). z.id) one
  by false h = cc

found_listed : (d : Dir) (a : Rect) (row : Forest) (k : Key) → least (keys_beyond d a row) ≡ Some k → in_row k.id row ≡ true
found_listed d a end k h = cc
found_listed d a (con part kids floats rest) k h =
    by (lesser_one (key_beyond d a part.id (output_kind part.kind)) (least (keys_beyond d a rest)) k (sym (least_with (key_beyond d a part.id (output_kind part.kind)) (keys_beyond d a rest)) ∙ h)) (found_listed d a rest k)
  where
    right : (x y : Bool) → y ≡ true → (x || y) ≡ true
    right true y e = refl
    right false y e = e

    by : (key_beyond d a part.id (output_kind part.kind) ≡ Some k) ⊎ (least (keys_beyond d a rest) ≡ Some k) → (least (keys_beyond d a rest) ≡ Some k → in_row k.id rest ≡ true) → in_row k.id (con part kids floats rest) ≡ true
    by (inl e) f = rw (same_self part.id k.id (sym (key_is d a part.id (output_kind part.kind) k e))) refl
    by (inr e) f = right (same part.id k.id) (in_row k.id rest) (f e)

-- the output that is found is one of the row's
pub listed_by : (d : Dir) (a : Rect) (row : Forest) (k : Key) → Some k ≡ least (keys_beyond d a row) → in_row k.id row ≡ true
listed_by d a row k h = found_listed d a row k (sym h)
