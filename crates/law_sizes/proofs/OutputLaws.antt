-- The output that is found beyond an edge is the nearest one.
use Rattle.std.proofs.Common.{◌≡◌, ◌≤◌, Bool, true, false, cond, ◌||◌, Option, None, Some, refl, ◌∙◌, arith}
use Rattle.std.proofs.lemmas.Bool.Decides.{nat_tests}
use Rattle.std.specs.Option.{option_map}
use Rattle.std.specs.Prelude.{nat_abs}
use Rattle.law_sizes.specs.Edges.{IsFoundBeyond, OutputNearest, output_at}
use Rattle.wm_base.specs.declared.geometry.Dir.{Dir}
use Rattle.wm_base.specs.declared.geometry.Rect.{Rect}
use Rattle.wm_base.specs.declared.ids.ConId.{ConId}
use Rattle.wm_shared.proofs.DownLemmas.{Once, in_rest, once_kids, once_rest}
use Rattle.wm_shared.proofs.KeyLemmas.{least_with}
use Rattle.wm_shared.specs.declared.keys.Key.{Key}
use Rattle.wm_shared.specs.Keys.{comes_before, least, lesser}
use Rattle.wm_shared.specs.Outputs.{gap, is_beyond, key_beyond, keys_beyond, nearest_to}
use Rattle.wm_tree.proofs.AttachLemmas.{has_row}
use Rattle.wm_forest.proofs.RecencyLemmas.{same_is, same_self}
use Rattle.wm_forest.specs.declared.part.OutputPart.{OutputPart}
use Rattle.wm_forest.specs.declared.part.Part.{Part}
use Rattle.wm_forest.specs.Forest.{Forest, end, con}
use Rattle.wm_forest.specs.Look.{first_kids, first_part, in_row, kind_by, node_in, output_kind, same}

-- an output that a row has stands in it
at_listed : (q : ConId) (y : OutputPart) (row : Forest) → output_at q row ≡ Some y → in_row q row ≡ true
at_listed q y end h = cc
at_listed q y (con part kids floats rest) h = by (same part.id q) h (at_listed q y rest) where
  by : (b : Bool) → kind_by output_kind (first_part (cond b (con part kids floats rest) (node_in q rest))) ≡ Some y → (output_at q rest ≡ Some y → in_row q rest ≡ true) → (b || in_row q rest) ≡ true
  by true h u = refl
  by false h u = u h

-- ---- keys

-- what is known of a key that is before another one, and of one that is not
record Before (a b : Key) : Type 0 where
  near : a.first ≤ b.first
  id : a.first ≡ b.first → a.id.0 ≤ b.id.0

before_is : (a b : Key) → comes_before a b ≡ true → Before a b
before_is a b h = record { near = grind (arith, nat_tests); id = λ e. grind (arith, nat_tests) }

before_not : (a b : Key) → comes_before b a ≡ false → Before a b
before_not a b h = record { near = grind (arith, nat_tests); id = λ e. grind (arith, nat_tests) }

abbrev key_of : Dir → Rect → ConId → OutputPart → Key
key_of d a q y = record { first = nat_abs (gap d a y.rect); id = q }

-- the key of an output of the row, before which no other one is
record IsLowest (d : Dir) (a : Rect) (row : Forest) (k : Key) : Type 0 where
  part : OutputPart
  is : output_at k.id row ≡ Some part
  beyond : is_beyond d a part.rect ≡ true
  first : k.first ≡ nat_abs (gap d a part.rect)
  low : (q : ConId) (y : OutputPart) → output_at q row ≡ Some y → is_beyond d a y.rect ≡ true → Before k (key_of d a q y)

abbrev IsLeast : Dir → Rect → Forest → Option Key → Type 0
IsLeast d a row None = (q : ConId) (y : OutputPart) → output_at q row ≡ Some y → is_beyond d a y.rect ≡ false
IsLeast d a row (Some k) = IsLowest d a row k

through : (a b c : Key) → Before a b → Before b c → Before a c
through a b c p q =
    let n = p.near in
    let m = q.near in
    record { near = omega (arith, n, m); id = λ e. let one : a.first ≡ b.first = omega (arith, n, m, e) in let two : b.first ≡ c.first = omega (arith, n, m, e) in let i = p.id one in let j = q.id two in omega (arith, i, j) }

module _ (d : Dir) (a : Rect) (part : Part) (kids floats rest : Forest) (once : Once (con part kids floats rest)) where
  abbrev row : Forest
  row = con part kids floats rest

  -- one behind the first is found in the whole row
  still : (q : ConId) (y : OutputPart) → output_at q rest ≡ Some y → output_at q row ≡ Some y
  still q y h = let n = in_rest part kids floats rest once q (has_row q rest (at_listed q y rest h)) in rw n.0 h

  -- the first one has no key
  skipped : ((y : OutputPart) → output_kind part.kind ≡ Some y → is_beyond d a y.rect ≡ false) → (best : Option Key) → IsLeast d a rest best → IsLeast d a row best
  skipped none None h = λ q y. by q y (same part.id q) where
    by : (q : ConId) (y : OutputPart) (b : Bool) → kind_by output_kind (first_part (cond b row (node_in q rest))) ≡ Some y → is_beyond d a y.rect ≡ false
    by q y true e = none y e
    by q y false e = h q y e
  skipped none (Some k) h = record { part = h.part; is = still k.id h.part h.is; beyond = h.beyond; first = h.first; low = λ q y. by q y (same part.id q) } where
    by : (q : ConId) (y : OutputPart) (b : Bool) → kind_by output_kind (first_part (cond b row (node_in q rest))) ≡ Some y → is_beyond d a y.rect ≡ true → Before k (key_of d a q y)
    by q y true e f = let no = none y e in absurd (cc)
    by q y false e f = h.low q y e f

  module _ (x : OutputPart) (e : output_kind part.kind ≡ Some x) (far : is_beyond d a x.rect ≡ true) where
    abbrev own : Key
    own = key_of d a part.id x

    self : Before own own
    self = record { near = omega arith; id = λ e. omega arith }

    -- the first one is before the others
    here : ((q : ConId) (y : OutputPart) → output_at q rest ≡ Some y → is_beyond d a y.rect ≡ true → Before own (key_of d a q y)) → IsLowest d a row own
    here h = record { part = x; is = rw (same_self part.id part.id refl) e; beyond = far; first = refl; low = λ q y. by q y (same part.id q) refl } where
      by : (q : ConId) (y : OutputPart) (b : Bool) → same part.id q ≡ b → kind_by output_kind (first_part (cond b row (node_in q rest))) ≡ Some y → is_beyond d a y.rect ≡ true → Before own (key_of d a q y)
      by q y true s f g = let one : x ≡ y = cc in let it : part.id ≡ q = same_is part.id q s in rw (← one, ← it) self
      by q y false s f g = h q y f g

    -- one behind it is before it
    behind : (k : Key) → Before k own → IsLowest d a rest k → IsLowest d a row k
    behind k less h = record { part = h.part; is = still k.id h.part h.is; beyond = h.beyond; first = h.first; low = λ q y. by q y (same part.id q) refl } where
      by : (q : ConId) (y : OutputPart) (b : Bool) → same part.id q ≡ b → kind_by output_kind (first_part (cond b row (node_in q rest))) ≡ Some y → is_beyond d a y.rect ≡ true → Before k (key_of d a q y)
      by q y true s f g = let one : x ≡ y = cc in let it : part.id ≡ q = same_is part.id q s in rw (← one, ← it) less
      by q y false s f g = h.low q y f g

    joined : (best : Option Key) → IsLeast d a rest best → IsLeast d a row (lesser (Some own) best)
    joined None h = here (λ q y f g. let no = h q y f in absurd (cc))
    joined (Some k) h = by (comes_before k own) refl where
      by : (b : Bool) → comes_before k own ≡ b → IsLeast d a row (cond b (Some k) (Some own))
      by true f = behind k (before_is k own f) h
      by false f = here (λ q y g l. through own k (key_of d a q y) (before_not own k f) (h.low q y g l))

  one_more : (best : Option Key) → IsLeast d a rest best → IsLeast d a row (lesser (key_beyond d a part.id (output_kind part.kind)) best)
  one_more best h = by (output_kind part.kind) refl where
    by_far : (x : OutputPart) → output_kind part.kind ≡ Some x → (b : Bool) → is_beyond d a x.rect ≡ b → IsLeast d a row (lesser (cond b (Some (key_of d a part.id x)) None) best)
    by_far x e true f = joined x e f best h
    by_far x e false f = skipped (λ y g. let one : x ≡ y = cc in rw (← one) f) best h

    by : (o : Option OutputPart) → output_kind part.kind ≡ o → IsLeast d a row (lesser (key_beyond d a part.id o) best)
    by None e = skipped (λ y g. cc) best h
    by (Some x) e = by_far x e (is_beyond d a x.rect) refl

least_is : (d : Dir) (a : Rect) (row : Forest) → Once row → IsLeast d a row (least (keys_beyond d a row))
least_is d a end once = λ q y h. cc
least_is d a (con part kids floats rest) once =
    let h = one_more d a part kids floats rest once (least (keys_beyond d a rest)) (least_is d a rest (once_rest part kids floats rest once)) in
    rw (least_with (key_beyond d a part.id (output_kind part.kind)) (keys_beyond d a rest)) h

found_of : (d : Dir) (a : OutputPart) (row : Forest) → Once row → IsFoundBeyond d a.rect row (nearest_to d row a)
found_of d a row once = by (least (keys_beyond d a.rect row)) (least_is d a.rect row once) where
  by : (best : Option Key) → IsLeast d a.rect row best → IsFoundBeyond d a.rect row (option_map (λ (k : Key). k.id) best)
  by None h = h
  by (Some k) h =
      let first = h.first in (
        h.part,
        record {
          is = h.is;
          beyond = h.beyond;
          nearest = λ q y f g. let near = (h.low q y f g).near in omega (arith, first, near);
          least = λ q y f g e. (h.low q y f g).id (first ∙ e);
        },
      )

kids_once : (f : Forest) → Once f → Once (first_kids f)
kids_once end once = once
kids_once (con part kids floats rest) once = once_kids part kids floats rest once

pub output_nearest : OutputNearest
output_nearest p a d t s h = rw h (found_of d a (first_kids t.nodes) (kids_once t.nodes s.once))
