-- Going down a row to the node that holds a container.
use Rattle.std.proofs.Common.{◌≡◌, ◌<◌, Bool, true, false, cond, ◌||◌, List, [], ◌∷◌, ◌++◌, Option, None, Some, refl, ap, sym, ◌∙◌, arith}
use Rattle.std.specs.Option.{option_or}
use Rattle.wm_base.specs.declared.geometry.Dir.{Dir}
use Rattle.wm_base.specs.declared.ids.ConId.{ConId}
use Rattle.wm_focus.specs.declared.rungs.Aim.{Aim}
use Rattle.wm_focus.specs.Rungs.{Rung, aimed, first_aimed, nearest, rung, rungs}
use Rattle.wm_forest.specs.declared.part.Part.{Part}
use Rattle.wm_forest.specs.Forest.{Forest, end, con, node_count}
use Rattle.wm_forest.specs.Look.{first_floats, first_kids, first_part, has, rest_of, same}
use Rattle.wm_tree.specs.TreeValue.{or_id}
use Rattle.wm_forest.specs.Focus.{row_holder}

-- a row's node that is a container or holds it, and what is found at the nearest node above the container
pub record Held : Type 0 where
  pub child : ConId
  pub found : Option ConId

abbrev pub held_by : Option ConId → Option ConId → Option Held
held_by None found = None
held_by (Some child) found = Some (record { child = child; found = found })

-- the node of the row that is c or holds it, and what is found at the nearest node above c
abbrev pub held : Aim → Dir → ConId → Forest → Option Held
held aim d c row = held_by (row_holder c row) (nearest aim d c row)

-- a row with a first part is that node and its rest
pub row_is : (row : Forest) (part : Part) → first_part row ≡ Some part → row ≡ con part (first_kids row) (first_floats row) (rest_of row)
row_is end part h = cc
row_is (con p kids floats rest) part h = let same_part : p ≡ part = cc in ap (λ q. con q kids floats rest) same_part

-- the rows below and behind the first node have fewer nodes
pub record Falls (row : Forest) : Type 0 where
  pub kids : node_count (first_kids row) < node_count row
  pub floats : node_count (first_floats row) < node_count row
  pub rest : node_count (rest_of row) < node_count row

pub falls : (row : Forest) (part : Part) → first_part row ≡ Some part → Falls row
falls end part h = cc
falls (con p kids floats rest) part h = record { kids = omega arith; floats = omega arith; rest = omega arith }

-- a row has the node that holds c exactly where it has c
pub holder_is : (c : ConId) (row : Forest) → has c row ≡ true → (x : ConId) × (row_holder c row ≡ Some x)
holder_is c end h = cc
holder_is c (con part kids floats rest) h =
    step (same part.id c) (has c kids) (has c floats) (has c rest) (holder_is c rest) h
  where
    step : (a k l r : Bool) → (r ≡ true → (x : ConId) × (row_holder c rest ≡ Some x)) → (a || k || l || r) ≡ true
        → (x : ConId) × (cond (a || k || l || false) (Some part.id) (row_holder c rest) ≡ Some x)
    step true k l r behind e = (part.id, refl)
    step false true l r behind e = (part.id, refl)
    step false false true r behind e = (part.id, refl)
    step false false false r behind e = behind e

pub holder_none : (c : ConId) (row : Forest) → has c row ≡ false → row_holder c row ≡ None
holder_none c end h = refl
holder_none c (con part kids floats rest) h =
    step (same part.id c) (has c kids) (has c floats) (has c rest) (holder_none c rest) h
  where
    step : (a k l r : Bool) → (r ≡ false → row_holder c rest ≡ None) → (a || k || l || r) ≡ false → cond (a || k || l || false) (Some part.id) (row_holder c rest) ≡ None
    step true k l r behind e = cc
    step false true l r behind e = cc
    step false false true r behind e = cc
    step false false false r behind e = behind e

-- what is found further up counts where nothing is found before
pub first_aimed-append : (aim : Aim) (d : Dir) (xs ys : List Rung) → first_aimed aim d (xs ++ ys) ≡ option_or (first_aimed aim d xs) (first_aimed aim d ys)
first_aimed-append aim d [] ys = refl
first_aimed-append aim d (x ∷ xs) ys = step (aimed aim d x) (first_aimed-append aim d xs ys) where
  step : (o : Option ConId) → first_aimed aim d (xs ++ ys) ≡ option_or (first_aimed aim d xs) (first_aimed aim d ys)
      → option_or o (first_aimed aim d (xs ++ ys)) ≡ option_or (option_or o (first_aimed aim d xs)) (first_aimed aim d ys)
  step None e = e
  step (Some i) e = refl

or_none : {A : Type 0} (o : Option A) → option_or o None ≡ o
or_none None = refl
or_none (Some x) = refl

-- what the answer at a row says of it
record Seen (aim : Aim) (d : Dir) (c : ConId) (row : Forest) (x : Held) : Type 0 where
  there : has c row ≡ true
  child : row_holder c row ≡ Some x.child
  found : nearest aim d c row ≡ x.found

held_some : (aim : Aim) (d : Dir) (c : ConId) (row : Forest) (x : Held) → held aim d c row ≡ Some x → Seen aim d c row x
held_some aim d c row x h = by (has c row) refl where
  by : (b : Bool) → has c row ≡ b → Seen aim d c row x
  by true e =
      let k = holder_is c row e in
      let same_held : held aim d c row ≡ Some (record { child = k.0; found = nearest aim d c row }) = rw k.1 refl in
      let one : x ≡ record { child = k.0; found = nearest aim d c row } = cc in
      record { there = e; child = k.1 ∙ ap (λ (y : Held). Some y.child) (sym one); found = ap (λ (y : Held). y.found) (sym one) }
  by false e =
      let none : held aim d c row ≡ None = rw (holder_none c row e) refl in
      absurd (cc)

held_none : (aim : Aim) (d : Dir) (c : ConId) (row : Forest) → held aim d c row ≡ None → has c row ≡ false
held_none aim d c row h = by (has c row) refl where
  by : (b : Bool) → has c row ≡ b → has c row ≡ false
  by false e = e
  by true e =
      let k = holder_is c row e in
      let same_held : held aim d c row ≡ Some (record { child = k.0; found = nearest aim d c row }) = rw k.1 refl in
      absurd (cc)

-- ---- the three ways on

kids_way : (aim : Aim) (d : Dir) (c : ConId) (p : Part) (kids floats rest : Forest) (x : Held) → same p.id c ≡ false → held aim d c kids ≡ Some x
    → held aim d c (con p kids floats rest) ≡ Some (record { child = p.id; found = option_or x.found (aimed aim d (rung p.kind kids x.child)) })
kids_way aim d c p kids floats rest x s k =
    let v = held_some aim d c kids x k in
    rw (s, v.there, v.child, first_aimed-append aim d (rungs c kids) (rung p.kind kids x.child ∷ []), v.found, or_none (aimed aim d (rung p.kind kids x.child))) refl

floats_way : (aim : Aim) (d : Dir) (c : ConId) (p : Part) (kids floats rest : Forest) (x : Held) → same p.id c ≡ false → held aim d c kids ≡ None → held aim d c floats ≡ Some x
    → held aim d c (con p kids floats rest) ≡ Some (record { child = p.id; found = x.found })
floats_way aim d c p kids floats rest x s n k =
    let v = held_some aim d c floats x k in
    rw (s, held_none aim d c kids n, v.there, v.found) refl

rest_way : (aim : Aim) (d : Dir) (c : ConId) (p : Part) (kids floats rest : Forest) → same p.id c ≡ false → held aim d c kids ≡ None → held aim d c floats ≡ None
    → held aim d c (con p kids floats rest) ≡ held aim d c rest
rest_way aim d c p kids floats rest s n m = rw (s, held_none aim d c kids n, held_none aim d c floats m) refl

pub held_kids : (aim : Aim) (d : Dir) (c : ConId) (row : Forest) (part : Part) (x : Held) → first_part row ≡ Some part → same part.id c ≡ false → held aim d c (first_kids row) ≡ Some x
    → held aim d c row ≡ Some (record { child = part.id; found = option_or x.found (aimed aim d (rung part.kind (first_kids row) x.child)) })
held_kids aim d c end part x h s k = cc
held_kids aim d c (con p kids floats rest) part x h s k =
    let one : p ≡ part = cc in
    let P : Part → Type 0 = λ q. held aim d c (con q kids floats rest) ≡ Some (record { child = q.id; found = option_or x.found (aimed aim d (rung q.kind kids x.child)) }) in
    let done : P part = kids_way aim d c part kids floats rest x s k in
    ap (λ q. held aim d c (con q kids floats rest)) one ∙ done

pub held_floats : (aim : Aim) (d : Dir) (c : ConId) (row : Forest) (part : Part) (x : Held) → first_part row ≡ Some part → same part.id c ≡ false → held aim d c (first_kids row) ≡ None → held aim d c (first_floats row) ≡ Some x
    → held aim d c row ≡ Some (record { child = part.id; found = x.found })
held_floats aim d c end part x h s n k = cc
held_floats aim d c (con p kids floats rest) part x h s n k =
    let one : p ≡ part = cc in
    ap (λ q. held aim d c (con q kids floats rest)) one ∙ floats_way aim d c part kids floats rest x s n k

pub held_rest : (aim : Aim) (d : Dir) (c : ConId) (row : Forest) (part : Part) → first_part row ≡ Some part → same part.id c ≡ false → held aim d c (first_kids row) ≡ None → held aim d c (first_floats row) ≡ None
    → held aim d c row ≡ held aim d c (rest_of row)
held_rest aim d c end part h s n m = cc
held_rest aim d c (con p kids floats rest) part h s n m =
    let one : p ≡ part = cc in
    ap (λ q. held aim d c (con q kids floats rest)) one ∙ rest_way aim d c part kids floats rest s n m

rungs_none : (c : ConId) (row : Forest) → has c row ≡ false → rungs c row ≡ []
rungs_none c end h = refl
rungs_none c (con part kids floats rest) h = step (same part.id c) (has c kids) (has c floats) (has c rest) (rungs_none c rest) h where
  step : (a k l r : Bool) → (r ≡ false → rungs c rest ≡ []) → (a || k || l || r) ≡ false
      → cond a [] (cond k (rungs c kids ++ rung part.kind kids (or_id (row_holder c kids) c) ∷ []) (cond l (rungs c floats) (rungs c rest))) ≡ []
  step true k l r behind e = cc
  step false true l r behind e = cc
  step false false true r behind e = cc
  step false false false r behind e = behind e

-- nothing is found above a node that is not there
pub nearest_none : (aim : Aim) (d : Dir) (c : ConId) (row : Forest) → held aim d c row ≡ None → nearest aim d c row ≡ None
nearest_none aim d c row h = ap (first_aimed aim d) (rungs_none c row (held_none aim d c row h))
