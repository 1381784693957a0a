-- Two containers that change places over a hole.
use Rattle.std.proofs.Common.{◌≡◌, ℕ, Bool, true, false, cond, ◌||◌, None, refl, ap, ◌∙◌}
use Rattle.wm_base.specs.declared.ids.ConId.{ConId}
use Rattle.wm_forest.specs.declared.part.Part.{Part}
use Rattle.wm_forest.specs.Forest.{Forest, end, con}
use Rattle.wm_forest.specs.Change.{arriving, hole, in_place, nobody, replaced}
use Rattle.wm_forest.specs.Look.{same, has, only}
use Rattle.wm_forest.specs.Exchange.{exchanged_nodes, holed}

-- one of four holds where it does not hold of the first three
last_of_four : (a k l r x y z : Bool) → (a || k || l || r) ≡ true → (a || k || l || false) ≡ false → (x || y || z || r) ≡ true
last_of_four true k l r x y z h n = cc
last_of_four false true l r x y z h n = cc
last_of_four false false true r x y z h n = cc
last_of_four false false false true true y z h n = refl
last_of_four false false false true false true z h n = refl
last_of_four false false false true false false true h n = refl
last_of_four false false false true false false false h n = refl
last_of_four false false false false x y z h n = cc

with_second : (a k l r x : Bool) → (k ≡ true → x ≡ true) → (a || k || l || r) ≡ true → (a || x || l || r) ≡ true
with_second true k l r x f h = refl
with_second false true l r x f h = rw (f refl) refl
with_second false false l r true f h = refl
with_second false false l r false f h = h

with_third : (a k l r x : Bool) → (l ≡ true → x ≡ true) → (a || k || l || r) ≡ true → (a || k || x || r) ≡ true
with_third true k l r x f h = refl
with_third false true l r x f h = refl
with_third false false true r x f h = rw (f refl) refl
with_third false false false r true f h = refl
with_third false false false r false f h = h

with_fourth : (a k l r x : Bool) → (r ≡ true → x ≡ true) → (a || k || l || r) ≡ true → (a || k || l || x) ≡ true
with_fourth true k l r x f h = refl
with_fourth false true l r x f h = refl
with_fourth false false true r x f h = refl
with_fourth false false false true x f h = f refl
with_fourth false false false false x f h = cc

still_step : (b : ConId) (a k l : Bool) (c : ConId) (part : Part) (kids floats rest : Forest)
    → (has b kids ≡ true → has b (only c kids) ≡ false → has b (holed c kids) ≡ true)
    → (has b floats ≡ true → has b (only c floats) ≡ false → has b (holed c floats) ≡ true)
    → (has b rest ≡ true → has b (only c rest) ≡ false → has b (holed c rest) ≡ true)
    → has b (con part kids floats rest) ≡ true
    → has b (cond a (con part kids floats end) (cond k (only c kids) (cond l (only c floats) (only c rest)))) ≡ false
    → has b (cond a (in_place hole part kids floats rest) (cond k (con part (holed c kids) floats rest) (cond l (con part kids (holed c floats) rest) (con part kids floats (holed c rest))))) ≡ true
still_step b true k l c part kids floats rest p q r h n = last_of_four (same part.id b) (has b kids) (has b floats) (has b rest) (same nobody b) false false h n
still_step b false true l c part kids floats rest p q r h n = with_second (same part.id b) (has b kids) (has b floats) (has b rest) (has b (holed c kids)) (λ e. p e n) h
still_step b false false true c part kids floats rest p q r h n = with_third (same part.id b) (has b kids) (has b floats) (has b rest) (has b (holed c floats)) (λ e. q e n) h
still_step b false false false c part kids floats rest p q r h n = with_fourth (same part.id b) (has b kids) (has b floats) (has b rest) (has b (holed c rest)) (λ e. r e n) h

-- a node that is not below c is still there when a hole stands in the place of c
pub still_there : (b c : ConId) (f : Forest) → has b f ≡ true → has b (only c f) ≡ false → has b (holed c f) ≡ true
still_there b c end h n = cc
still_there b c (con part kids floats rest) h n =
    still_step b (same part.id c) (has c kids) (has c floats) c part kids floats rest (still_there b c kids) (still_there b c floats) (still_there b c rest) h n

-- the three steps of an exchange
pub exchange_steps : (a b : ConId) (f f1 f2 f3 h s1 t1 s2 t2 : Forest) (sa sb : ℕ) (away : Bool)
    → has a f ≡ true → has b f ≡ true → has b (only a f) ≡ false
    → h ≡ hole → f1 ≡ replaced a h f → s1 ≡ cond (has a f) (only a f) h → t1 ≡ arriving sb None away s1
    → f2 ≡ replaced b t1 f1 → s2 ≡ cond (has b f1) (only b f1) t1 → t2 ≡ arriving sa None away s2 → f3 ≡ replaced nobody t2 f2
    → f3 ≡ exchanged_nodes a b sa sb away f
exchange_steps a b f f1 f2 f3 h s1 t1 s2 t2 sa sb away ha hb n ph p1 q1 r1 p2 q2 r2 p3 =
    let e1 : f1 ≡ holed a f = p1 ∙ ap (λ z. replaced a z f) ph in
    let e2 : s1 ≡ only a f = q1 ∙ rw ha refl in
    let e3 : t1 ≡ arriving sb None away (only a f) = r1 ∙ ap (λ z. arriving sb None away z) e2 in
    let e4 : f2 ≡ replaced b (arriving sb None away (only a f)) (holed a f) = p2 ∙ rw (e3, e1) refl in
    let e5 : s2 ≡ only b f1 = q2 ∙ rw (e1, still_there b a f hb n) refl in
    let e6 : t2 ≡ arriving sa None away (only b (holed a f)) = r2 ∙ rw (e5, e1) refl in
    p3 ∙ rw (e6, e4) refl
