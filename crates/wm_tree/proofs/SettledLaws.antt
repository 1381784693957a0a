-- What settling leaves: nothing vacant, and the order of recency of what stays.
use Rattle.std.proofs.Common.{◌≡◌, ◌+◌, ◌≤◌, Bool, true, false, cond, ◌&&◌, not, List, [], ◌∷◌, Option, None, filter, refl, ap, ap₂, ◌∙◌, arith}
use Rattle.std.proofs.lemmas.Bool.{and_parts}
use Rattle.wm_base.specs.declared.ids.ConId.{ConId}
use Rattle.wm_forest.specs.declared.part.Part.{Part}
use Rattle.wm_forest.specs.Forest.{Forest, end, con}
use Rattle.wm_forest.specs.Change.{is_vacant, settled_row, shown_of}
use Rattle.wm_forest.specs.Settle.{is_settled, vacated}
use Rattle.wm_forest.specs.Look.{has}
use Rattle.wm_forest.specs.Recency.{inside, outside}
use Rattle.wm_tree.specs.Sound.{IsSound}
use Rattle.wm_forest.specs.SoundRow.{one_of, ranked, tally, times}
use Rattle.wm_tree.specs.TreeValue.{TreeValue}
use Rattle.wm_tree.specs.Words.{settled}
use Rattle.wm_forest.proofs.CountLemmas.{counted, tally-absent}
use Rattle.wm_forest.proofs.ForestLemmas.{outside_end}
use Rattle.wm_forest.proofs.RecencyLemmas.{same_self}
use Rattle.wm_tree.proofs.SettleLemmas.{count-vacated}
use Rattle.wm_tree.proofs.SoundLemmas.{rank_le}

settled_step : (b : Bool) (shown : Option ConId) (part : Part) (kids floats rest : Forest) → is_vacant shown part.id part.kind kids floats ≡ b → is_settled (shown_of part.kind) kids ≡ true → is_settled shown rest ≡ true
    → is_settled shown (cond b rest (con part kids floats rest)) ≡ true
settled_step true shown part kids floats rest e p q = q
settled_step false shown part kids floats rest e p q = rw (e, p, q) refl

-- after settling no node is vacant
pub settled_is_settled : (shown : Option ConId) (f : Forest) → is_settled shown (settled_row shown f) ≡ true
settled_is_settled shown end = refl
settled_is_settled shown (con part kids floats rest) =
    settled_step (is_vacant shown part.id part.kind (settled_row (shown_of part.kind) kids) floats) shown part (settled_row (shown_of part.kind) kids) floats (settled_row shown rest) refl
    (settled_is_settled (shown_of part.kind) kids) (settled_is_settled shown rest)

not_true : (b : Bool) → not b ≡ true → b ≡ false
not_true true h = cc
not_true false h = refl

-- where no node is vacant settling takes none out
pub stays : (shown : Option ConId) (f : Forest) → is_settled shown f ≡ true → (settled_row shown f ≡ f) × (vacated shown f ≡ end)
stays shown end h = (refl, refl)
stays shown (con part kids floats rest) h =
    let p = and_parts (not (is_vacant shown part.id part.kind kids floats) && is_settled (shown_of part.kind) kids) (is_settled shown rest) h in
    let q = and_parts (not (is_vacant shown part.id part.kind kids floats)) (is_settled (shown_of part.kind) kids) p.0 in
    let k = stays (shown_of part.kind) kids q.1 in
    let r = stays shown rest p.1 in
    let e : is_vacant shown part.id part.kind kids floats ≡ false = not_true (is_vacant shown part.id part.kind kids floats) q.0 in
    (rw (k.0, r.0, e) refl, rw (k.0, k.1, r.1, e) refl)

pub settled_same : (t : TreeValue) → is_settled None t.nodes ≡ true → settled t ≡ t
settled_same t h =
    let s = stays None t.nodes h in
    let with : Forest → List ConId → TreeValue = λ f ids. record t { nodes = f; recency = ids } in
    ap₂ with s.0 (ap (λ z. outside z t.recency) s.1 ∙ outside_end t.recency)

pub settled_twice : (t : TreeValue) → settled (settled t) ≡ settled t
settled_twice t = settled_same (settled t) (settled_is_settled None t.nodes)

-- ---- the order of recency

-- tests that agree on the ids of a list keep the same ones
filter_agrees : (p q : ConId → Bool) (ids : List ConId) → ((i : ConId) → 1 ≤ times i ids → p i ≡ q i) → filter p ids ≡ filter q ids
filter_agrees p q [] h = refl
filter_agrees p q (id ∷ ids) h =
    let here : p id ≡ q id = h id (rw (same_self id id refl) (omega arith)) in
    rw here (ap (λ z. cond (q id) (id ∷ z) z) (filter_agrees p q ids (λ i n. h i (omega (arith, n)))))

kept_once : (i : ConId) (f : Forest) (ids : List ConId) → tally i f ≤ 1 → times i ids ≡ ranked i f → 1 ≤ times i ids → not (has i (vacated None f)) ≡ has i (settled_row None f)
kept_once i f ids once known n = by_tests (has i (vacated None f)) (has i (settled_row None f)) refl refl
  where
    by_tests : (a b : Bool) → has i (vacated None f) ≡ a → has i (settled_row None f) ≡ b → not a ≡ b
    by_tests true true p q = absurd (omega (arith, once, counted i (vacated None f) p, counted i (settled_row None f) q, count-vacated (one_of i) None f))
    by_tests true false p q = refl
    by_tests false true p q = refl
    by_tests false false p q =
        absurd (omega (arith, n, known, rank_le i f, tally-absent i (vacated None f) p, tally-absent i (settled_row None f) q, count-vacated (one_of i) None f))

pub settled_inside : (t : TreeValue) → IsSound t → (settled t).recency ≡ inside (settled t).nodes t.recency
settled_inside t s =
    filter_agrees (λ id. not (has id (vacated None t.nodes))) (λ id. has id (settled_row None t.nodes)) t.recency
    (λ i n. kept_once i t.nodes t.recency (s.once i) (s.known i) n)

-- ---- of a tree that is what settling makes

pub settled_by : (t : TreeValue) (new : Forest) → new ≡ settled_row None t.nodes → is_settled None new ≡ true
settled_by t new e = rw e (settled_is_settled None t.nodes)

pub same_by : (t new : TreeValue) → new ≡ settled t → is_settled None t.nodes ≡ true → new ≡ t
same_by t new e h = e ∙ settled_same t h

pub twice_by : (t new : TreeValue) → new ≡ settled t → settled new ≡ new
twice_by t new e = rw e (settled_twice t)

pub taken_by : (t : TreeValue) (new : Forest) (i : ConId) → new ≡ settled_row None t.nodes → tally i new + tally i (vacated None t.nodes) ≡ tally i t.nodes
taken_by t new i e = rw e (count-vacated (one_of i) None t.nodes)

pub left_by : (t : TreeValue) (new : Forest) (ids : List ConId) → new ≡ settled_row None t.nodes → ids ≡ outside (vacated None t.nodes) t.recency → IsSound t → ids ≡ inside new t.recency
left_by t new ids e f s = rw (e, f) (settled_inside t s)
