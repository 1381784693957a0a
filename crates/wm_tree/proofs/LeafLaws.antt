-- The leaf of a node has no tiled children.
use Rattle.std.proofs.Common.{◌≡◌, ℕ, ◌+◌, ◌-◌, ◌≤◌, Bool, true, false, cond, ◌||◌, List, [], ◌∷◌, Option, None, Some, refl, ap, sym, ◌∙◌, subst, arith}
use Rattle.std.specs.Prelude.{IfSome}
use Rattle.wm_base.specs.declared.ids.ConId.{ConId}
use Rattle.wm_forest.specs.declared.part.Part.{Part}
use Rattle.wm_forest.specs.declared.part.NodeKind.{NodeKind}
use Rattle.wm_forest.specs.declared.part.NodeKind.TheVariants.{Root, Output, Space, Con}
use Rattle.wm_forest.specs.declared.spot.Spot.{Spot}
use Rattle.wm_forest.specs.Forest.{Forest, end, con}
use Rattle.wm_forest.specs.Look.{has, only, same}
use Rattle.wm_forest.specs.Recency.{first_held, lists}
use Rattle.wm_forest.specs.SoundRow.{Level, roots, outputs, spaces, containers, below, IsNode, IsSoundRow, one_of, rank_of, ranked, tally, times}
use Rattle.wm_tree.specs.Sound.{IsSound}
use Rattle.wm_forest.specs.Spot.{room_below, top}
use Rattle.wm_tree.specs.TreeValue.{TreeValue, leaf}
use Rattle.wm_forest.specs.Focus.{follow, leaf_at, leaf_of, tiled_by, tiled_kids}
use Rattle.wm_forest.proofs.ChangeLemmas.{by_place}
use Rattle.wm_forest.proofs.CountLemmas.{count-without, counted}
use Rattle.wm_forest.proofs.ForestLemmas.{first_held_end, or_false}
use Rattle.wm_forest.proofs.OnceLemmas.{in_kids, in_rest, only_kids, only_rest, within}
use Rattle.wm_forest.proofs.RecencyLemmas.{same_is, same_self}

-- ---- the first of some ids that a forest holds

held_step : (f : Forest) (i id : ConId) (ids : List ConId) (b same_id : Bool) → has i f ≡ true → has id f ≡ b → same id i ≡ same_id → (lists i ids ≡ true → first_held f ids ≡ None → ⊥)
    → (same_id || lists i ids) ≡ true → cond b (Some id) (first_held f ids) ≡ None → ⊥
held_step f i id ids true q h g e more l n = absurd (cc)
held_step f i id ids false true h g e more l n = let bad : true ≡ false = sym h ∙ ap (λ z. has z f) (sym (same_is id i e)) ∙ g in absurd (cc)
held_step f i id ids false false h g e more l n = more l n

held_one : (f : Forest) (i : ConId) (ids : List ConId) → has i f ≡ true → lists i ids ≡ true → first_held f ids ≡ None → ⊥
held_one f i [] h l e = absurd (cc)
held_one f i (id ∷ ids) h l e = held_step f i id ids (has id f) (same id i) h refl refl (held_one f i ids h) l e

there_step : (f : Forest) (id : ConId) (ids : List ConId) (c : ConId) (b : Bool) → has id f ≡ b → (first_held f ids ≡ Some c → has c f ≡ true) → cond b (Some id) (first_held f ids) ≡ Some c → has c f ≡ true
there_step f id ids c true g more e = let at : id ≡ c = cc in subst (λ z. has z f ≡ true) at g
there_step f id ids c false g more e = more e

pub first_there : (f : Forest) (ids : List ConId) (c : ConId) → first_held f ids ≡ Some c → has c f ≡ true
first_there f [] c e = cc
first_there f (id ∷ ids) c e = there_step f id ids c (has id f) refl (first_there f ids c) e

-- each node of the forest is among the ids
abbrev Listed : Forest → List ConId → Type 0
Listed f ids = (i : ConId) → has i f ≡ true → lists i ids ≡ true

abbrev Once : Forest → Type 0
Once f = (i : ConId) → tally i f ≤ 1

none_left : (f : Forest) (ids : List ConId) → Listed f ids → first_held f ids ≡ None → f ≡ end
none_left end ids h e = refl
none_left (con part kids floats rest) ids h e =
    let here : has part.id (con part kids floats rest) ≡ true = rw (same_self part.id part.id refl) refl in
    absurd (held_one (con part kids floats rest) part.id ids here (h part.id here) e)

-- ---- the leaf

-- the node is in the forest and has no tiled children
abbrev Ends : ConId → Forest → Type 0
Ends d f = (has d f ≡ true) × (tiled_kids (only d f) ≡ end)

no_kids : (kind : NodeKind) (kids : Forest) → kids ≡ end → tiled_by kind kids ≡ end
no_kids (Root c) kids e = refl
no_kids (Output o) kids e = refl
no_kids (Space s) kids e = e
no_kids (Con c) kids e = e

at_first : (part : Part) (kids floats rest : Forest) → tiled_by part.kind kids ≡ end → Ends part.id (con part kids floats rest)
at_first part kids floats rest e = rw (same_self part.id part.id refl) (refl, e)

module _ (ids : List ConId) where
  node_ends : (part : Part) (kids floats rest : Forest) → Once (con part kids floats rest) → Listed kids ids → ((c : ConId) → has c kids ≡ true → Ends (leaf_at ids kids c) kids)
      → (o : Option ConId) → first_held kids ids ≡ o → Ends (follow part.id (leaf_at ids kids) o) (con part kids floats rest)
  node_ends part kids floats rest once listed more None e = at_first part kids floats rest (no_kids part.kind kids (none_left kids ids listed e))
  node_ends part kids floats rest once listed more (Some c) e =
      let r = more c (first_there kids ids c e) in
      let d = leaf_at ids kids c in
      (in_kids d part kids floats rest r.0, ap tiled_kids (only_kids d part kids floats rest (once d) r.0) ∙ r.1)

  behind : (part : Part) (kids floats rest : Forest) (c : ConId) → has c (con part kids floats rest) ≡ true → has c (con part kids floats end) ≡ false → has c rest ≡ true
  behind part kids floats rest c h e = let q = or_false (same part.id c || has c kids || has c floats) false e in rw q.0 at h

  leaf_step : (part : Part) (kids floats rest : Forest) (c : ConId) (b : Bool) → Once (con part kids floats rest) → Listed kids ids → has c (con part kids floats end) ≡ b → has c (con part kids floats rest) ≡ true
      → ((d : ConId) → has d kids ≡ true → Ends (leaf_at ids kids d) kids) → (has c rest ≡ true → Ends (leaf_at ids rest c) rest)
      → Ends (cond b (follow part.id (leaf_at ids kids) (first_held kids ids)) (leaf_at ids rest c)) (con part kids floats rest)
  leaf_step part kids floats rest c true once listed e h below after = node_ends part kids floats rest once listed below (first_held kids ids) refl
  leaf_step part kids floats rest c false once listed e h below after =
      let r = after (behind part kids floats rest c h e) in
      let d = leaf_at ids rest c in
      (in_rest d part kids floats rest r.0, ap tiled_kids (only_rest d part kids floats rest (once d) r.0) ∙ r.1)

  leaf_ends : (f : Forest) → Once f → Listed f ids → (c : ConId) → has c f ≡ true → Ends (leaf_at ids f c) f
  leaf_ends end once listed c h = cc
  leaf_ends (con part kids floats rest) once listed c h =
      leaf_step part kids floats rest c (has c (con part kids floats end)) once (λ i k. listed i (in_kids i part kids floats rest k)) refl h
      (leaf_ends kids (λ i. omega (arith, once i)) (λ i k. listed i (in_kids i part kids floats rest k)))
      (leaf_ends rest (λ i. omega (arith, once i)) (λ i k. listed i (in_rest i part kids floats rest k)) c)

-- ---- tiled children are among the ids by recency

one_rank : (tiled : Bool) (room : ℕ) (i : ConId) (part : Part) (kids : Forest) → IsNode containers tiled room part.id part.kind part.marks kids → one_of i part ≡ rank_of i part
one_rank tiled room i part kids h = by_kind part.kind h
  where
    by_kind : (kind : NodeKind) → IsNode containers tiled room part.id kind part.marks kids → one_of i part ≡ rank_of i (record part { kind = kind })
    by_kind (Root c) h = absurd h
    by_kind (Output o) h = absurd h
    by_kind (Space w) h = absurd h
    by_kind (Con d) h = refl

all_ranked : (tiled : Bool) (room : ℕ) (f : Forest) → IsSoundRow containers tiled room f → (i : ConId) → tally i f ≡ ranked i f
all_ranked tiled room end h i = refl
all_ranked tiled room (con part kids floats rest) h i =
    omega (
      arith,
      one_rank tiled room i part kids h.0,
      all_ranked true (room_below room part.kind) kids h.2 i,
      all_ranked false (room_below room part.kind) floats h.3 i,
      all_ranked tiled room rest h.4 i,
    )

-- the tiled children of the first node, and what is below them, are workspaces or containers
abbrev RanksBelow : Forest → Type 0
RanksBelow end = Unit {0}
RanksBelow (con part kids floats rest) = (i : ConId) → tally i (tiled_by part.kind kids) ≡ ranked i (tiled_by part.kind kids)

ranks_below : (l : Level) (tiled : Bool) (room : ℕ) (id : ConId) (kind : NodeKind) (marks : List (List ℕ)) (kids : Forest) → IsNode l tiled room id kind marks kids → IsSoundRow (below l) true (room_below room kind) kids
    → (i : ConId) → tally i (tiled_by kind kids) ≡ ranked i (tiled_by kind kids)
ranks_below l tiled room id (Root c) marks kids n h i = refl
ranks_below l tiled room id (Output o) marks kids n h i = refl
ranks_below roots tiled room id (Space w) marks kids n h i = absurd n
ranks_below outputs tiled room id (Space w) marks kids n h i = absurd n
ranks_below spaces tiled room id (Space w) marks kids n h i = all_ranked true 32 kids h i
ranks_below containers tiled room id (Space w) marks kids n h i = absurd n
ranks_below roots tiled room id (Con c) marks kids n h i = absurd n
ranks_below outputs tiled room id (Con c) marks kids n h i = absurd n
ranks_below spaces tiled room id (Con c) marks kids n h i = absurd n
ranks_below containers tiled room id (Con c) marks kids n h i = all_ranked true (room - 1) kids h i

abbrev Finds : Level → Spot → Forest → Forest → Forest → Forest → Option Spot → Forest → Type 0
Finds l s whole old new found sp st = IsSoundRow l s.tiled s.room old → RanksBelow found

ranks_found : (c : ConId) (l : Level) (s : Spot) (f : Forest) → IsSoundRow l s.tiled s.room f → RanksBelow (only c f)
ranks_found c l s f =
    by_place c (λ row part kids floats rest. rest) end Finds
    (λ l s whole p. tt)
    (λ l s whole part kids floats rest p. ranks_below l s.tiled s.room part.id part.kind part.marks kids p.0 p.2)
    (λ l s whole part kids floats rest new found sp st h p. h p.2)
    (λ l s whole part kids floats rest new found sp st h p. h p.3)
    (λ l s whole part kids floats rest new found sp st h p. h p.4) l s f f

timed_step : (i : ConId) (ids : List ConId) (b : Bool) → (1 ≤ times i ids → lists i ids ≡ true) → 1 ≤ cond b 1 0 + times i ids → (b || lists i ids) ≡ true
timed_step i ids true more h = refl
timed_step i ids false more h = more (omega (arith, h))

timed : (i : ConId) (ids : List ConId) → 1 ≤ times i ids → lists i ids ≡ true
timed i [] h = absurd (omega (arith, h))
timed i (id ∷ ids) h = timed_step i ids (same id i) (timed i ids) h

tiled_within : (i : ConId) (kind : NodeKind) (kids : Forest) → ranked i (tiled_by kind kids) ≤ ranked i kids
tiled_within i (Root c) kids = omega arith
tiled_within i (Output o) kids = omega arith
tiled_within i (Space w) kids = omega arith
tiled_within i (Con c) kids = omega arith

listed_below : (t : TreeValue) (part : Part) (kids floats rest : Forest) (c : ConId) → IsSound t → only c t.nodes ≡ con part kids floats rest → Listed (tiled_by part.kind kids) t.recency
listed_below t part kids floats rest c s e i h =
    let all : RanksBelow (con part kids floats rest) = subst RanksBelow e (ranks_found c roots top t.nodes s.shaped) in
    let whole : ranked i (con part kids floats rest) ≤ ranked i t.nodes = subst (λ z. ranked i z ≤ ranked i t.nodes) e (omega (arith, count-without (rank_of i) c t.nodes)) in
    timed i t.recency (omega (arith, s.known i, whole, tiled_within i part.kind kids, all i, counted i (tiled_by part.kind kids) h))

-- the leaf of the first node of a row
first_leaf : (ids : List ConId) (kind : NodeKind) (part : Part) (kids floats rest : Forest) → part.kind ≡ kind → Once (con part kids floats rest) → Listed (tiled_by kind kids) ids
    → Ends (follow part.id (leaf_at ids kids) (first_held (tiled_by kind kids) ids)) (con part kids floats rest)
first_leaf ids (Root c) part kids floats rest e once listed =
    subst (λ o. Ends (follow part.id (leaf_at ids kids) o) (con part kids floats rest)) (sym (first_held_end ids)) (at_first part kids floats rest (rw e refl))
first_leaf ids (Output o) part kids floats rest e once listed =
    subst (λ o. Ends (follow part.id (leaf_at ids kids) o) (con part kids floats rest)) (sym (first_held_end ids)) (at_first part kids floats rest (rw e refl))
first_leaf ids (Space w) part kids floats rest e once listed =
    node_ends ids part kids floats rest once listed (leaf_ends ids kids (λ i. omega (arith, once i)) listed) (first_held kids ids) refl
first_leaf ids (Con c) part kids floats rest e once listed =
    node_ends ids part kids floats rest once listed (leaf_ends ids kids (λ i. omega (arith, once i)) listed) (first_held kids ids) refl

once_found : (t : TreeValue) (c : ConId) → IsSound t → Once (only c t.nodes)
once_found t c s i = omega (arith, count-without (one_of i) c t.nodes, s.once i)

ends_by : (t : TreeValue) (c : ConId) (found : Forest) → IsSound t → only c t.nodes ≡ found → (d : ConId) → leaf_of t.recency found ≡ Some d → tiled_kids (only d t.nodes) ≡ end
ends_by t c end s e d h = cc
ends_by t c (con part kids floats rest) s e d h =
    let r = first_leaf t.recency part.kind part kids floats rest refl (subst Once e (once_found t c s)) (listed_below t part kids floats rest c s e) in
    let at : follow part.id (leaf_at t.recency kids) (first_held (tiled_by part.kind kids) t.recency) ≡ d = cc in
    let k : Ends d (con part kids floats rest) = subst (λ z. Ends z (con part kids floats rest)) at r in
    let w = within c d t.nodes (rw e k.0) in
    ap tiled_kids (w.1 (s.once d) ∙ ap (λ z. only d z) e) ∙ k.1

-- the leaf of a node has no tiled children
pub leaf_has_none : (t : TreeValue) (c : ConId) (o : Option ConId) → o ≡ leaf t c → IsSound t → IfSome o (λ d. tiled_kids (only d t.nodes) ≡ end)
leaf_has_none t c None e s = tt
leaf_has_none t c (Some d) e s = ends_by t c (only c t.nodes) s refl d (sym e)
