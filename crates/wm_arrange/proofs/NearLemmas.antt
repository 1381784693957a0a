-- The nearest node of a row, from those of what is below its first node and behind it.
use Rattle.std.proofs.Common.{◌≡◌, ℕ, ◌+◌, ◌≤◌, Bool, true, false, cond, ◌||◌, List, [], ◌∷◌, Option, Some, None, is_some, refl, ap, ap₂, sym, subst, ◌∙◌, arith}
use Rattle.std.proofs.lemmas.Bool.Decides.{nat_tests}
use Rattle.std.specs.Prelude.{nat_le, option_and_then}
use Rattle.std.specs.Option.{option_map, option_or}
use Rattle.wm_base.specs.declared.ids.ConId.{ConId}
use Rattle.wm_forest.specs.declared.part.Part.{Part}
use Rattle.wm_forest.specs.Focus.{focused_in, row_holder}
use Rattle.wm_forest.specs.Forest.{Forest, end, con}
use Rattle.wm_forest.specs.Look.{first_floats, first_kids, first_part, has, rest_of, same}
use Rattle.wm_forest.specs.Recency.{first_held, place_from}
use Rattle.wm_arrange.specs.declared.choosing.Near.{Near}
use Rattle.wm_arrange.specs.Choices.{at_place, child_of, first_by, nearest, or_later, sooner, under}

-- ---- the first of the ids for which there is a node

first_same : (n : ℕ) (f g : ConId → Option ConId) (ids : List ConId) → ((id : ConId) → f id ≡ g id) → first_by n f ids ≡ first_by n g ids
first_same n f g [] h = refl
first_same n f g (id ∷ ids) h = ap₂ (or_later n) (h id) (first_same (n + 1) f g ids h)

-- a place is not before n
abbrev NotBefore : ℕ → Option Near → Type 0
NotBefore n None = Unit {0}
NotBefore n (Some near) = n ≤ near.place

later : (n : ℕ) (near : Option Near) → NotBefore (n + 1) near → NotBefore n near
later n None h = tt
later n (Some near) h = omega (arith, h)

not_before_step : (n : ℕ) (o : Option ConId) (more : Option Near) → NotBefore (n + 1) more → NotBefore n (or_later n o more)
not_before_step n None more h = later n more h
not_before_step n (Some c) more h = omega arith

not_before : (n : ℕ) (f : ConId → Option ConId) (ids : List ConId) → NotBefore n (first_by n f ids)
not_before n f [] = tt
not_before n f (id ∷ ids) = not_before_step n (f id) (first_by (n + 1) f ids) (not_before (n + 1) f ids)

at_most : (a b : ℕ) → a ≤ b → nat_le a b ≡ true
at_most a b h = grind (arith, nat_tests)

above : (a b : ℕ) → b + 1 ≤ a → nat_le a b ≡ false
above a b h = grind (arith, nat_tests)

-- one at n is no later than what comes later
first_wins : (a : Near) (more : Option Near) → NotBefore a.place more → Some a ≡ sooner (Some a) more
first_wins a None h = refl
first_wins a (Some b) h = rw (at_most a.place b.place h) refl

second_wins : (n : ℕ) (b : Near) (more : Option Near) → b.place ≡ n → NotBefore (n + 1) more → Some b ≡ sooner more (Some b)
second_wins n b None e h = refl
second_wins n b (Some a) e h = rw (above a.place b.place (omega (arith, e, h))) refl

first_or_step : (n : ℕ) (o p : Option ConId) (more_o more_p more : Option Near) → NotBefore (n + 1) more_o → NotBefore (n + 1) more_p → more ≡ sooner more_o more_p
    → or_later n (option_or o p) more ≡ sooner (or_later n o more_o) (or_later n p more_p)
first_or_step n None None more_o more_p more h k e = e
first_or_step n None (Some d) more_o more_p more h k e = second_wins n (record { place = n; child = d }) more_o refl h
first_or_step n (Some c) None more_o more_p more h k e = first_wins (record { place = n; child = c }) more_p (later n more_p k)
first_or_step n (Some c) (Some d) more_o more_p more h k e = first_wins (record { place = n; child = c }) (Some (record { place = n; child = d })) (omega arith)

-- of the first by one and the first by another, the sooner is the first by either
first_or : (n : ℕ) (f g : ConId → Option ConId) (ids : List ConId) → first_by n (λ id. option_or (f id) (g id)) ids ≡ sooner (first_by n f ids) (first_by n g ids)
first_or n f g [] = refl
first_or n f g (id ∷ ids) =
    first_or_step n (f id) (g id) (first_by (n + 1) f ids) (first_by (n + 1) g ids) _ (not_before (n + 1) f ids) (not_before (n + 1) g ids) (first_or (n + 1) f g ids)

under_step : (n : ℕ) (c : ConId) (o : Option ConId) (more_c more : Option Near) → more_c ≡ under c more → or_later n (option_map (λ d. c) o) more_c ≡ under c (or_later n o more)
under_step n c None more_c more e = e
under_step n c (Some d) more_c more e = refl

first_under : (n : ℕ) (c : ConId) (f : ConId → Option ConId) (ids : List ConId) → first_by n (λ id. option_map (λ d. c) (f id)) ids ≡ under c (first_by n f ids)
first_under n c f [] = refl
first_under n c f (id ∷ ids) = under_step n c (f id) _ (first_by (n + 1) f ids) (first_under (n + 1) c f ids)

-- ---- the id of a node alone

abbrev own : ConId → ConId → Option ConId
own c id = cond (same id c) (Some c) None

own_step : (n : ℕ) (c : ConId) (b : Bool) (more : Option Near) (place : Option ℕ) → at_place c place ≡ more → at_place c (cond b (Some n) place) ≡ or_later n (cond b (Some c) None) more
own_step n c true more place e = refl
own_step n c false more place e = e

first_own : (n : ℕ) (c : ConId) (ids : List ConId) → at_place c (place_from n c ids) ≡ first_by n (own c) ids
first_own n c [] = refl
first_own n c (id ∷ ids) = own_step n c (same id c) (first_by (n + 1) (own c) ids) (place_from (n + 1) c ids) (first_own (n + 1) c ids)

-- ---- a row

turned : (a b : ConId) → same a b ≡ same b a
turned a b = grind (arith, nat_tests)

some_by : (b r : Bool) (c : ConId) (o : Option ConId) → r ≡ is_some o → is_some (cond b (Some c) o) ≡ b || r
some_by true r c o e = refl
some_by false r c o e = sym e

fourth : (a k l r : Bool) → (a || k || l || false) || r ≡ a || k || l || r
fourth true k l r = refl
fourth false true l r = refl
fourth false false true r = refl
fourth false false false r = refl

-- a row holds an id where one of its nodes does
pub held : (id : ConId) (row : Forest) → is_some (row_holder id row) ≡ has id row
held id end = refl
held id (con part kids floats rest) =
    some_by (same part.id id || has id kids || has id floats || false) (has id rest) part.id (row_holder id rest) (sym (held id rest))
    ∙ fourth (same part.id id) (has id kids) (has id floats) (has id rest)

by_parts : (c : ConId) (a k l : Bool) (ok ol rest : Option ConId) → is_some ok ≡ k → is_some ol ≡ l
    → cond (a || k || l || false) (Some c) rest ≡ option_or (option_map (λ d. c) (option_or (cond a (Some c) None) (option_or ok ol))) rest
by_parts c true k l ok ol rest e f = refl
by_parts c false true l None ol rest e f = cc
by_parts c false true l (Some x) ol rest e f = refl
by_parts c false false true (Some x) ol rest e f = cc
by_parts c false false true None None rest e f = cc
by_parts c false false true None (Some x) rest e f = refl
by_parts c false false false (Some x) ol rest e f = cc
by_parts c false false false None (Some x) rest e f = cc
by_parts c false false false None None rest e f = refl

abbrev below : Part → Forest → Forest → ConId → Option ConId
below part kids floats id = option_or (own part.id id) (option_or (row_holder id kids) (row_holder id floats))

holder_by : (part : Part) (kids floats rest : Forest) (id : ConId)
    → row_holder id (con part kids floats rest) ≡ option_or (option_map (λ d. part.id) (below part kids floats id)) (row_holder id rest)
holder_by part kids floats rest id =
    by_parts part.id (same part.id id) (has id kids) (has id floats) (row_holder id kids) (row_holder id floats) (row_holder id rest) (held id kids) (held id floats)
    ∙ ap (λ b. option_or (option_map (λ d. part.id) (option_or (cond b (Some part.id) None) (option_or (row_holder id kids) (row_holder id floats)))) (row_holder id rest)) (turned part.id id)

-- the nearest node of a row: its first node, where it has an id, or there is one below it, that comes no later than all of the rest
pub nearest_step : (ids : List ConId) (part : Part) (kids floats rest : Forest)
    → nearest ids (con part kids floats rest) ≡ sooner (under part.id (sooner (at_place part.id (place_from 0 part.id ids)) (sooner (nearest ids kids) (nearest ids floats)))) (nearest ids rest)
nearest_step ids part kids floats rest =
    let c = part.id in
    first_same 0 (λ id. row_holder id (con part kids floats rest)) (λ id. option_or (option_map (λ d. c) (below part kids floats id)) (row_holder id rest)) ids (holder_by part kids floats rest)
    ∙ first_or 0 (λ id. option_map (λ d. c) (below part kids floats id)) (λ id. row_holder id rest) ids
    ∙ ap (λ x. sooner x (nearest ids rest))
    (first_under 0 c (below part kids floats) ids
    ∙ ap (under c)
    (first_or 0 (own c) (λ id. option_or (row_holder id kids) (row_holder id floats)) ids
    ∙ ap₂ sooner (sym (first_own 0 c ids)) (first_or 0 (λ id. row_holder id kids) (λ id. row_holder id floats) ids)))

-- the nearest node along a row: where it ends there is none
nothing : (n : ℕ) (ids : List ConId) → None ≡ first_by n (λ id. row_holder id end) ids
nothing n [] = refl
nothing n (id ∷ ids) = nothing (n + 1) ids

by_places : (a b c : Near) → sooner (cond (nat_le a.place b.place) (Some a) (Some b)) (Some c) ≡ sooner (Some a) (cond (nat_le b.place c.place) (Some b) (Some c))
by_places a b c = by_tests (nat_le a.place b.place) (nat_le b.place c.place) (nat_le a.place c.place) refl refl refl
  where
    by_tests : (x y z : Bool) → nat_le a.place b.place ≡ x → nat_le b.place c.place ≡ y → nat_le a.place c.place ≡ z
        → sooner (cond x (Some a) (Some b)) (Some c) ≡ sooner (Some a) (cond y (Some b) (Some c))
    by_tests true true true e f g = rw (e, g) refl
    by_tests true true false e f g = absurd (grind (arith, nat_tests))
    by_tests true false z e f g = refl
    by_tests false true z e f g = rw (e, f) refl
    by_tests false false true e f g = absurd (grind (arith, nat_tests))
    by_tests false false false e f g = rw (f, g) refl

one_place : (a b : Near) (x : Bool) → sooner (cond x (Some a) (Some b)) None ≡ cond x (Some a) (Some b)
one_place a b true = refl
one_place a b false = refl

-- of three nodes, the soonest of two and of one
grouped : (a b c : Option Near) → sooner (sooner a b) c ≡ sooner a (sooner b c)
grouped None b c = refl
grouped (Some a) None c = refl
grouped (Some a) (Some b) None = one_place a b (nat_le a.place b.place)
grouped (Some a) (Some b) (Some c) = by_places a b c

sooner_none : (a : Option Near) → sooner a None ≡ a
sooner_none None = refl
sooner_none (Some a) = refl

pub nearest_end : (ids : List ConId) (row : Forest) (near all : Option Near) → first_part row ≡ None → sooner near (nearest ids row) ≡ all → near ≡ all
nearest_end ids end near all h e = sym (sooner_none near) ∙ (ap (sooner near) (nothing 0 ids) ∙ e)
nearest_end ids (con part kids floats rest) near all h e = cc

-- a node, and the rest behind it
pub nearest_on : (near here rest row all : Option Near) → row ≡ sooner here rest → sooner near row ≡ all → sooner (sooner near here) rest ≡ all
nearest_on near here rest row all e f = grouped near here rest ∙ (ap (sooner near) (sym e) ∙ f)

pub nearest_turn : (ids : List ConId) (row : Forest) (part : Part) → first_part row ≡ Some part
    → nearest ids row ≡ sooner (under part.id (sooner (at_place part.id (place_from 0 part.id ids)) (sooner (nearest ids (first_kids row)) (nearest ids (first_floats row))))) (nearest ids (rest_of row))
nearest_turn ids end part h = cc
nearest_turn ids (con p kids floats rest) part h =
    let same_part : p ≡ part = cc in
    subst (λ (q : Part). nearest ids (con p kids floats rest) ≡ sooner (under q.id (sooner (at_place q.id (place_from 0 q.id ids)) (sooner (nearest ids kids) (nearest ids floats)))) (nearest ids rest))
    same_part (nearest_step ids p kids floats rest)

-- ---- the most recent child

child_step : (n : ℕ) (id : ConId) (row : Forest) (b : Bool) (o : Option ConId) (more : Option Near) (first : Option ConId) → row_holder id row ≡ o → is_some o ≡ b
    → child_of more ≡ option_and_then (λ c. row_holder c row) first → child_of (or_later n o more) ≡ option_and_then (λ c. row_holder c row) (cond b (Some id) first)
child_step n id row true None more first h b e = cc
child_step n id row false None more first h b e = e
child_step n id row true (Some c) more first h b e = sym h
child_step n id row false (Some c) more first h b e = cc

child_from : (n : ℕ) (ids : List ConId) (row : Forest) → child_of (first_by n (λ id. row_holder id row) ids) ≡ focused_in ids row
child_from n [] row = refl
child_from n (id ∷ ids) row =
    child_step n id row (has id row) (row_holder id row) (first_by (n + 1) (λ id. row_holder id row) ids) (first_held row ids) refl (held id row) (child_from (n + 1) ids row)

-- the nearest node of a row is its most recent one
pub nearest_child : (ids : List ConId) (row : Forest) → child_of (nearest ids row) ≡ focused_in ids row
nearest_child ids row = child_from 0 ids row
