-- What the map of choices knows, where each id is there once.
use Rattle.std.proofs.Common.{◌≡◌, ℕ, zero, suc, ◌+◌, ◌≤◌, Bool, true, false, cond, ◌&&◌, List, [], Option, Some, None, refl, ap, sym, subst, ◌∙◌, arith}
use Rattle.std.specs.Option.{option_or}
use Rattle.wm_base.specs.declared.ids.ConId.{ConId}
use Rattle.wm_forest.specs.declared.part.NodeKind.TheVariants.{Output, Space}
use Rattle.wm_forest.specs.declared.part.OutputPart.{OutputPart}
use Rattle.wm_forest.specs.declared.part.Part.{Part}
use Rattle.wm_forest.specs.declared.part.SpacePart.{SpacePart}
use Rattle.wm_forest.specs.Focus.{focused_in}
use Rattle.wm_forest.specs.Forest.{Forest, end, con}
use Rattle.wm_forest.specs.Look.{first_floats, first_kids, first_part, node_in, output_kind, rest_of, same}
use Rattle.wm_forest.specs.SoundRow.{tally}
use Rattle.wm_arrange.specs.declared.choosing.Near.{Near}
use Rattle.wm_arrange.specs.Choices.{child_of, choice_in, kept, nearest, row_layout, shows_one, KnowsFirst, KnowsNode, KnowsOutput, KnowsOutputs, KnowsRow}
use Rattle.wm_arrange.specs.Maps.{value_at}
use Rattle.wm_arrange.proofs.LeafLemmas.{here_once}
use Rattle.wm_arrange.proofs.NearLemmas.{nearest_child}
use Rattle.wm_forest.proofs.RecencyLemmas.{same_self}

pub or_none : {X : Type 0} (o : Option X) → option_or o None ≡ o
or_none None = refl
or_none (Some x) = refl

-- ---- what is kept of a row, node by node

four : {X : Type 0} (o k l r v : Option X) → option_or o (option_or k (option_or l (option_or r v))) ≡ option_or (option_or o (option_or k (option_or l r))) v
four (Some x) k l r v = refl
four None (Some x) l r v = refl
four None None (Some x) r v = refl
four None None None r v = refl

pub kept_put : (c : ConId) (part : Part) (near : Option Near) (n : Near) (b : Bool) (old : Option ConId) → near ≡ Some n → b ≡ shows_one (row_layout part.kind) → b ≡ true
    → cond (same part.id c) (Some n.child) old ≡ option_or (kept c part near) old
kept_put c part near n b old e f g = let one : shows_one (row_layout part.kind) ≡ true = sym f ∙ g in rw (e, one) (by_test (same part.id c))
  where
    by_test : (s : Bool) → cond s (Some n.child) old ≡ option_or (cond (s && true) (Some n.child) None) old
    by_test true = refl
    by_test false = refl

-- ---- each node's own choice

kept_absent : (b : Bool) (c : ConId) (part : Part) (near : Option Near) → same part.id c ≡ b → b ≡ false → kept c part near ≡ None
kept_absent true c part near e f = cc
kept_absent false c part near e f = rw e refl

apart : (b : Bool) (part : Part) (kids floats rest : Forest) (c : ConId) (n : ℕ) → same part.id c ≡ b → tally c (con part kids floats rest) ≤ n → n + 1 ≤ 1 + tally c kids + tally c floats + tally c rest → b ≡ false
apart true part kids floats rest c n e most more = let much : 1 + tally c kids + tally c floats + tally c rest ≤ n = rw e at most in absurd (omega (arith, much, more))
apart false part kids floats rest c n e most more = refl

absent : (ids : List ConId) (c : ConId) (f : Forest) → tally c f ≡ 0 → choice_in ids c f ≡ None
absent ids c end h = refl
absent ids c (con part kids floats rest) h =
    let other = apart (same part.id c) part kids floats rest c 0 refl (omega (arith, h)) (omega arith) in
    rw (kept_absent (same part.id c) c part (nearest ids kids) refl other, absent ids c kids (omega (arith, h)), absent ids c floats (omega (arith, h)), absent ids c rest (omega (arith, h))) refl

-- where a row has c once, what is kept of the rest may be kept last
late : (ids : List ConId) (c : ConId) (part : Part) (kids floats rest : Forest) (old : Option ConId) (n : ℕ) → tally c rest ≡ n → tally c (con part kids floats rest) ≤ 1
    → option_or (choice_in ids c rest) (option_or (kept c part (nearest ids kids)) (option_or (choice_in ids c kids) (option_or (choice_in ids c floats) old))) ≡ option_or (choice_in ids c (con part kids floats rest)) old
late ids c part kids floats rest old zero e once =
    rw (absent ids c rest e) (four (kept c part (nearest ids kids)) (choice_in ids c kids) (choice_in ids c floats) None old)
late ids c part kids floats rest old (suc n) e once =
    let other = apart (same part.id c) part kids floats rest c 1 refl once (omega (arith, e)) in
    rw (kept_absent (same part.id c) c part (nearest ids kids) refl other, absent ids c kids (omega (arith, e, once)), absent ids c floats (omega (arith, e, once))) refl

-- the nodes of a row and below it have an id no more often than all
pub tallies : (c : ConId) (row : Forest) → (tally c (first_kids row) ≤ tally c row) × (tally c (first_floats row) ≤ tally c row) × (tally c (rest_of row) ≤ tally c row)
tallies c end = (omega arith, omega arith, omega arith)
tallies c (con part kids floats rest) = (omega arith, omega arith, omega arith)

-- what the changes of a map for what is below the first node of a row, and for the node, leave of c and of the rest
pub chosen_on : (ids : List ConId) (c : ConId) (row : Forest) (part : Part) → first_part row ≡ Some part → (kids floats rest : Forest) (near : Option Near) (m0 m1 m2 m3 all : Option ConId)
    → kids ≡ first_kids row → floats ≡ first_floats row → rest ≡ rest_of row → near ≡ nearest ids kids → tally c row ≤ 1
    → m1 ≡ option_or (choice_in ids c floats) m0 → m2 ≡ option_or (choice_in ids c kids) m1 → m3 ≡ option_or (kept c part near) m2
    → option_or (choice_in ids c row) m0 ≡ all → option_or (choice_in ids c rest) m3 ≡ all
chosen_on ids c end part h kids floats rest near m0 m1 m2 m3 all e1 e2 e3 e4 once e5 e6 e7 g = cc
chosen_on ids c (con p k l r) part h kids floats rest near m0 m1 m2 m3 all e1 e2 e3 e4 once e5 e6 e7 g =
    let same_part : p ≡ part = cc in
    rw (e7, e6, e5, e4, e1, e2, e3, sym same_part) (late ids c p k l r m0 (tally c r) refl once ∙ g)

-- behind the last node nothing is kept
pub chosen_end : (ids : List ConId) (c : ConId) (row : Forest) (m all : Option ConId) → first_part row ≡ None → option_or (choice_in ids c row) m ≡ all → m ≡ all
chosen_end ids c end m all h g = g
chosen_end ids c (con part kids floats rest) m all h g = cc

by_kids : {X : Type 0} (o k l r : Option X) → o ≡ None → l ≡ None → r ≡ None → option_or o (option_or k (option_or l r)) ≡ k
by_kids o k l r e f g = rw (e, f, g) (or_none k)

by_rest : {X : Type 0} (o k l r : Option X) → o ≡ None → k ≡ None → l ≡ None → option_or o (option_or k (option_or l r)) ≡ r
by_rest o k l r e f g = rw (e, f, g) refl

by_own : {X : Type 0} (o k l r : Option X) → k ≡ None → l ≡ None → r ≡ None → option_or o (option_or k (option_or l r)) ≡ o
by_own o k l r e f g = rw (e, f, g) (or_none o)

kept_own : (part : Part) (near : Option Near) → shows_one (row_layout part.kind) ≡ true → kept part.id part near ≡ child_of near
kept_own part near one = rw (same_self part.id part.id refl, one) refl

-- where each id is there once, what is kept of a row tells what its nodes show
pub knows : (ids : List ConId) (known : ConId → Option ConId) (f : Forest) → ((c : ConId) → 1 ≤ tally c f → known c ≡ choice_in ids c f) → ((c : ConId) → tally c f ≤ 1) → KnowsRow known ids f
knows ids known end h once = tt
knows ids known (con part kids floats rest) h once =
    let o : ConId → Option ConId = λ c. kept c part (nearest ids kids) in
    let k : ConId → Option ConId = λ c. choice_in ids c kids in
    let l : ConId → Option ConId = λ c. choice_in ids c floats in
    let r : ConId → Option ConId = λ c. choice_in ids c rest in
    let here = here_once part kids floats rest in
    let other : (c : ConId) → 2 ≤ 1 + tally c kids + tally c floats + tally c rest → o c ≡ None
    = λ c more. kept_absent (same part.id c) c part (nearest ids kids) refl (apart (same part.id c) part kids floats rest c 1 refl (once c) (omega (arith, more))) in (
      (
        (λ one. h part.id (omega (arith, here))
            ∙ by_own (o part.id) (k part.id) (l part.id) (r part.id) (absent ids part.id kids (omega (arith, here, once part.id))) (absent ids part.id floats (omega (arith, here, once part.id))) (absent ids part.id rest (omega (arith, here, once part.id)))
            ∙ kept_own part (nearest ids kids) one
            ∙ nearest_child ids kids),
        knows ids known kids
            (λ c more. h c (omega (arith, more)) ∙ by_kids (o c) (k c) (l c) (r c) (other c (omega (arith, more))) (absent ids c floats (omega (arith, more, once c))) (absent ids c rest (omega (arith, more, once c))))
            (λ c. omega (arith, once c)),
      ),
      knows ids known rest
          (λ c more. h c (omega (arith, more)) ∙ by_rest (o c) (k c) (l c) (r c) (other c (omega (arith, more))) (absent ids c kids (omega (arith, more, once c))) (absent ids c floats (omega (arith, more, once c))))
          (λ c. omega (arith, once c)),
    )

-- ---- from the tree to the workspaces that its outputs show

first_known : (ids : List ConId) (known : ConId → Option ConId) (shown : ConId) (f : Forest) → KnowsRow known ids f → KnowsFirst known ids (node_in shown f)
first_known ids known shown end k = tt
first_known ids known shown (con part kids floats rest) k = by_test (same part.id shown) (first_known ids known shown rest k.1)
  where
    by_test : (b : Bool) → KnowsFirst known ids (node_in shown rest) → KnowsFirst known ids (cond b (con part kids floats rest) (node_in shown rest))
    by_test true more = k.0
    by_test false more = more

output_known : (ids : List ConId) (known : ConId → Option ConId) (o : Option OutputPart) (spaces : Forest) → KnowsRow known ids spaces → KnowsOutput known ids o spaces
output_known ids known None spaces k = tt
output_known ids known (Some output) spaces k = first_known ids known output.shown spaces k

pub outputs_known : (ids : List ConId) (known : ConId → Option ConId) (f : Forest) → KnowsRow known ids f → KnowsOutputs known ids f
outputs_known ids known end k = tt
outputs_known ids known (con part kids floats rest) k = (output_known ids known (output_kind part.kind) kids k.0.1, outputs_known ids known rest k.1)

-- ---- going along rows

pub output_first : (ids : List ConId) (known : ConId → Option ConId) (row : Forest) (part : Part) (o : OutputPart) → first_part row ≡ Some part → part.kind ≡ Output o → KnowsOutputs known ids row
    → KnowsFirst known ids (node_in o.shown (first_kids row))
output_first ids known end part o e h k = cc
output_first ids known (con p kids floats rest) part o e h k =
    let same_kind : p.kind ≡ Output o = (let same_part : p ≡ part = cc in ap (λ (q : Part). q.kind) same_part) ∙ h in
    subst (λ z. KnowsOutput known ids (output_kind z) kids) same_kind k.0

pub outputs_rest : (ids : List ConId) (known : ConId → Option ConId) (row : Forest) → KnowsOutputs known ids row → KnowsOutputs known ids (rest_of row)
outputs_rest ids known end k = tt
outputs_rest ids known (con part kids floats rest) k = k.1

pub space_node : (ids : List ConId) (known : ConId → Option ConId) (row : Forest) (part : Part) (s : SpacePart) → first_part row ≡ Some part → part.kind ≡ Space s → KnowsFirst known ids row
    → KnowsNode known ids part.id s.layout (first_kids row)
space_node ids known end part s e h k = cc
space_node ids known (con p kids floats rest) part s e h k =
    let same_part : p ≡ part = cc in
    subst (λ z. KnowsNode known ids part.id (row_layout z) kids) h (subst (λ z. KnowsNode known ids z.id (row_layout z.kind) kids) same_part k)

-- what one turn along a row of children leaves
pub known_turn : (ids : List ConId) (known : ConId → Option ConId) (row : Forest) (part : Part) → first_part row ≡ Some part → KnowsRow known ids row
    → KnowsNode known ids part.id (row_layout part.kind) (first_kids row) × KnowsRow known ids (rest_of row)
known_turn ids known end part e k = cc
known_turn ids known (con p kids floats rest) part e k =
    let same_part : p ≡ part = cc in
    (subst (λ z. KnowsNode known ids z.id (row_layout z.kind) kids) same_part k.0, k.1)

-- ---- where nothing is tabbed or stacked

vacuous : {X : Type 0} (u v : X) (b one : Bool) → b ≡ one → b ≡ false → one ≡ true → u ≡ v
vacuous u v b one e f t = let bad : true ≡ false = sym t ∙ (sym e ∙ f) in cc

pub free_first : (ids : List ConId) (known : ConId → Option ConId) (row : Forest) (part : Part) → first_part row ≡ Some part → (b : Bool) → b ≡ shows_one (row_layout part.kind) → b ≡ false
    → KnowsRow known ids (first_kids row) → KnowsFirst known ids row
free_first ids known end part h b e f k = cc
free_first ids known (con p kids floats rest) part h b e f k =
    let same_part : part ≡ p = cc in
    ((λ one. vacuous (known p.id) (focused_in ids kids) b (shows_one (row_layout p.kind)) (e ∙ ap (λ (q : Part). shows_one (row_layout q.kind)) same_part) f one), k)

pub free_row : (ids : List ConId) (known : ConId → Option ConId) (row : Forest) (part : Part) → first_part row ≡ Some part → (b : Bool) → b ≡ shows_one (row_layout part.kind) → b ≡ false
    → KnowsRow known ids (first_kids row) → KnowsRow known ids (rest_of row) → KnowsRow known ids row
free_row ids known end part h b e f k r = cc
free_row ids known (con p kids floats rest) part h b e f k r = (free_first ids known (con p kids floats rest) part h b e f k, r)

pub free_outputs : (ids : List ConId) (known : ConId → Option ConId) (row : Forest) (part : Part) → first_part row ≡ Some part
    → KnowsOutput known ids (output_kind part.kind) (first_kids row) → KnowsOutputs known ids (rest_of row) → KnowsOutputs known ids row
free_outputs ids known end part h k r = cc
free_outputs ids known (con p kids floats rest) part h k r =
    let same_part : part ≡ p = cc in
    (subst (λ (q : Part). KnowsOutput known ids (output_kind q.kind) kids) same_part k, r)

-- behind the last node all is known
pub known_end : (ids : List ConId) (known : ConId → Option ConId) (row : Forest) → first_part row ≡ None → KnowsRow known ids row
known_end ids known end h = tt
known_end ids known (con part kids floats rest) h = cc

pub outputs_end : (ids : List ConId) (known : ConId → Option ConId) (row : Forest) → first_part row ≡ None → KnowsOutputs known ids row
outputs_end ids known end h = tt
outputs_end ids known (con part kids floats rest) h = cc

-- ---- all of a tree

pub all_known : (ids recency : List ConId) (new old : List (ℕ × ConId)) (row : Forest) → ((c : ConId) → value_at new c ≡ option_or (choice_in ids c row) (value_at old c)) → old ≡ [] → ids ≡ recency
    → ((c : ConId) → tally c row ≤ 1) → KnowsOutputs (value_at new) recency row
all_known ids recency new old row h e f once =
    subst (λ is. KnowsOutputs (value_at new) is row) f
    (outputs_known ids (value_at new) row (knows ids (value_at new) row (λ c more. h c ∙ ap (λ m. option_or (choice_in ids c row) (value_at m c)) e ∙ or_none (choice_in ids c row)) once))

pub kids_once : (f : Forest) → ((c : ConId) → tally c f ≤ 1) → (c : ConId) → tally c (first_kids f) ≤ 1
kids_once end once c = once c
kids_once (con part kids floats rest) once c = omega (arith, once c)
