-- Outputs stand in the row of outputs, where each is found as in the whole tree.
use Rattle.std.proofs.Common.{◌≡◌, ℕ, ◌+◌, ◌≤◌, Bool, true, false, cond, ◌||◌, Option, None, Some, refl, ap, sym, ◌∙◌, arith}
use Rattle.wm_base.specs.declared.ids.ConId.{ConId}
use Rattle.wm_forest.proofs.OnceLemmas.{only_kids, only_rest}
use Rattle.wm_forest.proofs.RecencyLemmas.{same_self}
use Rattle.wm_forest.specs.declared.part.NodeKind.{NodeKind}
use Rattle.wm_forest.specs.declared.part.NodeKind.TheVariants.{Root, Output, Space, Con}
use Rattle.wm_forest.specs.declared.part.Part.{Part}
use Rattle.wm_forest.specs.Forest.{Forest, end, con}
use Rattle.wm_forest.specs.Look.{first_kids, first_part, has, in_row, kind_by, node_in, only, output_kind, same}
use Rattle.wm_forest.specs.RootId.{root}
use Rattle.wm_forest.specs.SoundRow.{IsNode, IsSoundRow, containers, outputs, roots, spaces, tally}
use Rattle.wm_forest.specs.Spot.{room_below}
use Rattle.wm_tree.proofs.AttachLemmas.{has_row}
use Rattle.wm_tree.proofs.FocusLemmas.{outputs_of}
use Rattle.wm_tree.specs.Sound.{IsSound}
use Rattle.wm_tree.specs.TreeValue.{TreeValue}

-- the node of the row, which is found there
first_in : (u : ConId) (row : Forest) → in_row u row ≡ true → tally u row ≤ 1 → first_part (only u row) ≡ first_part (node_in u row)
first_in u end h once = cc
first_in u (con part kids floats rest) h once = step (same part.id u) refl h (first_in u rest)
  where
    step : (b : Bool) → same part.id u ≡ b → (b || in_row u rest) ≡ true → (in_row u rest ≡ true → tally u rest ≤ 1 → first_part (only u rest) ≡ first_part (node_in u rest))
        → first_part (only u (con part kids floats rest)) ≡ first_part (cond b (con part kids floats rest) (node_in u rest))
    step true e h ih = rw e refl
    step false e h ih = ap first_part (only_rest u part kids floats rest once (has_row u rest h)) ∙ ih h (omega (arith, once))

-- an output is found in its row as in the tree
pub row_first : (u : ConId) (t : TreeValue) → IsSound t → in_row u (first_kids t.nodes) ≡ true → first_part (only u t.nodes) ≡ first_part (node_in u (first_kids t.nodes))
row_first u t s h = by t.nodes (s.once u) h
  where
    by : (f : Forest) → tally u f ≤ 1 → in_row u (first_kids f) ≡ true → first_part (only u f) ≡ first_part (node_in u (first_kids f))
    by end once h = refl
    by (con part kids floats rest) once h = ap first_part (only_kids u part kids floats rest once (has_row u kids h)) ∙ first_in u kids h (omega (arith, once))

-- ---- where outputs are found

-- the node is no output
abbrev IsNone : Option Part → Type 0
IsNone o = kind_by output_kind o ≡ None

pick : (a k l : Bool) (part : Part) (kids floats rest x y z : Forest) → output_kind part.kind ≡ None → IsNone (first_part x) → IsNone (first_part y) → IsNone (first_part z)
    → IsNone (first_part (cond a (con part kids floats end) (cond k x (cond l y z))))
pick true k l part kids floats rest x y z n p q r = n
pick false true l part kids floats rest x y z n p q r = p
pick false false true part kids floats rest x y z n p q r = q
pick false false false part kids floats rest x y z n p q r = r

con_none : (tiled : Bool) (room : ℕ) (id : ConId) (kind : NodeKind) (kids : Forest) (part : Part) → IsNode containers tiled room id kind part.marks kids → output_kind kind ≡ None
con_none tiled room id (Root c) kids part n = refl
con_none tiled room id (Output o) kids part n = absurd n
con_none tiled room id (Space w) kids part n = refl
con_none tiled room id (Con c) kids part n = refl

space_none : (tiled : Bool) (room : ℕ) (id : ConId) (kind : NodeKind) (kids : Forest) (part : Part) → IsNode spaces tiled room id kind part.marks kids → output_kind kind ≡ None
space_none tiled room id (Root c) kids part n = refl
space_none tiled room id (Output o) kids part n = absurd n
space_none tiled room id (Space w) kids part n = refl
space_none tiled room id (Con c) kids part n = refl

-- among containers there is none
cons_none : (u : ConId) (tiled : Bool) (room : ℕ) (f : Forest) → IsSoundRow containers tiled room f → IsNone (first_part (only u f))
cons_none u tiled room end p = refl
cons_none u tiled room (con part kids floats rest) p =
    pick (same part.id u) (has u kids) (has u floats) part kids floats rest (only u kids) (only u floats) (only u rest) (con_none tiled room part.id part.kind kids part p.0)
    (cons_none u true (room_below room part.kind) kids p.2) (cons_none u false (room_below room part.kind) floats p.3) (cons_none u tiled room rest p.4)

-- nor in a row of workspaces
spaces_none : (u : ConId) (tiled : Bool) (room : ℕ) (f : Forest) → IsSoundRow spaces tiled room f → IsNone (first_part (only u f))
spaces_none u tiled room end p = refl
spaces_none u tiled room (con part kids floats rest) p =
    pick (same part.id u) (has u kids) (has u floats) part kids floats rest (only u kids) (only u floats) (only u rest) (space_none tiled room part.id part.kind kids part p.0)
    (cons_none u true (room_below room part.kind) kids p.2) (cons_none u false (room_below room part.kind) floats p.3) (spaces_none u tiled room rest p.4)

clash : {A : Type 0} (o : Option Part) (part : Part) → o ≡ Some part → (output_kind part.kind ≡ None → ⊥) → IsNone o → A
clash o part e ok none = absurd (ok (ap (kind_by output_kind) (sym e) ∙ none))

-- what is found in a row of outputs as one stands in it
stands : (u : ConId) (part : Part) (tiled : Bool) (room : ℕ) (row : Forest) → IsSoundRow outputs tiled room row → first_part (only u row) ≡ Some part → (output_kind part.kind ≡ None → ⊥) → in_row u row ≡ true
stands u part tiled room end p h ok = cc
stands u part tiled room (con q kids floats rest) p h ok =
    step (same q.id u) (has u kids) (has u floats) h (spaces_none u true (room_below room q.kind) kids p.2) (cons_none u false (room_below room q.kind) floats p.3) (λ e. stands u part tiled room rest p.4 e ok)
  where
    step : (a k l : Bool) → first_part (cond a (con q kids floats end) (cond k (only u kids) (cond l (only u floats) (only u rest)))) ≡ Some part → IsNone (first_part (only u kids)) → IsNone (first_part (only u floats))
        → (first_part (only u rest) ≡ Some part → in_row u rest ≡ true) → (a || in_row u rest) ≡ true
    step true k l h x y ih = refl
    step false true l h x y ih = clash (first_part (only u kids)) part h ok x
    step false false true h x y ih = clash (first_part (only u floats)) part h ok y
    step false false false h x y ih = ih h

root_none : (id : ConId) (kind : NodeKind) (kids : Forest) (part : Part) → IsNode roots false 0 id kind part.marks kids → (output_kind kind ≡ None) × (id ≡ root)
root_none id (Root c) kids part n = (refl, n.0)
root_none id (Output o) kids part n = absurd n
root_none id (Space w) kids part n = absurd n
root_none id (Con c) kids part n = absurd n

one_root : (part : Part) (kids floats rest : Forest) → IsSoundRow roots false 0 (con part kids floats rest) → tally root (con part kids floats rest) ≤ 1 → rest ≡ end
one_root part kids floats end p once = refl
one_root part kids floats (con q k l r) p once =
    let first = same_self part.id root (root_none part.id part.kind kids part p.0).1 in
    let second = same_self q.id root (root_none q.id q.kind k q p.4.0).1 in
    let much : 1 + tally root kids + tally root floats + (1 + tally root k + tally root l + tally root r) ≤ 1 = rw (first, second) at once in
    absurd (omega (arith, much))

-- what is found in a tree as an output is one of its outputs
pub outputs_in_row : (u : ConId) (part : Part) (t : TreeValue) → IsSound t → first_part (only u t.nodes) ≡ Some part → (output_kind part.kind ≡ None → ⊥) → in_row u (first_kids t.nodes) ≡ true
outputs_in_row u part t s h ok = by t.nodes s.shaped (s.once root) h
  where
    by : (f : Forest) → IsSoundRow roots false 0 f → tally root f ≤ 1 → first_part (only u f) ≡ Some part → in_row u (first_kids f) ≡ true
    by end p once h = cc
    by (con q kids floats rest) p once h =
        step (same q.id u) (has u kids) (has u floats) h (root_none q.id q.kind kids q p.0).0 (stands u part true 32 kids (outputs_of (con q kids floats rest) p)) (cons_none u false (room_below 0 q.kind) floats p.3)
        (ap (λ z. kind_by output_kind (first_part (only u z))) (one_root q kids floats rest p once))
      where
        step : (a k l : Bool) → first_part (cond a (con q kids floats end) (cond k (only u kids) (cond l (only u floats) (only u rest)))) ≡ Some part → output_kind q.kind ≡ None
            → (first_part (only u kids) ≡ Some part → (output_kind part.kind ≡ None → ⊥) → in_row u kids ≡ true) → IsNone (first_part (only u floats)) → IsNone (first_part (only u rest)) → in_row u kids ≡ true
        step true k l h n ih y z = clash (Some q) part h ok n
        step false true l h n ih y z = ih h ok
        step false false true h n ih y z = clash (first_part (only u floats)) part h ok y
        step false false false h n ih y z = clash (first_part (only u rest)) part h ok z
