-- What stands on an output is a workspace, and so is what is shown.
use Rattle.std.proofs.Common.{◌≡◌, ◌≢◌, ℕ, ◌≤◌, Bool, true, false, cond, ◌||◌, List, Option, None, Some, refl, arith}
use Rattle.std.specs.Prelude.{is_some}
use Rattle.wm_base.specs.declared.ids.ConId.{ConId}
use Rattle.wm_shared.specs.Subject.{is_space}
use Rattle.wm_tree.proofs.AttachLemmas.{has_row}
use Rattle.wm_tree.proofs.FocusLemmas.{current_there, outputs_of}
use Rattle.wm_forest.proofs.OnceLemmas.{in_kids, in_rest, only_kids, only_rest}
use Rattle.wm_tree.proofs.OutputRows.{by_row}
use Rattle.wm_forest.specs.declared.part.NodeKind.{NodeKind}
use Rattle.wm_forest.specs.declared.part.NodeKind.TheVariants.{Root, Output, Space, Con}
use Rattle.wm_forest.specs.declared.part.SpacePart.{SpacePart}
use Rattle.wm_forest.specs.Change.{shown_of}
use Rattle.wm_forest.specs.Forest.{Forest, end, con}
use Rattle.wm_forest.specs.Look.{first_kids, first_part, has, in_row, kind_by, node_in, only, same, space_kind}
use Rattle.wm_forest.specs.SoundRow.{IsNode, IsSoundRow, outputs, roots, spaces, tally}
use Rattle.wm_tree.specs.Sound.{IsSound}
use Rattle.wm_forest.specs.Spot.{room_below}
use Rattle.wm_tree.specs.TreeValue.{TreeValue, current, or_id, shown}

pub either : (a b : Bool) → b ≡ true → (a || b) ≡ true
either true b h = refl
either false b h = h

-- w stands on an output of the row
abbrev pub stands_on : ConId → Forest → Bool
stands_on w end = false
stands_on w (con part kids floats rest) = in_row w kids || stands_on w rest

pub stands_has : (w : ConId) (row : Forest) → stands_on w row ≡ true → has w row ≡ true
stands_has w end h = cc
stands_has w (con part kids floats rest) h = step (in_row w kids) refl h (stands_has w rest)
  where
    step : (b : Bool) → in_row w kids ≡ b → (b || stands_on w rest) ≡ true → (stands_on w rest ≡ true → has w rest ≡ true) → has w (con part kids floats rest) ≡ true
    step true e h ih = in_kids w part kids floats rest (has_row w kids e)
    step false e h ih = in_rest w part kids floats rest (ih h)

abbrev IsSpaceFirst : Forest → Type 0
IsSpaceFirst found = kind_by space_kind (first_part found) ≢ None

space_node : (tiled : Bool) (room : ℕ) (id : ConId) (kind : NodeKind) (marks : List (List ℕ)) (kids : Forest) → IsNode spaces tiled room id kind marks kids → space_kind kind ≢ None
space_node tiled room id (Root c) marks kids n = absurd n
space_node tiled room id (Output o) marks kids n = absurd n
space_node tiled room id (Space w) marks kids n = λ e. cc
space_node tiled room id (Con c) marks kids n = absurd n

row_space : (w : ConId) (tiled : Bool) (room : ℕ) (row : Forest) → in_row w row ≡ true → tally w row ≤ 1 → IsSoundRow spaces tiled room row → IsSpaceFirst (only w row)
row_space w tiled room row h once =
    by_row w (λ row part kids floats rest. rest) end (λ old new found. IsSoundRow spaces tiled room old → IsSpaceFirst found)
    (λ part kids floats rest e p. space_node tiled room part.id part.kind part.marks kids p.0)
    (λ part kids floats rest new found e ih p. ih p.4) row h once

outs_space : (w : ConId) (tiled : Bool) (room : ℕ) (row : Forest) → IsSoundRow outputs tiled room row → tally w row ≤ 1 → stands_on w row ≡ true → IsSpaceFirst (only w row)
outs_space w tiled room end p once h = cc
outs_space w tiled room (con part kids floats rest) p once h = step (in_row w kids) refl h (outs_space w tiled room rest p.4 (omega (arith, once)))
  where
    First : Forest → Type 0
    First z = IsSpaceFirst z

    step : (b : Bool) → in_row w kids ≡ b → (b || stands_on w rest) ≡ true → (stands_on w rest ≡ true → IsSpaceFirst (only w rest)) → IsSpaceFirst (only w (con part kids floats rest))
    step true e h ih = rw (only_kids w part kids floats rest once (has_row w kids e)) (row_space w true (room_below room part.kind) kids e (omega (arith, once)) p.2)
    step false e h ih = rw (only_rest w part kids floats rest once (stands_has w rest h)) (ih h)

some_space : (o : Option SpacePart) → o ≢ None → is_some o ≡ true
some_space None ok = absurd (ok refl)
some_space (Some s) ok = refl

-- what stands on an output is a workspace
pub stands_space : (w : ConId) (t : TreeValue) → IsSound t → stands_on w (first_kids t.nodes) ≡ true → is_space t w ≡ true
stands_space w t s h = by_nodes t.nodes s.shaped (s.once w) h
  where
    by_nodes : (f : Forest) → IsSoundRow roots false 0 f → tally w f ≤ 1 → stands_on w (first_kids f) ≡ true → is_some (kind_by space_kind (first_part (only w f))) ≡ true
    by_nodes end p once h = cc
    by_nodes (con part kids floats rest) p once h =
        rw (only_kids w part kids floats rest once (stands_has w kids h)) (some_space (kind_by space_kind (first_part (only w kids))) (outs_space w true 32 kids (outputs_of (con part kids floats rest) p) (omega (arith, once)) h))

-- a workspace of one of the outputs stands on it
pub of_output : (w o : ConId) (row : Forest) → in_row w (first_kids (node_in o row)) ≡ true → stands_on w row ≡ true
of_output w o end h = cc
of_output w o (con part kids floats rest) h = step (same part.id o) h (of_output w o rest)
  where
    step : (b : Bool) → in_row w (first_kids (cond b (con part kids floats rest) (node_in o rest))) ≡ true → (in_row w (first_kids (node_in o rest)) ≡ true → stands_on w rest ≡ true) → (in_row w kids || stands_on w rest) ≡ true
    step true h ih = rw h refl
    step false h ih = either (in_row w kids) (stands_on w rest) (ih h)

-- the workspace that an output of the row shows
pub shown_row : (c : ConId) (row : Forest) → IsSoundRow outputs true 32 row → in_row c row ≡ true → in_row (or_id (kind_by shown_of (first_part (node_in c row))) c) (first_kids (node_in c row)) ≡ true
shown_row c end s h = cc
shown_row c (con part kids floats rest) s h = by_test (same part.id c) h (shown_row c rest s.4)
  where
    by_kind : (kind : NodeKind) → IsNode outputs true 32 part.id kind part.marks kids → in_row (or_id (shown_of kind) c) kids ≡ true
    by_kind (Root d) n = absurd n
    by_kind (Output o) n = n.1
    by_kind (Space w) n = absurd n
    by_kind (Con d) n = absurd n

    by_test : (b : Bool) → (b || in_row c rest) ≡ true → (in_row c rest ≡ true → in_row (or_id (kind_by shown_of (first_part (node_in c rest))) c) (first_kids (node_in c rest)) ≡ true)
        → in_row (or_id (kind_by shown_of (first_part (cond b (con part kids floats rest) (node_in c rest)))) c) (first_kids (cond b (con part kids floats rest) (node_in c rest))) ≡ true
    by_test true h f = by_kind part.kind s.0
    by_test false h f = f h

-- what is shown stands on an output
pub shown_stands : (t : TreeValue) → IsSound t → stands_on (shown t) (first_kids t.nodes) ≡ true
shown_stands t s =
    of_output (shown t) (current t) (first_kids t.nodes) (shown_row (current t) (first_kids t.nodes) (outputs_of t.nodes s.shaped) (current_there t.nodes s.shaped s.rooted))
