-- A workspace that is found by a name has it, and where one has it, one is found.
use Rattle.std.proofs.Common.{◌≡◌, ℕ, ◌≤◌, Bool, true, false, cond, List, Option, None, Some, refl, ap, sym, ◌∙◌, arith}
use Rattle.std.specs.Prelude.{is_some}
use Rattle.std.specs.Option.{option_or}
use Rattle.std.proofs.lemmas.Slice.Eq.{bytes_eq-Decides}
use Rattle.wm_base.specs.declared.ids.ConId.{ConId}
use Rattle.law_workspaces.proofs.NameLemmas.{called_by, found_below, name_by, no_space, none_called, outs_find, row_finds, seen}
use Rattle.law_workspaces.specs.Renamed.{SpaceNamesDiffer}
use Rattle.wm_shared.proofs.StandingLemmas.{stands_has, stands_space}
use Rattle.wm_shared.specs.Showing.{space_name}
use Rattle.wm_shared.specs.Subject.{is_space}
use Rattle.wm_spaces.specs.Names.{space_called, space_in_row, space_on}
use Rattle.wm_tree.proofs.AttachLemmas.{has_row}
use Rattle.wm_tree.proofs.FocusLemmas.{outputs_of}
use Rattle.wm_forest.proofs.OnceLemmas.{only_kids, only_rest}
use Rattle.wm_forest.proofs.RecencyLemmas.{same_self}
use Rattle.wm_forest.specs.declared.part.NodeKind.{NodeKind}
use Rattle.wm_forest.specs.declared.part.NodeKind.TheVariants.{Root, Output, Space, Con}
use Rattle.wm_forest.specs.declared.part.SpacePart.{SpacePart}
use Rattle.wm_forest.specs.Forest.{Forest, end, con}
use Rattle.wm_forest.specs.Look.{first_kids, first_part, has, kind_by, only, same, space_kind}
use Rattle.wm_forest.specs.SoundRow.{IsNode, IsSoundRow, outputs, spaces, tally}
use Rattle.wm_forest.specs.Spot.{room_below}
use Rattle.wm_tree.specs.Sound.{IsSound}
use Rattle.wm_tree.specs.TreeValue.{TreeValue}

-- ---- what is found has the name

called_name : (n : List ℕ) (o : Option SpacePart) → space_called n o ≡ true → name_by o ≡ Some n
called_name n None h = cc
called_name n (Some s) h = ap (λ z. Some z) ((bytes_eq-Decides s.name n).0 h)

row_has : (n : List ℕ) (w : ConId) (row : Forest) → tally w row ≤ 1 → space_in_row n row ≡ Some w → name_by (seen w row) ≡ Some n
row_has n w end once h = cc
row_has n w (con part kids floats rest) once h = step (space_called n (space_kind part.kind)) refl h (row_has n w rest (omega (arith, once)))
  where
    step : (b : Bool) → space_called n (space_kind part.kind) ≡ b → cond b (Some part.id) (space_in_row n rest) ≡ Some w → (space_in_row n rest ≡ Some w → name_by (seen w rest) ≡ Some n) → name_by (seen w (con part kids floats rest)) ≡ Some n
    step true e h ih = let one : part.id ≡ w = cc in rw (same_self part.id w one) (called_name n (space_kind part.kind) e)
    step false e h ih = ap (λ z. name_by (kind_by space_kind (first_part z))) (only_rest w part kids floats rest once (has_row w rest (row_finds n w rest h))) ∙ ih h

outs_have : (n : List ℕ) (w : ConId) (row : Forest) → tally w row ≤ 1 → space_on n row ≡ Some w → name_by (seen w row) ≡ Some n
outs_have n w end once h = cc
outs_have n w (con part kids floats rest) once h = step (space_in_row n kids) refl h (outs_have n w rest (omega (arith, once)))
  where
    step : (o : Option ConId) → space_in_row n kids ≡ o → option_or o (space_on n rest) ≡ Some w → (space_on n rest ≡ Some w → name_by (seen w rest) ≡ Some n) → name_by (seen w (con part kids floats rest)) ≡ Some n
    step None e h ih = ap (λ z. name_by (kind_by space_kind (first_part z))) (only_rest w part kids floats rest once (stands_has w rest (outs_find n w rest h))) ∙ ih h
    step (Some v) e h ih = ap (λ z. name_by (kind_by space_kind (first_part z))) (only_kids w part kids floats rest once (has_row w kids (row_finds n w kids (e ∙ h)))) ∙ row_has n w kids (omega (arith, once)) (e ∙ h)

-- ---- where none is found, none has it

module _ (n : List ℕ) (u : ConId) where
  row_none : (tiled : Bool) (room : ℕ) (row : Forest) → IsSoundRow spaces tiled room row → space_in_row n row ≡ None → name_by (seen u row) ≡ Some n → ⊥
  row_none tiled room end p e h = cc
  row_none tiled room (con part kids floats rest) p e h = step (space_called n (space_kind part.kind)) refl (same part.id u) (has u kids) (has u floats) e h (row_none tiled room rest p.4)
    where
      step : (c : Bool) → space_called n (space_kind part.kind) ≡ c → (a k l : Bool) → cond c (Some part.id) (space_in_row n rest) ≡ None
          → name_by (kind_by space_kind (first_part (cond a (con part kids floats end) (cond k (only u kids) (cond l (only u floats) (only u rest)))))) ≡ Some n
          → (space_in_row n rest ≡ None → name_by (seen u rest) ≡ Some n → ⊥) → ⊥
      step true d a k l e h ih = cc
      step false d true k l e h ih = let called = called_by n (space_kind part.kind) h in cc
      step false d false true l e h ih = none_called n (seen u kids) (no_space u true (room_below room part.kind) kids p.2) h
      step false d false false true e h ih = none_called n (seen u floats) (no_space u false (room_below room part.kind) floats p.3) h
      step false d false false false e h ih = ih e h

  outs_none : (tiled : Bool) (room : ℕ) (row : Forest) → IsSoundRow outputs tiled room row → space_on n row ≡ None → name_by (seen u row) ≡ Some n → ⊥
  outs_none tiled room end p e h = cc
  outs_none tiled room (con part kids floats rest) p e h = step (space_in_row n kids) refl (same part.id u) (has u kids) (has u floats) e h (outs_none tiled room rest p.4)
    where
      here : (kind : NodeKind) → IsNode outputs tiled room part.id kind part.marks kids → space_kind kind ≡ None
      here (Root c) q = refl
      here (Output o) q = refl
      here (Space x) q = absurd q
      here (Con c) q = refl

      step : (o : Option ConId) → space_in_row n kids ≡ o → (a k l : Bool) → option_or o (space_on n rest) ≡ None
          → name_by (kind_by space_kind (first_part (cond a (con part kids floats end) (cond k (only u kids) (cond l (only u floats) (only u rest)))))) ≡ Some n
          → (space_on n rest ≡ None → name_by (seen u rest) ≡ Some n → ⊥) → ⊥
      step (Some v) d a k l e h ih = cc
      step None d true k l e h ih = none_called n (space_kind part.kind) (here part.kind p.0) h
      step None d false true l e h ih = row_none true (room_below room part.kind) kids p.2 d h
      step None d false false true e h ih = none_called n (seen u floats) (no_space u false (room_below room part.kind) floats p.3) h
      step None d false false false e h ih = ih e h

-- ---- the tree

-- where names differ, a workspace is found by its own
pub found_named : (n : List ℕ) (u : ConId) (t : TreeValue) → IsSound t → SpaceNamesDiffer t → space_name u t ≡ Some n → space_on n (first_kids t.nodes) ≡ Some u
found_named n u t s differ h = by (space_on n (first_kids t.nodes)) refl
  where
    some_is : (o : Option SpacePart) → name_by o ≡ Some n → is_some o ≡ true
    some_is None h = cc
    some_is (Some x) h = refl

    below : (v : ConId) → is_space t v ≡ true → name_by (seen v t.nodes) ≡ name_by (seen v (first_kids t.nodes))
    below v is = ap (λ z. name_by (kind_by space_kind (first_part z))) (found_below v t s is)

    once_kids : (v : ConId) (f : Forest) → tally v f ≤ 1 → tally v (first_kids f) ≤ 1
    once_kids v end once = omega arith
    once_kids v (con part kids floats rest) once = omega (arith, once)

    by : (o : Option ConId) → space_on n (first_kids t.nodes) ≡ o → o ≡ Some u
    by None e = absurd (outs_none n u true 32 (first_kids t.nodes) (outputs_of t.nodes s.shaped) e (sym (below u (some_is (seen u t.nodes) h)) ∙ h))
    by (Some v) e =
        let is : is_space t v ≡ true = stands_space v t s (outs_find n v (first_kids t.nodes) e) in
        let has_name : space_name v t ≡ Some n = below v is ∙ outs_have n v (first_kids t.nodes) (once_kids v t.nodes (s.once v)) e in
        ap (λ z. Some z) (differ v u n has_name h)
