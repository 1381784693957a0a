-- Rows of workspaces by their ids: what comes to one output, or leaves one, leaves the others as they are.
use Rattle.std.proofs.Common.{◌≡◌, ◌≤◌, Bool, true, false, cond, ◌||◌, [], ◌∷◌, ◌++◌, None, refl, ap, sym, ◌∙◌, subst, arith}
use Rattle.std.specs.Prelude.{is_some}
use Rattle.wm_base.specs.declared.ids.ConId.{ConId}
use Rattle.law_workspaces.proofs.NameLemmas.{apart}
use Rattle.law_workspaces.specs.Moved.{IsOfRow, ShowsOwn, row_ids}
use Rattle.wm_shared.specs.Showing.{shown_on}
use Rattle.wm_shared.specs.Subject.{is_space}
use Rattle.wm_spaces.proofs.AsideLemmas.{found_only}
use Rattle.wm_spaces.specs.Targets.{spaces_of}
use Rattle.wm_tree.proofs.AttachLemmas.{has_row}
use Rattle.wm_tree.proofs.FocusLemmas.{outputs_of}
use Rattle.wm_tree.proofs.OutputRows.{by_row}
use Rattle.wm_forest.proofs.OnceLemmas.{at_kids}
use Rattle.wm_forest.proofs.RecencyLemmas.{same_is}
use Rattle.wm_forest.specs.Change.{append, at, shown_of, without}
use Rattle.wm_forest.specs.declared.part.NodeKind.{NodeKind}
use Rattle.wm_forest.specs.declared.part.NodeKind.TheVariants.{Root, Output, Space, Con}
use Rattle.wm_forest.specs.declared.part.Part.{Part}
use Rattle.wm_forest.specs.declared.place.Place.TheVariants.{Last}
use Rattle.wm_forest.specs.Forest.{Forest, end, con}
use Rattle.wm_forest.specs.Look.{first_kids, first_part, has, in_row, kind_by, node_in, only, same, space_kind}
use Rattle.wm_forest.specs.Place.{put, put_word}
use Rattle.wm_forest.specs.Recency.{lists}
use Rattle.wm_forest.specs.SoundRow.{IsNode, IsSoundRow, outputs, tally}
use Rattle.wm_tree.specs.Outputs.{IsOutput}
use Rattle.wm_tree.specs.Sound.{IsSound}
use Rattle.wm_tree.specs.TreeValue.{TreeValue}

-- the workspaces of the output o among the outputs of a forest
abbrev pub on : ConId → Forest → Forest
on o f = first_kids (node_in o (first_kids f))

-- ---- ids of rows

ids_append : (a b : Forest) → row_ids (append a b) ≡ row_ids a ++ row_ids b
ids_append end b = refl
ids_append (con part kids floats rest) b = ap (λ z. part.id ∷ z) (ids_append rest b)

-- a node of the row is one of its ids
pub in_ids : (i : ConId) (row : Forest) → in_row i row ≡ lists i (row_ids row)
in_ids i end = refl
in_ids i (con part kids floats rest) = ap (λ z. same part.id i || z) (in_ids i rest)

-- the node alone has its own id
pub only_ids : (w : ConId) (f : Forest) → has w f ≡ true → row_ids (only w f) ≡ w ∷ []
only_ids w end h = cc
only_ids w (con part kids floats rest) h = step (same part.id w) refl (has w kids) refl (has w floats) refl h (only_ids w kids) (only_ids w floats) (only_ids w rest)
  where
    step : (a : Bool) → same part.id w ≡ a → (k : Bool) → has w kids ≡ k → (l : Bool) → has w floats ≡ l → (a || k || l || has w rest) ≡ true
        → (has w kids ≡ true → row_ids (only w kids) ≡ w ∷ []) → (has w floats ≡ true → row_ids (only w floats) ≡ w ∷ []) → (has w rest ≡ true → row_ids (only w rest) ≡ w ∷ [])
        → row_ids (cond a (con part kids floats end) (cond k (only w kids) (cond l (only w floats) (only w rest)))) ≡ w ∷ []
    step true ea k ek l el h x y z = ap (λ v. v ∷ []) (same_is part.id w ea)
    step false ea true ek l el h x y z = x ek
    step false ea false ek true el h x y z = y el
    step false ea false ek false el h x y z = z h

-- ---- what comes last on an output

module _ (p : ConId) (row : Forest) where
  come_row : (outs : Forest) → in_row p outs ≡ true → tally p outs ≤ 1 → first_kids (node_in p (at p (put_word (Last p)) row outs)) ≡ append (first_kids (node_in p outs)) row
  come_row =
      by_row p (put_word (Last p)) row (λ old new found. first_kids (node_in p new) ≡ append (first_kids (node_in p old)) row)
      (λ part kids floats rest e. rw e refl)
      (λ part kids floats rest new found e ih. rw e ih)

  come : (f : Forest) → tally p f ≤ 1 → IsOutput p f → on p (put (Last p) row f) ≡ append (on p f) row
  come end once h = cc
  come (con part kids floats rest) once h =
      ap (λ z. on p z) (at_kids p (put_word (Last p)) row part kids floats rest once (has_row p kids h)) ∙ come_row kids h (omega (arith, once))

  -- its ids come behind those that were there
  pub come_ids : (f : Forest) → tally p f ≤ 1 → IsOutput p f → row_ids (on p (put (Last p) row f)) ≡ row_ids (on p f) ++ row_ids row
  come_ids f once h = ap row_ids (come f once h) ∙ ids_append (on p f) row

  module _ (o : ConId) (other : same p o ≡ false) where
    else_row : (outs : Forest) → in_row p outs ≡ true → tally p outs ≤ 1 → first_kids (node_in o (at p (put_word (Last p)) row outs)) ≡ first_kids (node_in o outs)
    else_row =
        by_row p (put_word (Last p)) row (λ old new found. first_kids (node_in o new) ≡ first_kids (node_in o old))
        (λ part kids floats rest e. rw (apart part.id p o other e) refl)
        (λ part kids floats rest new found e ih. step part kids floats rest new (same part.id o) ih)
      where
        step : (part : Part) (kids floats rest new : Forest) (b : Bool) → first_kids (node_in o new) ≡ first_kids (node_in o rest)
            → first_kids (cond b (con part kids floats new) (node_in o new)) ≡ first_kids (cond b (con part kids floats rest) (node_in o rest))
        step part kids floats rest new true ih = refl
        step part kids floats rest new false ih = ih

    -- another output is as it was
    pub come_elsewhere : (f : Forest) → tally p f ≤ 1 → IsOutput p f → on o (put (Last p) row f) ≡ on o f
    come_elsewhere end once h = cc
    come_elsewhere (con part kids floats rest) once h =
        ap (λ z. on o z) (at_kids p (put_word (Last p)) row part kids floats rest once (has_row p kids h)) ∙ else_row kids h (omega (arith, once))

-- ---- what leaves an output

module _ (w : ConId) where
  -- a row in which it does not stand itself keeps its ids
  row_left : (row : Forest) → in_row w row ≡ false → row_ids (without w row) ≡ row_ids row
  row_left end h = refl
  row_left (con part kids floats rest) h = step (same part.id w) (has w kids) (has w floats) h (row_left rest)
    where
      step : (a k l : Bool) → (a || in_row w rest) ≡ false → (in_row w rest ≡ false → row_ids (without w rest) ≡ row_ids rest)
          → row_ids (cond a rest (cond k (con part (without w kids) floats rest) (cond l (con part kids (without w floats) rest) (con part kids floats (without w rest))))) ≡ part.id ∷ row_ids rest
      step true k l h ih = cc
      step false true l h ih = refl
      step false false true h ih = refl
      step false false false h ih = ap (λ z. part.id ∷ z) (ih h)

  outs_left : (o : ConId) (outs : Forest) → in_row w outs ≡ false → in_row w (first_kids (node_in o outs)) ≡ false → row_ids (first_kids (node_in o (without w outs))) ≡ row_ids (first_kids (node_in o outs))
  outs_left o end h k = refl
  outs_left o (con part kids floats rest) h k = step (same part.id w) (has w kids) (has w floats) (same part.id o) refl h k (outs_left o rest)
    where
      step : (a b c x : Bool) → same part.id o ≡ x → (a || in_row w rest) ≡ false → in_row w (first_kids (cond x (con part kids floats rest) (node_in o rest))) ≡ false
          → (in_row w rest ≡ false → in_row w (first_kids (node_in o rest)) ≡ false → row_ids (first_kids (node_in o (without w rest))) ≡ row_ids (first_kids (node_in o rest)))
          → row_ids (first_kids (node_in o (cond a rest (cond b (con part (without w kids) floats rest) (cond c (con part kids (without w floats) rest) (con part kids floats (without w rest)))))))
          ≡ row_ids (first_kids (cond x (con part kids floats rest) (node_in o rest)))
      step true b c x e h k ih = cc
      step false true c true e h k ih = rw e (row_left kids k)
      step false true c false e h k ih = rw e refl
      step false false true true e h k ih = rw e refl
      step false false true false e h k ih = rw e refl
      step false false false true e h k ih = rw e refl
      step false false false false e h k ih = rw e (ih h k)

  -- an output on which it does not stand keeps its ids
  pub left_elsewhere : (o : ConId) (f : Forest) → tally w f ≤ 1 → has w (first_kids f) ≡ true → in_row w (first_kids f) ≡ false → in_row w (on o f) ≡ false → row_ids (on o (without w f)) ≡ row_ids (on o f)
  left_elsewhere o end once there h k = refl
  left_elsewhere o (con part kids floats rest) once there h k =
      ap (λ z. row_ids (on o z)) (at_kids w (λ row part kids floats rest. rest) end part kids floats rest once there) ∙ outs_left o kids h k

-- ---- what is an output, and what it shows

out_none : (w : ConId) (row : Forest) → IsSoundRow outputs true 32 row → kind_by space_kind (first_part (node_in w row)) ≡ None
out_none w end p = refl
out_none w (con part kids floats rest) p = step (same part.id w) (out_none w rest p.4)
  where
    here : (kind : NodeKind) → IsNode outputs true 32 part.id kind part.marks kids → space_kind kind ≡ None
    here (Root c) n = refl
    here (Output o) n = refl
    here (Space s) n = absurd n
    here (Con c) n = refl

    step : (b : Bool) → kind_by space_kind (first_part (node_in w rest)) ≡ None → kind_by space_kind (first_part (cond b (con part kids floats rest) (node_in w rest))) ≡ None
    step true ih = here part.kind p.0
    step false ih = ih

-- a workspace is no output
pub not_output : (w : ConId) (t : TreeValue) → IsSound t → is_space t w ≡ true → in_row w (first_kids t.nodes) ≡ false
not_output w t s h = by (in_row w (first_kids t.nodes)) refl
  where
    by : (b : Bool) → in_row w (first_kids t.nodes) ≡ b → in_row w (first_kids t.nodes) ≡ false
    by false e = e
    by true e =
        let found = (found_only w t.nodes (s.once w) e).1 in
        let none = out_none w (first_kids t.nodes) (outputs_of t.nodes s.shaped) in
        let bad : false ≡ true = sym (ap (λ z. is_some (kind_by space_kind z)) found ∙ ap is_some none) ∙ h in
        cc

own_row : (o : ConId) (row : Forest) → IsSoundRow outputs true 32 row → in_row o row ≡ true → IsOfRow (kind_by shown_of (first_part (node_in o row))) (first_kids (node_in o row))
own_row o end p h = cc
own_row o (con part kids floats rest) p h = step (same part.id o) h (own_row o rest p.4)
  where
    here : (kind : NodeKind) → IsNode outputs true 32 part.id kind part.marks kids → IsOfRow (shown_of kind) kids
    here (Root c) n = absurd n
    here (Output o) n = n.1
    here (Space s) n = absurd n
    here (Con c) n = absurd n

    step : (b : Bool) → (b || in_row o rest) ≡ true → (in_row o rest ≡ true → IsOfRow (kind_by shown_of (first_part (node_in o rest))) (first_kids (node_in o rest)))
        → IsOfRow (kind_by shown_of (first_part (cond b (con part kids floats rest) (node_in o rest)))) (first_kids (cond b (con part kids floats rest) (node_in o rest)))
    step true h ih = here part.kind p.0
    step false h ih = ih h

-- each output shows one of its own workspaces
pub shows_own : (o : ConId) (t : TreeValue) → IsSound t → IsOutput o t.nodes → ShowsOwn o t
shows_own o t s out =
    let shows : kind_by shown_of (first_part (node_in o (first_kids t.nodes))) ≡ shown_on o t = sym (ap (kind_by shown_of) (found_only o t.nodes (s.once o) out).1) in
    (out, subst (λ z. IsOfRow z (spaces_of o t)) shows (own_row o (first_kids t.nodes) (outputs_of t.nodes s.shaped) out))
