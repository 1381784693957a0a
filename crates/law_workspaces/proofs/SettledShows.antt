-- What is shown and current is so in the settled tree.
use Rattle.std.proofs.Common.{◌≡◌, ℕ, Bool, true, false, cond, ◌||◌, List, None, Some, refl, ap, sym, ◌∙◌, subst}
use Rattle.wm_base.specs.declared.ids.ConId.{ConId}
use Rattle.law_workspaces.proofs.RowLemmas.{shows_own}
use Rattle.law_workspaces.specs.Moved.{IsOfRow}
use Rattle.law_workspaces.specs.Settled.{SettlesBeside}
use Rattle.wm_shared.specs.Showing.{shown_on}
use Rattle.wm_spaces.proofs.AsideLemmas.{found_only}
use Rattle.wm_spaces.proofs.MoveLemmas.{on_held}
use Rattle.wm_spaces.specs.Targets.{spaces_of}
use Rattle.wm_tree.proofs.FocusLemmas.{current_there, outputs_of}
use Rattle.wm_tree.proofs.SettleLemmas.{sound-settled}
use Rattle.wm_forest.specs.Change.{is_vacant, settled_row, shown_of}
use Rattle.wm_forest.specs.declared.part.NodeKind.{NodeKind}
use Rattle.wm_forest.specs.declared.part.NodeKind.TheVariants.{Root, Output, Space, Con}
use Rattle.wm_forest.specs.Forest.{Forest, end, con}
use Rattle.wm_forest.specs.Look.{first_kids, first_part, in_row, kind_by, node_in, same}
use Rattle.wm_forest.specs.SoundRow.{IsNode, IsSoundRow, outputs, roots}
use Rattle.wm_tree.specs.Outputs.{IsOutput}
use Rattle.wm_tree.specs.Sound.{IsSound}
use Rattle.wm_tree.specs.TreeValue.{TreeValue, current, current_in, or_id, shown}
use Rattle.wm_tree.specs.Words.{settled}

-- ---- outputs and the root are never vacant

pub out_stays : (id : ConId) (kind : NodeKind) (marks : List (List ℕ)) (kids new floats : Forest) → IsNode outputs true 32 id kind marks kids → is_vacant None id kind new floats ≡ false
out_stays id (Root c) marks kids new floats n = absurd n
out_stays id (Output o) marks kids new floats n = refl
out_stays id (Space s) marks kids new floats n = absurd n
out_stays id (Con c) marks kids new floats n = absurd n

root_stays : (id : ConId) (kind : NodeKind) (marks : List (List ℕ)) (kids new floats : Forest) → IsNode roots false 0 id kind marks kids → (is_vacant None id kind new floats ≡ false) × (shown_of kind ≡ None)
root_stays id (Root c) marks kids new floats n = (refl, refl)
root_stays id (Output o) marks kids new floats n = absurd n
root_stays id (Space s) marks kids new floats n = absurd n
root_stays id (Con c) marks kids new floats n = absurd n

-- the root and the row of outputs below it
first_settled : (f : Forest) → IsSoundRow roots false 0 f → (first_part (settled_row None f) ≡ first_part f) × (first_kids (settled_row None f) ≡ settled_row None (first_kids f))
first_settled end p = (refl, refl)
first_settled (con part kids floats rest) p =
    let r = root_stays part.id part.kind part.marks kids (settled_row (shown_of part.kind) kids) floats p.0 in
    (rw r.0 refl, rw r.0 (ap (λ z. settled_row z kids) r.1))

pub outs_settled : (t : TreeValue) → IsSound t → first_kids (settled t).nodes ≡ settled_row None (first_kids t.nodes)
outs_settled t s = (first_settled t.nodes s.shaped).1

-- ---- a row of outputs

outs_stay : (i : ConId) (row : Forest) → IsSoundRow outputs true 32 row → in_row i (settled_row None row) ≡ in_row i row
outs_stay i end p = refl
outs_stay i (con part kids floats rest) p =
    rw (out_stays part.id part.kind part.marks kids (settled_row (shown_of part.kind) kids) floats p.0) (ap (λ z. same part.id i || z) (outs_stay i rest p.4))

shows_stays : (o : ConId) (row : Forest) → IsSoundRow outputs true 32 row → kind_by shown_of (first_part (node_in o (settled_row None row))) ≡ kind_by shown_of (first_part (node_in o row))
shows_stays o end p = refl
shows_stays o (con part kids floats rest) p =
    rw (out_stays part.id part.kind part.marks kids (settled_row (shown_of part.kind) kids) floats p.0) (step (same part.id o) (shows_stays o rest p.4))
  where
    step : (b : Bool) → kind_by shown_of (first_part (node_in o (settled_row None rest))) ≡ kind_by shown_of (first_part (node_in o rest))
        → kind_by shown_of (first_part (cond b (con part (settled_row (shown_of part.kind) kids) floats (settled_row None rest)) (node_in o (settled_row None rest)))) ≡ kind_by shown_of (first_part (cond b (con part kids floats rest) (node_in o rest)))
    step true ih = refl
    step false ih = ih

-- ---- the tree

pub current_settled : (t : TreeValue) → IsSound t → current (settled t) ≡ current t
current_settled t s = ap current_in (first_settled t.nodes s.shaped).0

shows_settled : (o : ConId) (t : TreeValue) → IsSound t → kind_by shown_of (first_part (node_in o (first_kids (settled t).nodes))) ≡ kind_by shown_of (first_part (node_in o (first_kids t.nodes)))
shows_settled o t s = ap (λ z. kind_by shown_of (first_part (node_in o z))) (outs_settled t s) ∙ shows_stays o (first_kids t.nodes) (outputs_of t.nodes s.shaped)

pub shown_settled : (t : TreeValue) → IsSound t → shown (settled t) ≡ shown t
shown_settled t s =
    ap (λ z. or_id (kind_by shown_of (first_part (node_in z (first_kids (settled t).nodes)))) z) (current_settled t s)
    ∙ ap (λ z. or_id z (current t)) (shows_settled (current t) t s)

pub settles_beside : SettlesBeside
settles_beside w o t s h = (record { own = on_held w o (settled t) s_new out_new on; shows = shows; now = current_settled t s ∙ h.now; focused = shown_settled t s ∙ h.focused }, refl)
  where
    s_new : IsSound (settled t)
    s_new = sound-settled t s

    out : IsOutput o t.nodes
    out = subst (λ z. IsOutput z t.nodes) h.now (current_there t.nodes s.shaped s.rooted)

    out_new : IsOutput o (settled t).nodes
    out_new = ap (in_row o) (outs_settled t s) ∙ (outs_stay o (first_kids t.nodes) (outputs_of t.nodes s.shaped) ∙ out)

    shows : shown_on o (settled t) ≡ Some w
    shows =
        ap (kind_by shown_of) (found_only o (settled t).nodes (s_new.once o) out_new).1
        ∙ (shows_settled o t s ∙ (sym (ap (kind_by shown_of) (found_only o t.nodes (s.once o) out).1) ∙ h.shows))

    on : in_row w (spaces_of o (settled t)) ≡ true
    on = subst (λ z. IsOfRow z (spaces_of o (settled t))) shows (shows_own o (settled t) s_new out_new).1
