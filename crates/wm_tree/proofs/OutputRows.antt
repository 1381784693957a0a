-- Outputs in their row: what one is over, and what a change of one keeps.
use Rattle.std.proofs.Common.{◌≡◌, ◌≢◌, ℕ, ◌+◌, ◌≤◌, Bool, true, false, cond, ◌||◌, List, None, Some, refl, ap, sym, subst, arith}
use Rattle.wm_base.specs.declared.ids.ConId.{ConId}
use Rattle.wm_forest.specs.declared.part.Part.{Part}
use Rattle.wm_forest.specs.declared.part.NodeKind.{NodeKind}
use Rattle.wm_forest.specs.declared.part.NodeKind.TheVariants.{Root, Output, Space, Con}
use Rattle.wm_forest.specs.Forest.{Forest, end, con}
use Rattle.wm_forest.specs.Change.{append, at, without}
use Rattle.wm_forest.specs.Counts.{but, row_length, space_count}
use Rattle.wm_forest.specs.Look.{first_floats, first_kids, first_part, has, in_row, kind_by, nth_id, only, output_kind, same}
use Rattle.wm_forest.specs.SoundRow.{IsNode, IsSoundRow, containers, outputs, roots, spaces, tally}
use Rattle.wm_forest.specs.Spot.{room_below}
use Rattle.wm_forest.specs.RootId.{current_of, root}
use Rattle.wm_tree.proofs.AttachLemmas.{has_row}
use Rattle.wm_tree.proofs.FocusLemmas.{current_there, outputs_of}
use Rattle.wm_forest.proofs.OnceLemmas.{at_kids, at_rest, only_kids, only_rest}
use Rattle.wm_forest.proofs.PutLemmas.{row_length-append, sound-append}
use Rattle.wm_forest.proofs.RecencyLemmas.{same_self}
use Rattle.wm_forest.proofs.RowLemmas.{KeepsRow, behind_row, or_keeps, same_row}

-- ---- a node of the row itself

-- a change of a node of the row itself, whose id is there once
module _ {X : Type 0} (c : ConId) (f : X → Part → Forest → Forest → Forest → Forest) (x : X) (P : Forest → Forest → Forest → Type 0)
    (here : (part : Part) (kids floats rest : Forest) → same part.id c ≡ true → P (con part kids floats rest) (f x part kids floats rest) (con part kids floats end))
    (behind : (part : Part) (kids floats rest new found : Forest) → same part.id c ≡ false → P rest new found → P (con part kids floats rest) (con part kids floats new) found)
  where
    row_step : (b : Bool) (part : Part) (kids floats rest : Forest) → same part.id c ≡ b → tally c (con part kids floats rest) ≤ 1 → (b || in_row c rest) ≡ true
        → (in_row c rest ≡ true → tally c rest ≤ 1 → P rest (at c f x rest) (only c rest)) → P (con part kids floats rest) (at c f x (con part kids floats rest)) (only c (con part kids floats rest))
    row_step true part kids floats rest e once h ih = rw e (here part kids floats rest e)
    row_step false part kids floats rest e once h ih =
        let there : has c rest ≡ true = has_row c rest h in
        let p = behind part kids floats rest (at c f x rest) (only c rest) e (ih h (omega (arith, once))) in
        let New : Forest → Type 0 = λ z. P (con part kids floats rest) z (only c (con part kids floats rest)) in
        let Found : Forest → Type 0 = λ z. P (con part kids floats rest) (con part kids floats (at c f x rest)) z in
        subst New (sym (at_rest c f x part kids floats rest once there)) (subst Found (sym (only_rest c part kids floats rest once there)) p)

    pub by_row : (row : Forest) → in_row c row ≡ true → tally c row ≤ 1 → P row (at c f x row) (only c row)
    by_row end h once = cc
    by_row (con part kids floats rest) h once = row_step (same part.id c) part kids floats rest refl once h (by_row rest)

pub in_row-append : (i : ConId) (a b : Forest) → in_row i a ≡ true → in_row i (append a b) ≡ true
in_row-append i end b h = cc
in_row-append i (con part kids floats rest) b h = or_keeps (same part.id i) (in_row i rest) (in_row i (append rest b)) (in_row-append i rest b) h

pub in_row-last : (i : ConId) (a b : Forest) → in_row i b ≡ true → in_row i (append a b) ≡ true
in_row-last i end b h = h
in_row-last i (con part kids floats rest) b h = step (same part.id i) (in_row-last i rest b h)
  where
    step : (a : Bool) → in_row i (append rest b) ≡ true → (a || in_row i (append rest b)) ≡ true
    step true p = refl
    step false p = p

-- the first of a row is in it
pub first_there : (i : ConId) (row : Forest) → nth_id 0 row ≡ Some i → in_row i row ≡ true
first_there i end h = cc
first_there i (con part kids floats rest) h =
    let e : part.id ≡ i = cc in
    rw (same_self part.id i e) refl

-- another node is still in the row without one
pub but_keeps : (c i : ConId) (row : Forest) → same i c ≡ false → in_row i row ≡ true → in_row i (but c row) ≡ true
but_keeps c i end other h = h
but_keeps c i (con part kids floats rest) other h = step (same part.id c) (same part.id i) refl refl (but_keeps c i rest other) h
  where
    step : (a b : Bool) → same part.id c ≡ a → same part.id i ≡ b → (in_row i rest ≡ true → in_row i (but c rest) ≡ true) → (b || in_row i rest) ≡ true → in_row i (cond a rest (con part kids floats (but c rest))) ≡ true
    step true true e d ih h = grind (arith, e, d, other)
    step true false e d ih h = h
    step false true e d ih h = rw d refl
    step false false e d ih h = rw d (ih h)

pub but_only : (c i : ConId) (row : Forest) → in_row i (but c row) ≡ true → in_row i row ≡ true
but_only c i end h = h
but_only c i (con part kids floats rest) h = step (same part.id c) (same part.id i) (but_only c i rest) (in_either (same part.id c) h)
  where
    step : (a b : Bool) → (in_row i (but c rest) ≡ true → in_row i rest ≡ true) → cond a (in_row i rest) (b || in_row i (but c rest)) ≡ true → (b || in_row i rest) ≡ true
    step a true ih h = refl
    step true false ih h = h
    step false false ih h = ih h

    in_either : (a : Bool) → in_row i (cond a rest (con part kids floats (but c rest))) ≡ true → cond a (in_row i rest) (same part.id i || in_row i (but c rest)) ≡ true
    in_either true h = h
    in_either false h = h

-- what taking a node out of a row leaves
pub row_left : (c : ConId) (row : Forest) → in_row c row ≡ true → tally c row ≤ 1 → (without c row ≡ but c row) × (row_length (but c row) ≤ row_length row)
row_left c row h once =
    by_row c (λ row part kids floats rest. rest) end (λ old new found. (new ≡ but c old) × (row_length (but c old) ≤ row_length old))
    (λ part kids floats rest e. rw e (refl, omega arith))
    (λ part kids floats rest new found e p. rw e (ap (λ z. con part kids floats z) p.0, omega (arith, p.1))) row h once

-- ---- what an output is over

pub spaces_counted : (tiled : Bool) (room : ℕ) (row : Forest) → IsSoundRow spaces tiled room row → row_length row ≤ space_count row
spaces_counted tiled room end p = omega arith
spaces_counted tiled room (con part kids floats rest) p = by_kind part.kind p.0 (spaces_counted tiled room rest p.4)
  where
    by_kind : (kind : NodeKind) → IsNode spaces tiled room part.id kind part.marks kids → row_length rest ≤ space_count rest → row_length (con (record part { kind = kind }) kids floats rest) ≤ space_count (con (record part { kind = kind }) kids floats rest)
    by_kind (Root c) n h = absurd n
    by_kind (Output o) n h = absurd n
    by_kind (Space w) n h = omega (arith, h)
    by_kind (Con c) n h = absurd n

-- an output with its workspaces
pub record OutputFound (found : Forest) : Type 0 where
  pub first : kind_by output_kind (first_part found) ≢ None
  pub spaces_sound : IsSoundRow spaces true 32 (first_kids found)
  pub floats_sound : IsSoundRow containers false 32 (first_floats found)
  pub counted : row_length (first_kids found) ≤ space_count (first_kids found)

output_here : (tiled : Bool) (room : ℕ) (part : Part) (kids floats : Forest) (kind : NodeKind) → IsNode outputs tiled room part.id kind part.marks kids → IsSoundRow spaces true (room_below room kind) kids
    → IsSoundRow containers false (room_below room kind) floats → OutputFound (con (record part { kind = kind }) kids floats end)
output_here tiled room part kids floats (Root c) n k l = absurd n
output_here tiled room part kids floats (Output o) n k l = record { first = λ e. cc; spaces_sound = k; floats_sound = l; counted = spaces_counted true 32 kids k }
output_here tiled room part kids floats (Space w) n k l = absurd n
output_here tiled room part kids floats (Con c) n k l = absurd n

row_output : (o : ConId) (tiled : Bool) (room : ℕ) (row : Forest) → in_row o row ≡ true → tally o row ≤ 1 → IsSoundRow outputs tiled room row → OutputFound (only o row)
row_output o tiled room row h once =
    by_row o (λ row part kids floats rest. rest) end (λ old new found. IsSoundRow outputs tiled room old → OutputFound found)
    (λ part kids floats rest e p. output_here tiled room part kids floats part.kind p.0 p.2 p.3)
    (λ part kids floats rest new found e ih p. ih p.4) row h once

-- one of the outputs of a tree
pub output_found : (o : ConId) (f : Forest) → IsSoundRow roots false 0 f → in_row o (first_kids f) ≡ true → tally o f ≤ 1 → OutputFound (only o f)
output_found o end s h once = cc
output_found o (con part kids floats rest) s h once =
    subst (λ z. OutputFound z) (sym (only_kids o part kids floats rest once (has_row o kids h))) (row_output o true 32 kids h (omega (arith, once)) (outputs_of (con part kids floats rest) s))

-- ---- the row of outputs

-- a tree with another row of outputs
pub sound_top : (part : Part) (kids new floats rest : Forest) → IsSoundRow roots false 0 (con part kids floats rest) → IsSoundRow outputs true 32 new → row_length new ≤ 256 → in_row (current_of part.kind) new ≡ true
    → IsSoundRow roots false 0 (con part new floats rest)
sound_top part kids new floats rest p q few h = let n = by_kind part.kind p.0 h in (n.0, few, n.1, p.3, p.4)
  where
    by_kind : (kind : NodeKind) → IsNode roots false 0 part.id kind part.marks kids → in_row (current_of kind) new ≡ true → IsNode roots false 0 part.id kind part.marks new × IsSoundRow outputs true (room_below 0 kind) new
    by_kind (Root c) n h = ((n.0, h, n.2), q)
    by_kind (Output o) n h = absurd n
    by_kind (Space w) n h = absurd n
    by_kind (Con c) n h = absurd n

-- the outputs of a tree stay
abbrev pub KeepsOutputs : Forest → Forest → Type 0
KeepsOutputs old new = (i : ConId) → in_row i (first_kids old) ≡ true → in_row i (first_kids new) ≡ true

-- a tree in which an output takes in workspaces
pub record Taken (old new : Forest) : Type 0 where
  pub sound : IsSoundRow roots false 0 new
  pub keeps : KeepsRow roots old new
  pub outs : KeepsOutputs old new

-- an output takes in the workspaces a, and b among its floating windows
module _ {X : Type 0} (o : ConId) (f : X → Part → Forest → Forest → Forest → Forest) (x : X) (a b : Forest)
    (word : (part : Part) (kids floats rest : Forest) → f x part kids floats rest ≡ con part (append kids a) (append floats b) rest)
    (spaces_ok : IsSoundRow spaces true 32 a) (floats_ok : IsSoundRow containers false 32 b)
  where
    abbrev Takes : Bool → ℕ → Forest → Forest → Forest → Type 0
    Takes tiled room old new found =
        IsSoundRow outputs tiled room old → row_length (first_kids found) + row_length a ≤ 256 → IsSoundRow outputs tiled room new × KeepsRow outputs old new × (row_length new ≡ row_length old)

    node_here : (tiled : Bool) (room : ℕ) (id : ConId) (kind : NodeKind) (marks : List (List ℕ)) (kids floats : Forest) → IsNode outputs tiled room id kind marks kids → IsSoundRow spaces true (room_below room kind) kids
        → IsSoundRow containers false (room_below room kind) floats
        → IsNode outputs tiled room id kind marks (append kids a) × IsSoundRow spaces true (room_below room kind) (append kids a) × IsSoundRow containers false (room_below room kind) (append floats b)
    node_here tiled room id (Root c) marks kids floats n k l = absurd n
    node_here tiled room id (Output o) marks kids floats n k l = ((n.0, in_row-append o.shown kids a n.1, n.2), sound-append spaces true 32 kids a k spaces_ok, sound-append containers false 32 floats b l floats_ok)
    node_here tiled room id (Space w) marks kids floats n k l = absurd n
    node_here tiled room id (Con c) marks kids floats n k l = absurd n

    takes_here : (tiled : Bool) (room : ℕ) (part : Part) (kids floats rest : Forest) → Takes tiled room (con part kids floats rest) (f x part kids floats rest) (con part kids floats end)
    takes_here tiled room part kids floats rest p few =
        let n = node_here tiled room part.id part.kind part.marks kids floats p.0 p.2 p.3 in
        let New : Forest → Type 0 = λ z. IsSoundRow outputs tiled room z × KeepsRow outputs (con part kids floats rest) z × (row_length z ≡ row_length (con part kids floats rest)) in
        subst New (sym (word part kids floats rest))
        ((n.0, omega (arith, row_length-append kids a, few), n.1, n.2, p.4), behind_row outputs part part kids floats rest (append kids a) (append floats b) rest refl (same_row outputs rest), refl)

    takes_row : (tiled : Bool) (room : ℕ) (row : Forest) → in_row o row ≡ true → tally o row ≤ 1 → Takes tiled room row (at o f x row) (only o row)
    takes_row tiled room row h once =
        by_row o f x (Takes tiled room) (λ part kids floats rest e. takes_here tiled room part kids floats rest)
        (λ part kids floats rest new found e ih p few.
        let g = ih p.4 few in ((p.0, p.1, p.2, p.3, g.0), behind_row outputs part part kids floats rest kids floats new refl g.1, omega (arith, g.2))) row h once

    pub sound-taking : (forest : Forest) → IsSoundRow roots false 0 forest → in_row root forest ≡ true → in_row o (first_kids forest) ≡ true → tally o forest ≤ 1 → row_length (first_kids (only o forest)) + row_length a ≤ 256
        → Taken forest (at o f x forest)
    sound-taking end s rooted h once few = cc
    sound-taking (con part kids floats rest) s rooted h once few =
        let there : has o kids ≡ true = has_row o kids h in
        let Few : Forest → Type 0 = λ z. row_length (first_kids z) + row_length a ≤ 256 in
        let g = takes_row true 32 kids h (omega (arith, once)) (outputs_of (con part kids floats rest) s) (subst Few (only_kids o part kids floats rest once there) few) in
        let New : Forest → Type 0 = λ z. Taken (con part kids floats rest) z in
        subst New (sym (at_kids o f x part kids floats rest once there))
        (record {
          sound = sound_top part kids (at o f x kids) floats rest s g.0 (omega (arith, g.2, s.1)) (g.1 (current_of part.kind) (current_there (con part kids floats rest) s rooted));
          keeps = behind_row roots part part kids floats rest (at o f x kids) floats rest refl (same_row roots rest);
          outs = g.1;
        })
