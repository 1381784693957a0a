-- What is shown depends on the outputs and the ids of their workspaces alone.
use Rattle.std.proofs.Common.{◌≡◌, ℕ, ◌≤◌, Bool, true, false, cond, [], Some, refl, ap, sym, ◌∙◌, arith}
use Rattle.wm_base.specs.declared.ids.ConId.{ConId}
use Rattle.wm_forest.proofs.OnceLemmas.{only_kids, only_rest}
use Rattle.wm_forest.specs.Change.{at, nobody, shown_of}
use Rattle.wm_forest.specs.declared.part.NodeKind.{NodeKind}
use Rattle.wm_forest.specs.declared.part.NodeKind.TheVariants.{Root, Output, Space, Con}
use Rattle.wm_forest.specs.declared.part.Part.{Part}
use Rattle.wm_forest.specs.Forest.{Forest, end, con}
use Rattle.wm_forest.specs.Look.{first_alone, first_kids, first_part, has, in_row, kind_by, node_in, only, same}
use Rattle.wm_forest.specs.Recency.{first_held}
use Rattle.wm_forest.specs.SoundRow.{IsNode, IsSoundRow, outputs, roots, tally}
use Rattle.wm_shared.proofs.StandingLemmas.{of_output, shown_row, stands_has}
use Rattle.wm_tree.proofs.AttachLemmas.{has_row}
use Rattle.wm_tree.proofs.FocusLemmas.{current_there, outputs_of}
use Rattle.wm_tree.proofs.OutputRows.{by_row}
use Rattle.wm_tree.proofs.RaiseLemmas.{sound_node_in}
use Rattle.wm_tree.specs.Sound.{IsSound}
use Rattle.wm_tree.specs.TreeValue.{TreeValue, current_in, focused, or_id, shown, shown_space}

-- a node of which nothing but the id is told
abbrev pub blank : ConId → Part
blank id = record { id = id; kind = Root nobody; marks = [] }

abbrev pub level : Part → NodeKind → Forest → Forest → Forest
level part (Root d) kids rest = con part kids end rest
level part (Output o) kids rest = con part kids end rest
level part (Space w) kids rest = con (blank part.id) end end rest
level part (Con d) kids rest = con (blank nobody) end end rest

-- the root, the outputs and the ids of their workspaces
abbrev pub upper : Forest → Forest
upper end = end
upper (con part kids floats rest) = level part part.kind (upper kids) (upper rest)

-- ---- changes that are not seen there

module _ {X : Type 0} (c : ConId) (f : X → Part → Forest → Forest → Forest → Forest) (x : X) (B : Forest → Type 0) (here : (part : Part) (kids floats rest : Forest) → B (con part kids floats end) → upper (f x part kids floats rest) ≡ upper (con part kids floats rest)) where
  pub upper_at : (g : Forest) → B (only c g) → upper (at c f x g) ≡ upper g
  upper_at end b = refl
  upper_at (con part kids floats rest) b = step (same part.id c) (has c kids) (has c floats) b (upper_at kids) (upper_at rest)
    where
      step : (a k l : Bool) → B (cond a (con part kids floats end) (cond k (only c kids) (cond l (only c floats) (only c rest)))) → (B (only c kids) → upper (at c f x kids) ≡ upper kids) → (B (only c rest) → upper (at c f x rest) ≡ upper rest)
          → upper (cond a (f x part kids floats rest) (cond k (con part (at c f x kids) floats rest) (cond l (con part kids (at c f x floats) rest) (con part kids floats (at c f x rest))))) ≡ level part part.kind (upper kids) (upper rest)
      step true k l b u v = here part kids floats rest b
      step false true l b u v = ap (λ z. level part part.kind z (upper rest)) (u b)
      step false false true b u v = refl
      step false false false b u v = ap (λ z. level part part.kind (upper kids) z) (v b)

-- ---- what is shown

-- the workspace that the current output shows
abbrev pub shown_in : Forest → ConId
shown_in f = or_id (kind_by shown_of (first_part (node_in (current_in (first_part f)) (first_kids f)))) (current_in (first_part f))

root_level : (part : Part) (kids rest : Forest) (l : Bool) (room : ℕ) (k : NodeKind) (below : Forest) → IsNode roots l room part.id k part.marks below → level part k kids rest ≡ con part kids end rest
root_level part kids rest l room (Root d) below n = refl
root_level part kids rest l room (Output o) below n = absurd n
root_level part kids rest l room (Space w) below n = absurd n
root_level part kids rest l room (Con d) below n = absurd n

output_level : (part : Part) (kids rest : Forest) (l : Bool) (room : ℕ) (k : NodeKind) (below : Forest) → IsNode outputs l room part.id k part.marks below → level part k kids rest ≡ con part kids end rest
output_level part kids rest l room (Root d) below n = absurd n
output_level part kids rest l room (Output o) below n = refl
output_level part kids rest l room (Space w) below n = absurd n
output_level part kids rest l room (Con d) below n = absurd n

node_upper : (o : ConId) (row : Forest) → IsSoundRow outputs true 32 row → node_in o (upper row) ≡ upper (node_in o row)
node_upper o end p = refl
node_upper o (con part kids floats rest) p = ap (node_in o) e ∙ step (same part.id o) (node_upper o rest p.4)
  where
    e : level part part.kind (upper kids) (upper rest) ≡ con part (upper kids) end (upper rest)
    e = output_level part (upper kids) (upper rest) true 32 part.kind kids p.0

    step : (a : Bool) → node_in o (upper rest) ≡ upper (node_in o rest) → cond a (con part (upper kids) end (upper rest)) (node_in o (upper rest)) ≡ upper (cond a (con part kids floats rest) (node_in o rest))
    step true u = sym e
    step false u = u

first_output : (row : Forest) → IsSoundRow outputs true 32 row → first_part (upper row) ≡ first_part row
first_output end p = refl
first_output (con part kids floats rest) p = ap first_part (output_level part (upper kids) (upper rest) true 32 part.kind kids p.0)

shown_upper : (f : Forest) → IsSoundRow roots false 0 f → shown_in (upper f) ≡ shown_in f
shown_upper end p = refl
shown_upper (con part kids floats rest) p =
    let e = root_level part (upper kids) (upper rest) false 0 part.kind kids p.0 in
    let row = outputs_of (con part kids floats rest) p in
    let o : ConId = current_in (Some part) in
    ap shown_in e ∙ (ap (λ z. or_id (kind_by shown_of (first_part z)) o) (node_upper o kids row) ∙ ap (λ z. or_id (kind_by shown_of z) o) (first_output (node_in o kids) (sound_node_in o outputs true 32 kids row)))

-- trees that are alike there show the same workspace
pub shown_alike : (t new : TreeValue) → IsSound t → IsSound new → upper new.nodes ≡ upper t.nodes → shown new ≡ shown t
shown_alike t new s s2 e = sym (shown_upper new.nodes s2.shaped) ∙ (ap shown_in e ∙ shown_upper t.nodes s.shaped)

-- ---- the workspace that is shown

alone_in : (w : ConId) (row : Forest) → in_row w row ≡ true → tally w row ≤ 1 → only w row ≡ first_alone (node_in w row)
alone_in w row h once =
    by_row w (λ row part kids floats rest. rest) end (λ old new found. found ≡ first_alone (node_in w old)) (λ part kids floats rest e. rw e refl) (λ part kids floats rest new found e g. rw e g) row h once

on_output : (w o : ConId) (row : Forest) → in_row w (first_kids (node_in o row)) ≡ true → tally w row ≤ 1 → only w row ≡ first_alone (node_in w (first_kids (node_in o row)))
on_output w o end h once = cc
on_output w o (con part kids floats rest) h once = step (same part.id o) h (on_output w o rest)
  where
    step : (a : Bool) → in_row w (first_kids (cond a (con part kids floats rest) (node_in o rest))) ≡ true
        → (in_row w (first_kids (node_in o rest)) ≡ true → tally w rest ≤ 1 → only w rest ≡ first_alone (node_in w (first_kids (node_in o rest))))
        → only w (con part kids floats rest) ≡ first_alone (node_in w (first_kids (cond a (con part kids floats rest) (node_in o rest))))
    step true h u = only_kids w part kids floats rest once (has_row w kids h) ∙ alone_in w kids h (omega (arith, once))
    step false h u = only_rest w part kids floats rest once (stands_has w rest (of_output w o rest h)) ∙ u h (omega (arith, once))

found_shown : (w o : ConId) (f : Forest) → in_row w (first_kids (node_in o (first_kids f))) ≡ true → tally w f ≤ 1 → only w f ≡ first_alone (node_in w (first_kids (node_in o (first_kids f))))
found_shown w o end h once = cc
found_shown w o (con part kids floats rest) h once = only_kids w part kids floats rest once (stands_has w kids (of_output w o kids h)) ∙ on_output w o kids h (omega (arith, once))

pub space_is_found : (t : TreeValue) → IsSound t → shown_space t ≡ only (shown t) t.nodes
space_is_found t s =
    let o : ConId = current_in (first_part t.nodes) in
    let row = outputs_of t.nodes s.shaped in
    let out = current_there t.nodes s.shaped s.rooted in
    sym (found_shown (shown t) o t.nodes (shown_row o (first_kids t.nodes) row out) (s.once (shown t)))

pub focused_is : (t : TreeValue) → IsSound t → focused t ≡ or_id (first_held (only (shown t) t.nodes) t.recency) (shown t)
focused_is t s = ap (λ z. or_id (first_held z t.recency) (shown t)) (space_is_found t s)
