-- Outputs show workspaces of their own, so one that its output does not show is not shown.
use Rattle.std.proofs.Common.{◌≡◌, ℕ, ◌+◌, ◌≤◌, Bool, true, false, cond, ◌||◌, List, refl, ap, sym, ◌∙◌, subst, arith}
use Rattle.wm_base.specs.declared.ids.ConId.{ConId}
use Rattle.wm_shared.proofs.StandingLemmas.{stands_has, stands_on, of_output}
use Rattle.wm_tree.proofs.AttachLemmas.{has_row}
use Rattle.wm_forest.proofs.CountLemmas.{counted}
use Rattle.wm_tree.proofs.FocusLemmas.{outputs_of}
use Rattle.wm_forest.proofs.OnceLemmas.{at_kids, only_kids}
use Rattle.wm_tree.proofs.OutputRows.{by_row}
use Rattle.wm_forest.proofs.RecencyLemmas.{same_is}
use Rattle.wm_forest.specs.declared.kind.KindEdit.TheVariants as edits
use Rattle.wm_forest.specs.declared.part.NodeKind.{NodeKind}
use Rattle.wm_forest.specs.declared.part.NodeKind.TheVariants.{Root, Output, Space, Con}
use Rattle.wm_forest.specs.Change.{at, is_id, shown_of}
use Rattle.wm_forest.specs.Counts.{count}
use Rattle.wm_forest.specs.Forest.{Forest, end, con}
use Rattle.wm_forest.specs.Kinds.{changed, kind_changed}
use Rattle.wm_forest.specs.Look.{first_kids, first_part, in_row, kind_by, node_in, only, same}
use Rattle.wm_tree.specs.Outputs.{IsNotShown, IsOutput, shows}
use Rattle.wm_forest.specs.SoundRow.{Level, roots, outputs, spaces, containers, below, IsNode, IsSoundRow, tally}
use Rattle.wm_tree.specs.Sound.{IsSound}
use Rattle.wm_forest.specs.Spot.{room_below}
use Rattle.wm_tree.specs.TreeValue.{TreeValue}

-- ---- how many outputs show a workspace

low_shows : (w : ConId) (l : Level) (tiled : Bool) (room : ℕ) (id : ConId) (kind : NodeKind) (marks : List (List ℕ)) (kids : Forest) → below l ≡ containers → IsNode l tiled room id kind marks kids → cond (is_id w (shown_of kind)) 1 0 ≤ 0
low_shows w l tiled room id (Root c) marks kids low n = omega arith
low_shows w l tiled room id (Space v) marks kids low n = omega arith
low_shows w l tiled room id (Con c) marks kids low n = omega arith
low_shows w roots tiled room id (Output o) marks kids low n = absurd n
low_shows w outputs tiled room id (Output o) marks kids low n = cc
low_shows w spaces tiled room id (Output o) marks kids low n = absurd n
low_shows w containers tiled room id (Output o) marks kids low n = absurd n

-- workspaces and containers show none
low_none : (w : ConId) (l : Level) (tiled : Bool) (room : ℕ) (f : Forest) → below l ≡ containers → IsSoundRow l tiled room f → count (shows w) f ≤ 0
low_none w l tiled room end low p = omega arith
low_none w l tiled room (con part kids floats rest) low p =
    omega (
      arith,
      low_shows w l tiled room part.id part.kind part.marks kids low p.0,
      low_none w (below l) true (room_below room part.kind) kids (ap below low) p.2,
      low_none w containers false (room_below room part.kind) floats refl p.3,
      low_none w l tiled room rest low p.4,
    )

-- an output that shows w has it among its own
shows_own : (w : ConId) (tiled : Bool) (room : ℕ) (id : ConId) (kind : NodeKind) (marks : List (List ℕ)) (kids : Forest) → IsNode outputs tiled room id kind marks kids → cond (is_id w (shown_of kind)) 1 0 ≤ tally w kids
shows_own w tiled room id (Root c) marks kids n = absurd n
shows_own w tiled room id (Output o) marks kids n = by_test (same w o.shown) refl
  where
    by_test : (b : Bool) → same w o.shown ≡ b → cond b 1 0 ≤ tally w kids
    by_test true e = let there : in_row w kids ≡ true = ap (λ z. in_row z kids) (same_is w o.shown e) ∙ n.1 in counted w kids (has_row w kids there)
    by_test false e = omega arith
shows_own w tiled room id (Space v) marks kids n = absurd n
shows_own w tiled room id (Con c) marks kids n = absurd n

outs_show : (w : ConId) (tiled : Bool) (room : ℕ) (row : Forest) → IsSoundRow outputs tiled room row → count (shows w) row ≤ tally w row
outs_show w tiled room end p = omega arith
outs_show w tiled room (con part kids floats rest) p =
    omega (
      arith,
      shows_own w tiled room part.id part.kind part.marks kids p.0,
      low_none w spaces true (room_below room part.kind) kids refl p.2,
      low_none w containers false (room_below room part.kind) floats refl p.3,
      outs_show w tiled room rest p.4,
    )

-- one fewer, where an output that has w does not show it
outs_fewer : (w o : ConId) (tiled : Bool) (room : ℕ) (row : Forest) → IsSoundRow outputs tiled room row → in_row w (first_kids (node_in o row)) ≡ true → is_id w (kind_by shown_of (first_part (node_in o row))) ≡ false → count (shows w) row + 1 ≤ tally w row
outs_fewer w o tiled room end p h k = cc
outs_fewer w o tiled room (con part kids floats rest) p h k = by_test (same part.id o) h k (outs_fewer w o tiled room rest p.4)
  where
    by_test : (b : Bool) → in_row w (first_kids (cond b (con part kids floats rest) (node_in o rest))) ≡ true → is_id w (kind_by shown_of (first_part (cond b (con part kids floats rest) (node_in o rest)))) ≡ false
        → (in_row w (first_kids (node_in o rest)) ≡ true → is_id w (kind_by shown_of (first_part (node_in o rest))) ≡ false → count (shows w) rest + 1 ≤ tally w rest)
        → count (shows w) (con part kids floats rest) + 1 ≤ tally w (con part kids floats rest)
    by_test true h k f =
        let none : ◌≡◌ {A = ℕ} (cond (is_id w (shown_of part.kind)) 1 0) 0 = rw k refl in
        omega (
          arith,
          none,
          counted w kids (has_row w kids h),
          low_none w spaces true (room_below room part.kind) kids refl p.2,
          low_none w containers false (room_below room part.kind) floats refl p.3,
          outs_show w tiled room rest p.4,
        )
    by_test false h k f =
        omega (
          arith,
          shows_own w tiled room part.id part.kind part.marks kids p.0,
          low_none w spaces true (room_below room part.kind) kids refl p.2,
          low_none w containers false (room_below room part.kind) floats refl p.3,
          f h k,
        )

root_shows : (w : ConId) (id : ConId) (kind : NodeKind) (marks : List (List ℕ)) (kids : Forest) → IsNode roots false 0 id kind marks kids → cond (is_id w (shown_of kind)) 1 0 ≤ 0
root_shows w id (Root c) marks kids n = omega arith
root_shows w id (Output o) marks kids n = absurd n
root_shows w id (Space v) marks kids n = absurd n
root_shows w id (Con c) marks kids n = absurd n

roots_show : (w : ConId) (f : Forest) → IsSoundRow roots false 0 f → count (shows w) f ≤ tally w f
roots_show w end p = omega arith
roots_show w (con part kids floats rest) p =
    omega (
      arith,
      root_shows w part.id part.kind part.marks kids p.0,
      outs_show w true 32 kids (outputs_of (con part kids floats rest) p),
      low_none w containers false (room_below 0 part.kind) floats refl p.3,
      roots_show w rest p.4,
    )

-- a workspace that its output does not show is not shown
pub not_shown : (w o : ConId) (t : TreeValue) → IsSound t → in_row w (first_kids (node_in o (first_kids t.nodes))) ≡ true → is_id w (kind_by shown_of (first_part (node_in o (first_kids t.nodes)))) ≡ false → IsNotShown w t.nodes
not_shown w o t s h k = by_nodes t.nodes s.shaped (s.once w) h k
  where
    by_nodes : (f : Forest) → IsSoundRow roots false 0 f → tally w f ≤ 1 → in_row w (first_kids (node_in o (first_kids f))) ≡ true → is_id w (kind_by shown_of (first_part (node_in o (first_kids f)))) ≡ false → count (shows w) f ≡ 0
    by_nodes end p once h k = cc
    by_nodes (con part kids floats rest) p once h k =
        omega (
          arith,
          once,
          root_shows w part.id part.kind part.marks kids p.0,
          outs_fewer w o true 32 kids (outputs_of (con part kids floats rest) p) h k,
          low_none w containers false (room_below 0 part.kind) floats refl p.3,
          roots_show w rest p.4,
        )

-- ---- an output shows another workspace

-- what showing v on the output o changes
pub record Aside (o v : ConId) (old new : Forest) : Type 0 where
  pub outs : (i : ConId) → in_row i (first_kids new) ≡ in_row i (first_kids old)
  pub stand : (i : ConId) → stands_on i (first_kids new) ≡ stands_on i (first_kids old)
  pub row : first_kids (node_in o (first_kids new)) ≡ first_kids (node_in o (first_kids old))
  pub now : (i : ConId) → same i v ≡ false → is_id i (kind_by shown_of (first_part (node_in o (first_kids new)))) ≡ false

-- the same of the row of outputs
record AsideRow (o v : ConId) (old new : Forest) : Type 0 where
  pub outs : (i : ConId) → in_row i new ≡ in_row i old
  pub stand : (i : ConId) → stands_on i new ≡ stands_on i old
  pub row : first_kids (node_in o new) ≡ first_kids (node_in o old)
  pub now : (i : ConId) → same i v ≡ false → is_id i (kind_by shown_of (first_part (node_in o new))) ≡ false

other_shown : (i v : ConId) (kind : NodeKind) → same i v ≡ false → is_id i (shown_of (changed (edits.Shown v) kind)) ≡ false
other_shown i v (Root c) e = refl
other_shown i v (Output o) e = e
other_shown i v (Space w) e = refl
other_shown i v (Con c) e = refl

aside_row : (o v : ConId) (row : Forest) → in_row o row ≡ true → tally o row ≤ 1 → AsideRow o v row (at o kind_changed (edits.Shown v) row)
aside_row o v row h once =
    by_row o kind_changed (edits.Shown v) (λ old new found. AsideRow o v old new)
    (λ part kids floats rest e. record {
      outs = λ i. refl;
      stand = λ i. refl;
      row = rw e refl;
      now = λ i other. rw e (other_shown i v part.kind other);
    })
    (λ part kids floats rest new found e g. record {
      outs = λ i. ap (λ z. same part.id i || z) (g.outs i);
      stand = λ i. ap (λ z. in_row i kids || z) (g.stand i);
      row = rw e g.row;
      now = λ i other. rw e (g.now i other);
    }) row h once

pub aside : (o v : ConId) (f : Forest) → tally o f ≤ 1 → IsOutput o f → Aside o v f (at o kind_changed (edits.Shown v) f)
aside o v end once h = cc
aside o v (con part kids floats rest) once h =
    let New : Forest → Type 0 = λ z. Aside o v (con part kids floats rest) z in
    let g = aside_row o v kids h (omega (arith, once)) in
    subst New (sym (at_kids o kind_changed (edits.Shown v) part kids floats rest once (has_row o kids h))) (record { outs = g.outs; stand = g.stand; row = g.row; now = g.now })

-- ---- one output has a workspace

pub one_output : (p q v : ConId) (row : Forest) → tally v row ≤ 1 → in_row v (first_kids (node_in p row)) ≡ true → in_row v (first_kids (node_in q row)) ≡ true → p ≡ q
one_output p q v end once h k = cc
one_output p q v (con part kids floats rest) once h k = by_tests (same part.id p) (same part.id q) refl refl h k (one_output p q v rest (omega (arith, once)))
  where
    twice : (r : ConId) → in_row v kids ≡ true → in_row v (first_kids (node_in r rest)) ≡ true → ⊥
    twice r a b = omega (arith, once, counted v kids (has_row v kids a), counted v rest (stands_has v rest (of_output v r rest b)))

    by_tests : (a b : Bool) → same part.id p ≡ a → same part.id q ≡ b → in_row v (first_kids (cond a (con part kids floats rest) (node_in p rest))) ≡ true → in_row v (first_kids (cond b (con part kids floats rest) (node_in q rest))) ≡ true
        → (in_row v (first_kids (node_in p rest)) ≡ true → in_row v (first_kids (node_in q rest)) ≡ true → p ≡ q) → p ≡ q
    by_tests true true e d h k f = sym (same_is part.id p e) ∙ same_is part.id q d
    by_tests true false e d h k f = absurd (twice q h k)
    by_tests false true e d h k f = absurd (twice p k h)
    by_tests false false e d h k f = f h k

-- an output that is found is that of the row
row_only : (o : ConId) (row : Forest) → in_row o row ≡ true → tally o row ≤ 1 → (first_kids (only o row) ≡ first_kids (node_in o row)) × (first_part (only o row) ≡ first_part (node_in o row))
row_only o row h once =
    by_row o (λ row part kids floats rest. rest) end (λ old new found. (first_kids found ≡ first_kids (node_in o old)) × (first_part found ≡ first_part (node_in o old)))
    (λ part kids floats rest e. rw e (refl, refl))
    (λ part kids floats rest new found e g. rw e g) row h once

pub found_only : (o : ConId) (f : Forest) → tally o f ≤ 1 → IsOutput o f → (first_kids (only o f) ≡ first_kids (node_in o (first_kids f))) × (first_part (only o f) ≡ first_part (node_in o (first_kids f)))
found_only o end once h = cc
found_only o (con part kids floats rest) once h =
    let g = row_only o kids h (omega (arith, once)) in
    let e = only_kids o part kids floats rest once (has_row o kids h) in
    (ap first_kids e ∙ g.0, ap first_part e ∙ g.1)
