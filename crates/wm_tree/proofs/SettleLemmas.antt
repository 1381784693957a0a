-- Settling keeps what holds of every tree.
use Rattle.std.proofs.Common.{◌≡◌, ℕ, ◌+◌, ◌≤◌, Bool, true, false, cond, ◌||◌, ◌&&◌, not, List, Option, None, Some, refl, ap, ◌∙◌, arith}
use Rattle.wm_base.specs.declared.ids.ConId.{ConId}
use Rattle.wm_forest.specs.declared.part.Part.{Part}
use Rattle.wm_forest.specs.declared.part.ConKind.{ConKind}
use Rattle.wm_forest.specs.declared.part.ConKind.TheVariants.{Split, Window, Placeholder}
use Rattle.wm_forest.specs.declared.part.NodeKind.{NodeKind}
use Rattle.wm_forest.specs.declared.part.NodeKind.TheVariants.{Root, Output, Space, Con}
use Rattle.wm_forest.specs.Forest.{Forest, end, con}
use Rattle.wm_forest.specs.Change.{is_end, is_vacant, append, nobody, settled_row, shown_of}
use Rattle.wm_forest.specs.Counts.{con_of, count, marks_of, row_length, space_of}
use Rattle.wm_forest.specs.Look.{has, in_row, same}
use Rattle.wm_forest.specs.Recency.{outside}
use Rattle.wm_forest.specs.Settle.{vacated}
use Rattle.wm_forest.specs.SoundRow.{Level, roots, outputs, spaces, containers, below, HasKids, IsNode, IsSoundRow, one_of, rank_of, ranked, tally, times}
use Rattle.wm_tree.specs.Sound.{IsSound}
use Rattle.wm_forest.specs.Spot.{room_below}
use Rattle.wm_tree.specs.TreeValue.{TreeValue}
use Rattle.wm_forest.specs.RootId.{root}
use Rattle.wm_tree.specs.Words.{settled}
use Rattle.wm_forest.proofs.CountLemmas.{count-append, count-settled, counted, tally-absent}
use Rattle.wm_tree.proofs.SoundLemmas.{rank_le}
use Rattle.wm_forest.proofs.TimesLemmas.{times-dropped, times-kept}

length_step : (b : Bool) (shown : Option ConId) (part : Part) (kids floats rest : Forest) → row_length (settled_row shown rest) ≤ row_length rest
    → row_length (cond b (settled_row shown rest) (con part (settled_row (shown_of part.kind) kids) floats (settled_row shown rest))) ≤ 1 + row_length rest
length_step true shown part kids floats rest h = omega (arith, h)
length_step false shown part kids floats rest h = omega (arith, h)

pub row_length-settled : (shown : Option ConId) (f : Forest) → row_length (settled_row shown f) ≤ row_length f
row_length-settled shown end = omega arith
row_length-settled shown (con part kids floats rest) =
    length_step (is_vacant shown part.id part.kind (settled_row (shown_of part.kind) kids) floats) shown part kids floats rest (row_length-settled shown rest)

-- ---- what is shown stays

-- a node of a row of workspaces that is the one shown is not vacant
not_vacant : (w id : ConId) (kind : NodeKind) (tiled : Bool) (room : ℕ) (marks : List (List ℕ)) (kids kids' floats : Forest) → IsNode spaces tiled room id kind marks kids → same id w ≡ true → is_vacant (Some w) id kind kids' floats ≡ false
not_vacant w id (Root c) tiled room marks kids kids' floats h e = absurd h
not_vacant w id (Output o) tiled room marks kids kids' floats h e = absurd h
not_vacant w id (Space s) tiled room marks kids kids' floats h e = by_tests (is_end kids') (is_end floats) (same id w) e
  where
    by_tests : (a b d : Bool) → d ≡ true → (a && b && not d) ≡ false
    by_tests true true true f = refl
    by_tests true true false f = cc
    by_tests true false d f = refl
    by_tests false b d f = refl
not_vacant w id (Con c) tiled room marks kids kids' floats h e = absurd h

shown_step : (w : ConId) (a v : Bool) (part : Part) (kids floats rest : Forest) → same part.id w ≡ a → is_vacant (Some w) part.id part.kind (settled_row (shown_of part.kind) kids) floats ≡ v
    → (a ≡ true → v ≡ false) → (in_row w rest ≡ true → in_row w (settled_row (Some w) rest) ≡ true) → (a || in_row w rest) ≡ true
    → in_row w (cond v (settled_row (Some w) rest) (con part (settled_row (shown_of part.kind) kids) floats (settled_row (Some w) rest))) ≡ true
shown_step w true true part kids floats rest ea ev never ih h = let bad : true ≡ false = never refl in cc
shown_step w true false part kids floats rest ea ev never ih h = rw ea refl
shown_step w false true part kids floats rest ea ev never ih h = ih h
shown_step w false false part kids floats rest ea ev never ih h = rw ea (ih h)

shown_stays : (w : ConId) (tiled : Bool) (room : ℕ) (f : Forest) → IsSoundRow spaces tiled room f → in_row w f ≡ true → in_row w (settled_row (Some w) f) ≡ true
shown_stays w tiled room end p h = h
shown_stays w tiled room (con part kids floats rest) p h =
    shown_step w (same part.id w) (is_vacant (Some w) part.id part.kind (settled_row (shown_of part.kind) kids) floats) part kids floats rest refl refl
    (λ e. not_vacant w part.id part.kind tiled room part.marks kids (settled_row (shown_of part.kind) kids) floats p.0 e) (shown_stays w tiled room rest p.4) h

-- a row of outputs keeps all of them
output_stays : (shown : Option ConId) (id : ConId) (kind : NodeKind) (tiled : Bool) (room : ℕ) (marks : List (List ℕ)) (kids kids' floats : Forest) → IsNode outputs tiled room id kind marks kids → is_vacant shown id kind kids' floats ≡ false
output_stays shown id (Root c) tiled room marks kids kids' floats h = absurd h
output_stays shown id (Output o) tiled room marks kids kids' floats h = refl
output_stays shown id (Space s) tiled room marks kids kids' floats h = absurd h
output_stays shown id (Con c) tiled room marks kids kids' floats h = absurd h

outputs_stay : (i : ConId) (shown : Option ConId) (tiled : Bool) (room : ℕ) (f : Forest) → IsSoundRow outputs tiled room f → in_row i (settled_row shown f) ≡ in_row i f
outputs_stay i shown tiled room end p = refl
outputs_stay i shown tiled room (con part kids floats rest) p =
    rw (output_stays shown part.id part.kind tiled room part.marks kids (settled_row (shown_of part.kind) kids) floats p.0) (ap (λ z. same part.id i || z) (outputs_stay i shown tiled room rest p.4))

root_stays : (shown : Option ConId) (id : ConId) (kind : NodeKind) (tiled : Bool) (room : ℕ) (marks : List (List ℕ)) (kids kids' floats : Forest) → IsNode roots tiled room id kind marks kids → is_vacant shown id kind kids' floats ≡ false
root_stays shown id (Root c) tiled room marks kids kids' floats h = refl
root_stays shown id (Output o) tiled room marks kids kids' floats h = absurd h
root_stays shown id (Space s) tiled room marks kids kids' floats h = absurd h
root_stays shown id (Con c) tiled room marks kids kids' floats h = absurd h

roots_stay : (i : ConId) (shown : Option ConId) (tiled : Bool) (room : ℕ) (f : Forest) → IsSoundRow roots tiled room f → in_row i (settled_row shown f) ≡ in_row i f
roots_stay i shown tiled room end p = refl
roots_stay i shown tiled room (con part kids floats rest) p =
    rw (root_stays shown part.id part.kind tiled room part.marks kids (settled_row (shown_of part.kind) kids) floats p.0) (ap (λ z. same part.id i || z) (roots_stay i shown tiled room rest p.4))

-- ---- a settled node

settled_kids : (kind : ConKind) (shown : Option ConId) (kids : Forest) → HasKids kind kids → HasKids kind (settled_row shown kids)
settled_kids (Split layout last) shown kids h = tt
settled_kids (Window props owner natural) shown kids h = ap (settled_row shown) h
settled_kids (Placeholder props swallows) shown kids h = ap (settled_row shown) h

settled_node : (l : Level) (tiled : Bool) (room : ℕ) (id : ConId) (kind : NodeKind) (marks : List (List ℕ)) (kids : Forest) → IsNode l tiled room id kind marks kids → IsSoundRow (below l) true (room_below room kind) kids
    → IsNode l tiled room id kind marks (settled_row (shown_of kind) kids)
settled_node roots tiled room id (Root c) marks kids h below_it = (h.0, outputs_stay c None true 32 kids below_it ∙ h.1, h.2)
settled_node roots tiled room id (Output o) marks kids h below_it = absurd h
settled_node roots tiled room id (Space w) marks kids h below_it = absurd h
settled_node roots tiled room id (Con c) marks kids h below_it = absurd h
settled_node outputs tiled room id (Root c) marks kids h below_it = absurd h
settled_node outputs tiled room id (Output o) marks kids h below_it = (h.0, shown_stays o.shown true 32 kids below_it h.1, h.2)
settled_node outputs tiled room id (Space w) marks kids h below_it = absurd h
settled_node outputs tiled room id (Con c) marks kids h below_it = absurd h
settled_node spaces tiled room id (Root c) marks kids h below_it = absurd h
settled_node spaces tiled room id (Output o) marks kids h below_it = absurd h
settled_node spaces tiled room id (Space w) marks kids h below_it = h
settled_node spaces tiled room id (Con c) marks kids h below_it = absurd h
settled_node containers tiled room id (Root c) marks kids h below_it = absurd h
settled_node containers tiled room id (Output o) marks kids h below_it = absurd h
settled_node containers tiled room id (Space w) marks kids h below_it = absurd h
settled_node containers tiled room id (Con c) marks kids h below_it = (h.0, h.1, h.2, settled_kids c.kind None kids h.3)

settled_step : (b : Bool) (l : Level) (tiled : Bool) (room : ℕ) (shown : Option ConId) (part : Part) (kids floats rest : Forest)
    → IsNode l tiled room part.id part.kind part.marks (settled_row (shown_of part.kind) kids) → row_length (settled_row (shown_of part.kind) kids) ≤ 256
    → IsSoundRow (below l) true (room_below room part.kind) (settled_row (shown_of part.kind) kids) → IsSoundRow containers false (room_below room part.kind) floats → IsSoundRow l tiled room (settled_row shown rest)
    → IsSoundRow l tiled room (cond b (settled_row shown rest) (con part (settled_row (shown_of part.kind) kids) floats (settled_row shown rest)))
settled_step true l tiled room shown part kids floats rest n few k f r = r
settled_step false l tiled room shown part kids floats rest n few k f r = (n, few, k, f, r)

pub shaped-settled : (l : Level) (tiled : Bool) (room : ℕ) (shown : Option ConId) (f : Forest) → IsSoundRow l tiled room f → IsSoundRow l tiled room (settled_row shown f)
shaped-settled l tiled room shown end p = p
shaped-settled l tiled room shown (con part kids floats rest) p =
    settled_step (is_vacant shown part.id part.kind (settled_row (shown_of part.kind) kids) floats) l tiled room shown part kids floats rest
    (settled_node l tiled room part.id part.kind part.marks kids p.0 p.2) (omega (arith, row_length-settled (shown_of part.kind) kids, p.1))
    (shaped-settled (below l) true (room_below room part.kind) (shown_of part.kind) kids p.2) p.3 (shaped-settled l tiled room shown rest p.4)

-- ---- ids

module _ (m : Part → ℕ) where
  taken_step : (b : Bool) (part : Part) (kids floats rest kids' rest' gone_kids gone_rest : Forest) → count m kids' + count m gone_kids ≡ count m kids → count m rest' + count m gone_rest ≡ count m rest
      → count m (cond b rest' (con part kids' floats rest')) + count m (cond b (con part kids' floats (append gone_rest gone_kids)) (append gone_rest gone_kids)) ≡ count m (con part kids floats rest)
  taken_step true part kids floats rest kids' rest' gone_kids gone_rest p q = omega (arith, p, q, count-append m gone_rest gone_kids)
  taken_step false part kids floats rest kids' rest' gone_kids gone_rest p q = omega (arith, p, q, count-append m gone_rest gone_kids)

  -- what settling leaves and what it takes out make the whole
  pub count-vacated : (shown : Option ConId) (f : Forest) → count m (settled_row shown f) + count m (vacated shown f) ≡ count m f
  count-vacated shown end = refl
  count-vacated shown (con part kids floats rest) =
      taken_step (is_vacant shown part.id part.kind (settled_row (shown_of part.kind) kids) floats) part kids floats rest (settled_row (shown_of part.kind) kids) (settled_row shown rest)
      (vacated (shown_of part.kind) kids) (vacated shown rest) (count-vacated (shown_of part.kind) kids) (count-vacated shown rest)

known_settled : (i : ConId) (f : Forest) (ids : List ConId) → tally i f ≤ 1 → times i ids ≡ ranked i f → times i (outside (vacated None f) ids) ≡ ranked i (settled_row None f)
known_settled i f ids once known = by_test (has i (vacated None f)) refl
  where
    by_test : (b : Bool) → has i (vacated None f) ≡ b → times i (outside (vacated None f) ids) ≡ ranked i (settled_row None f)
    by_test true e =
        let gone : times i (outside (vacated None f) ids) ≡ 0 = times-dropped (λ id. not (has id (vacated None f))) i ids (ap not e) in
        omega (arith, gone, once, counted i (vacated None f) e, count-vacated (one_of i) None f, rank_le i (settled_row None f))
    by_test false e =
        let kept : times i (outside (vacated None f) ids) ≡ times i ids = times-kept (λ id. not (has id (vacated None f))) i ids (ap not e) in
        omega (arith, kept, known, tally-absent i (vacated None f) e, rank_le i (vacated None f), count-vacated (rank_of i) None f)

pub sound-settled : (t : TreeValue) → IsSound t → IsSound (settled t)
sound-settled t s = record {
  shaped = shaped-settled roots false 0 None t.nodes s.shaped;
  rooted = roots_stay root None false 0 t.nodes s.shaped ∙ s.rooted;
  once = λ i. omega (arith, count-settled (one_of i) None t.nodes, s.once i);
  fresh = λ i above. omega (arith, count-settled (one_of i) None t.nodes, s.fresh i above);
  low = omega (arith, count-settled (one_of nobody) None t.nodes, s.low);
  above = s.above;
  known = λ i. known_settled i t.nodes t.recency (s.once i) (s.known i);
  few = omega (arith, count-settled con_of None t.nodes, s.few);
  few_spaces = omega (arith, count-settled space_of None t.nodes, s.few_spaces);
  few_marks = omega (arith, count-settled marks_of None t.nodes, s.few_marks);
  ids = s.ids;
}
