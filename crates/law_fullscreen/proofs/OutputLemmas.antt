-- Outputs that go and trees that open leave each workspace at most one fullscreen container.
use Rattle.std.proofs.Common.{◌≡◌, ◌≢◌, ℕ, ◌+◌, ◌≤◌, Bool, true, false, cond, ◌||◌, List, [], ◌∷◌, Option, None, Some, refl, ap, ◌∙◌, subst, arith}
use Rattle.std.specs.Prelude.{length}
use Rattle.wm_base.specs.declared.ids.ConId.{ConId}
use Rattle.wm_base.specs.declared.plan.Border.{Border}
use Rattle.wm_base.specs.declared.plan.OutputPlan.{OutputPlan}
use Rattle.law_fullscreen.proofs.WithinLemmas.{space_free, space_in, within-append, within-most, within-without, within_add}
use Rattle.law_fullscreen.proofs.WordLemmas.{one_edited, single}
use Rattle.law_fullscreen.specs.Fullscreen.{IsSingle, full_of, within}
use Rattle.wm_tree.proofs.AttachLemmas.{has_row}
use Rattle.wm_forest.proofs.CountLemmas.{count-without}
use Rattle.wm_forest.proofs.EditLemmas.{fits_current}
use Rattle.wm_tree.proofs.FocusLemmas.{outputs_of, root_kids}
use Rattle.wm_forest.proofs.OnceLemmas.{at_kids, spot_kids, spot_rest}
use Rattle.wm_tree.proofs.OutputLemmas.{yields}
use Rattle.wm_tree.proofs.OutputRows.{but_only, first_there, output_found, row_left}
use Rattle.wm_tree.proofs.SoundLemmas.{sound-edited}
use Rattle.wm_forest.proofs.StandLemmas.{sound-but}
use Rattle.wm_forest.specs.Change.{append, at, without}
use Rattle.wm_forest.specs.Counts.{but, count}
use Rattle.wm_forest.specs.declared.kind.KindEdit.TheVariants as edits
use Rattle.wm_forest.specs.declared.part.NodeKind.{NodeKind}
use Rattle.wm_forest.specs.declared.part.NodeKind.TheVariants.{Root, Output, Space, Con}
use Rattle.wm_forest.specs.declared.part.Part.{Part}
use Rattle.wm_forest.specs.declared.spot.Spot.{Spot}
use Rattle.wm_forest.specs.Forest.{Forest, end, con}
use Rattle.wm_forest.specs.Look.{first_floats, first_kids, first_part, in_row, kind_by, only, output_kind, same, space_kind}
use Rattle.wm_tree.specs.Outputs.{IsOutput, handed_on, left_to, without_output, yielded}
use Rattle.wm_forest.specs.Taking.{heir, taking_in}
use Rattle.wm_forest.specs.SoundRow.{IsNode, IsSoundRow, one_of, outputs, roots, tally}
use Rattle.wm_tree.specs.Sound.{IsSound}
use Rattle.wm_forest.specs.Spot.{space_at, spot_below, spot_in, top}
use Rattle.wm_tree.specs.TreeValue.{TreeValue, current, opening, opening_outputs}
use Rattle.wm_forest.specs.RootId.{root}
use Rattle.wm_tree.specs.Words.{edited}

-- ---- outputs stand in no workspace

output_free : (tiled : Bool) (room : ℕ) (id : ConId) (kind : NodeKind) (marks : List (List ℕ)) (kids : Forest) → IsNode outputs tiled room id kind marks kids → space_kind kind ≡ None
output_free tiled room id (Root c) marks kids n = absurd n
output_free tiled room id (Output o) marks kids n = refl
output_free tiled room id (Space w) marks kids n = absurd n
output_free tiled room id (Con c) marks kids n = absurd n

root_free : (id : ConId) (kind : NodeKind) (marks : List (List ℕ)) (kids : Forest) → IsNode roots false 0 id kind marks kids → space_kind kind ≡ None
root_free id (Root c) marks kids n = refl
root_free id (Output o) marks kids n = absurd n
root_free id (Space w) marks kids n = absurd n
root_free id (Con c) marks kids n = absurd n

row_spot : (i : ConId) (tiled : Bool) (room : ℕ) (s : Spot) (row : Forest) → IsSoundRow outputs tiled room row → tally i row ≤ 1 → in_row i row ≡ true → space_in (spot_in s i row) ≡ s.space
row_spot i tiled room s end p once h = cc
row_spot i tiled room s (con part kids floats rest) p once h = step (same part.id i) refl h (row_spot i tiled room s rest p.4 (omega (arith, once)))
  where
    step : (b : Bool) → same part.id i ≡ b → (b || in_row i rest) ≡ true → (in_row i rest ≡ true → space_in (spot_in s i rest) ≡ s.space) → space_in (spot_in s i (con part kids floats rest)) ≡ s.space
    step true e k next = rw e (space_free s.space part.id part.kind (output_free tiled room part.id part.kind part.marks kids p.0))
    step false e k next = ap space_in (spot_rest i s part kids floats rest once (has_row i rest k)) ∙ next k

-- a node of the row of outputs below the root
top_spot : (i : ConId) (part : Part) (kids row floats rest : Forest) → IsNode roots false 0 part.id part.kind part.marks kids → IsSoundRow outputs true 32 row → tally i (con part row floats rest) ≤ 1 → in_row i row ≡ true
    → space_in (spot_in top i (con part row floats rest)) ≡ None
top_spot i part kids row floats rest n p once h =
    ap space_in (spot_kids i top part row floats rest once (has_row i row h)) ∙
    (row_spot i true 32 (spot_below true top part) row p (omega (arith, once)) h ∙ space_free None part.id part.kind (root_free part.id part.kind part.marks kids n))

-- the two outputs, when the first has gone
record Unspaced (o h : ConId) (f : Forest) : Type 0 where
  goes : space_in (spot_in top o f) ≡ None
  stays : space_in (spot_in top h (without o f)) ≡ None

unspaced : (o h : ConId) (f : Forest) → IsSoundRow roots false 0 f → ((i : ConId) → tally i f ≤ 1) → IsOutput o f → heir o f ≡ Some h → Unspaced o h f
unspaced o h end p once ok next = cc
unspaced o h (con part kids floats rest) p once ok next =
    let row : IsSoundRow outputs true 32 kids = outputs_of (con part kids floats rest) p in
    let left : without o kids ≡ but o kids = (row_left o kids ok (omega (arith, once o))).0 in
    let e : without o (con part kids floats rest) ≡ con part (but o kids) floats rest =
    at_kids o (λ row part kids floats rest. rest) end part kids floats rest (once o) (has_row o kids ok) ∙ ap (λ z. con part z floats rest) left in
    let Once : Forest → Type 0 = λ z. tally h z ≤ 1 in
    let once_h : tally h (con part (but o kids) floats rest) ≤ 1 = subst Once e (omega (arith, once h, count-without (one_of h) o (con part kids floats rest))) in
    record {
      goes = top_spot o part kids kids floats rest p.0 row (once o) ok;
      stays = ap (λ z. space_in (spot_in top h z)) e ∙ top_spot h part kids (but o kids) floats rest p.0 (sound-but o outputs true 32 kids row) once_h (first_there h (but o kids) next);
    }

-- ---- what an output held comes to another one

taking_here : (w : ConId) (gone : Forest) (space : Option ConId) (part : Part) (kids floats rest : Forest)
    → within full_of w space (taking_in gone part kids floats rest) ≤ within full_of w space (con part kids floats rest) + within full_of w (space_at space part) (append (first_kids gone) (first_floats gone))
taking_here w gone space part kids floats rest =
    omega (
      arith,
      within-append full_of w (space_at space part) kids (first_kids gone),
      within-append full_of w (space_at space part) floats (first_floats gone),
      within-append full_of w (space_at space part) (first_kids gone) (first_floats gone),
    )

-- what a node holds that is no workspace
held_most : (w : ConId) (f : Forest) → kind_by space_kind (first_part f) ≡ None → within full_of w None (append (first_kids f) (first_floats f)) ≤ within full_of w None f
held_most w end free = omega arith
held_most w (con part kids floats rest) free = rw (space_free None part.id part.kind free) (omega (arith, within-append full_of w None kids floats))

output_no_space : (o : Option Part) → kind_by output_kind o ≢ None → kind_by space_kind o ≡ None
output_no_space None ok = refl
output_no_space (Some part) ok = by part.kind ok
  where
    by : (kind : NodeKind) → output_kind kind ≢ None → space_kind kind ≡ None
    by (Root c) k = refl
    by (Output o) k = refl
    by (Space s) k = absurd (k refl)
    by (Con c) k = refl

one_handed : (o h : ConId) (t : TreeValue) → IsSound t → IsOutput o t.nodes → heir o t.nodes ≡ Some h → IsSingle t.nodes → IsSingle (handed_on o h t).nodes
one_handed o h t s ok next =
    let f : Forest = t.nodes in
    let gone : Forest = only o f in
    let row : Forest = append (first_kids gone) (first_floats gone) in
    let u : Unspaced o h f = unspaced o h f s.shaped s.once ok next in
    let free : kind_by space_kind (first_part gone) ≡ None = output_no_space (first_part gone) (output_found o f s.shaped ok (s.once o)).first in
    single f (handed_on o h t).nodes
    (λ w.
    let added : within full_of w None (at h taking_in gone (without o f)) ≤ within full_of w None (without o f) + within full_of w (space_in (spot_in top h (without o f))) row =
    within_add full_of w h taking_in gone row (λ z. Unit {0}) (λ space part kids floats rest k. taking_here w gone space part kids floats rest) top (without o f) tt in
    let there : within full_of w (space_in (spot_in top h (without o f))) row ≡ within full_of w None row = ap (λ z. within full_of w z row) u.stays in
    let here : within full_of w (space_in (spot_in top o f)) gone ≡ within full_of w None gone = ap (λ z. within full_of w z gone) u.goes in
    omega (arith, added, there, here, held_most w gone free, within-without full_of w o top f))

one_yielded : (o h : ConId) (t : TreeValue) → IsOutput o t.nodes → heir o t.nodes ≡ Some h → IsSound t → IsSingle t.nodes → IsSingle (handed_on o h (yielded o h t)).nodes
one_yielded o h t ok next s one = by_test (same (current t) o)
  where
    by_test : (b : Bool) → IsSingle (handed_on o h (cond b (edited root (edits.Current h) t) t)).nodes
    by_test true =
        let u : TreeValue = edited root (edits.Current h) t in
        let y = yields h t.nodes s.shaped s.rooted in
        let su : IsSound u = sound-edited root (edits.Current h) t (fits_current h _ _ (rw (root_kids t.nodes s.shaped s.rooted) (but_only o h (first_kids t.nodes) (first_there h (but o (first_kids t.nodes)) next)))) s in
        one_handed o h u su (rw y.row ok) (rw y.row next) (one_edited root (edits.Current h) t refl one)
    by_test false = one_handed o h t s ok next one

pub one_without_output : (o : ConId) (t : TreeValue) → IsSound t → IsOutput o t.nodes → IsSingle t.nodes → IsSingle (without_output o t).nodes
one_without_output o t s ok one = by (heir o t.nodes) refl
  where
    by : (h : Option ConId) → heir o t.nodes ≡ h → IsSingle (left_to h o t).nodes
    by None e = one
    by (Some h) e = one_yielded o h t ok e s one

-- ---- the opening tree

pub none_open : (k last inner outer : ℕ) (plans : List OutputPlan) → count full_of (opening_outputs k last inner outer plans) ≡ 0
none_open k last inner outer [] = refl
none_open k last inner outer (plan ∷ plans) = omega (arith, none_open (k + 1) last inner outer plans)

pub one_opening : (plans : List OutputPlan) (border : Border) (inner outer : ℕ) → IsSingle (opening plans border inner outer).nodes
one_opening plans border inner outer w =
    omega (arith, within-most full_of w None (opening plans border inner outer).nodes, none_open 1 (1 + length plans) inner outer plans)
