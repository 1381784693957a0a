-- A tree with at most one fullscreen container in each workspace, and without a node that has the id of none: each word keeps both, as commands use it.
use Rattle.std.proofs.Common.{◌≡◌, ◌≢◌, ℕ, ◌+◌, ◌≤◌, Bool, true, false, cond, eqb, List, [], ◌∷◌, Option, None, Some, refl, ap, sym, ◌∙◌, subst, arith}
use Rattle.std.proofs.lemmas.Bool.Decides.{nat_tests}
use Rattle.std.specs.Option.{option_map}
use Rattle.std.specs.Prelude.{length}
use Rattle.wm_base.specs.declared.geometry.Size.{Size}
use Rattle.wm_base.specs.declared.ids.ConId.{ConId}
use Rattle.wm_base.specs.declared.plan.Border.{Border}
use Rattle.wm_base.specs.declared.plan.Layout.{Layout}
use Rattle.wm_base.specs.declared.plan.OutputPlan.{OutputPlan}
use Rattle.wm_base.specs.declared.properties.Props.{Props}
use Rattle.wm_floats.specs.Floating.{IsGoal}
use Rattle.wm_floats.specs.Fullscreen.{fullscreen_tree}
use Rattle.wm_floats.specs.Windows.{restated, state_of}
use Rattle.wm_focus.specs.Marks.{bare, taken_off}
use Rattle.law_fullscreen.proofs.ExchangeLemmas.{one_exchanged}
use Rattle.law_fullscreen.proofs.FillLemmas.{one_fullscreen}
use Rattle.law_fullscreen.proofs.HasOneLemmas.{has_single, single_has}
use Rattle.law_fullscreen.proofs.LawLemmas.{sound_fullscreen}
use Rattle.law_fullscreen.proofs.MoveLemmas.{one_along, one_moved, one_space_moved, stuck_none}
use Rattle.law_fullscreen.proofs.OutputLemmas.{one_opening, one_without_output}
use Rattle.law_fullscreen.proofs.WordLemmas.{is_state, one_attached, one_bare, one_detached, one_edited, one_marks, one_raised, one_restated, one_settled, one_taken_off, one_unmarked, one_with_output, one_with_space, one_wrapped}
use Rattle.law_fullscreen.specs.Fullscreen.{HasOne, IsSingle}
use Rattle.wm_tree.proofs.AttachLemmas.{sound-attached}
use Rattle.wm_forest.proofs.ChangeLemmas.{by_change}
use Rattle.wm_forest.proofs.CountLemmas.{count-append, count-same}
use Rattle.wm_tree.proofs.MoveLemmas.{ones_moved}
use Rattle.wm_tree.proofs.OutputLemmas.{sound-without_output}
use Rattle.wm_tree.proofs.PlaceLemmas.{place_fits}
use Rattle.wm_tree.proofs.RaiseLemmas.{count-unfull, sound-raised}
use Rattle.wm_tree.proofs.SettleLemmas.{sound-settled}
use Rattle.wm_tree.proofs.SoundLemmas.{sound-detached}
use Rattle.wm_tree.specs.Along.{gone_along, nowhere}
use Rattle.wm_forest.specs.Sticky.{is_sticky, loose, loosened, sticky}
use Rattle.wm_forest.specs.Change.{at, is_id, nobody, unfull}
use Rattle.wm_forest.specs.declared.kind.KindEdit.{KindEdit}
use Rattle.wm_forest.specs.declared.kind.KindEdit.TheVariants as edits
use Rattle.wm_forest.specs.declared.part.ConState.{ConState}
use Rattle.wm_forest.specs.declared.place.NewCon.TheVariants as new
use Rattle.wm_forest.specs.declared.place.Place.{Place}
use Rattle.wm_forest.specs.declared.place.Place.TheVariants.{Float}
use Rattle.wm_forest.specs.Forest.{Forest, end, con}
use Rattle.wm_forest.specs.Kinds.{kind_changed}
use Rattle.wm_forest.specs.Look.{con_kind, first_floats, has, kind_of, only, space_kind}
use Rattle.wm_tree.specs.Move.{IsExchange, exchanged, moved, unmarked, with_marks, wrapped}
use Rattle.wm_forest.specs.Marks.{marks_word, other_marks, unmark_word}
use Rattle.wm_tree.specs.Outputs.{IsOutput, space_moved, with_output, with_space, without_output}
use Rattle.wm_forest.specs.Place.{passed_limit, put, put_word}
use Rattle.wm_tree.specs.Sound.{IsSound}
use Rattle.wm_forest.specs.SoundRow.{one_of, tally}
use Rattle.wm_tree.specs.TreeValue.{TreeValue, newcomer_place, opening, opening_outputs}
use Rattle.wm_tree.specs.Words.{attached, detached, edited, settled, with_raised}

-- what lasts: of sound trees it says that each workspace has at most one
pub record Single (t : TreeValue) : Type 0 where
  pub one : IsSingle t.nodes
  pub low : tally nobody t.nodes ≡ 0

pub single_of : (t : TreeValue) → IsSound t → HasOne t → Single t
single_of t s one = record { one = has_single t s one; low = s.low }

pub has_of : (t : TreeValue) → IsSound t → Single t → HasOne t
has_of t s p = single_has t s p.one

-- a step to a sound tree
to_sound : (t new : TreeValue) → IsSound new → (IsSingle t.nodes → IsSingle new.nodes) → Single t → Single new
to_sound t new s step p = record { one = step p.one; low = s.low }

pub single_nodes : (t new : TreeValue) → new.nodes ≡ t.nodes → Single t → Single new
single_nodes t new e p = record { one = subst IsSingle (sym e) p.one; low = ap (tally nobody) e ∙ p.low }

-- ---- changes of nodes

low_edited : (c : ConId) (edit : KindEdit) (t : TreeValue) → tally nobody t.nodes ≡ 0 → tally nobody (edited c edit t).nodes ≡ 0
low_edited c edit t low = count-same (one_of nobody) c kind_changed edit (λ part kids floats rest. refl) t.nodes ∙ low

pub single_edited : (c : ConId) (edit : KindEdit) (t : TreeValue) → is_state edit ≡ false → Single t → Single (edited c edit t)
single_edited c edit t plain p = record { one = one_edited c edit t plain p.one; low = low_edited c edit t p.low }

pub single_restated : (c : ConId) (old now : ConState) (t : TreeValue) → state_of c t ≡ Some old → now.fullscreen ≡ old.fullscreen → Single t → Single (edited c (edits.State now) t)
single_restated c old now t h e p = record { one = one_restated c now old t h e p.one; low = low_edited c (edits.State now) t p.low }

pub single_reset : (c : ConId) (change : ConState → ConState) (t : TreeValue) → ((s : ConState) → (change s).fullscreen ≡ s.fullscreen) → Single t → Single (restated c (option_map change (state_of c t)) t)
single_reset c change t keeps p = by (state_of c t) refl
  where
    by : (o : Option ConState) → state_of c t ≡ o → Single (restated c (option_map change o) t)
    by None e = p
    by (Some s) e = single_restated c s (change s) t e (keeps s) p

pub single_filled : (c : ConId) (on : Bool) (t : TreeValue) → IsSound t → Single t → Single (fullscreen_tree c on t)
single_filled c on t s = to_sound t (fullscreen_tree c on t) (sound_fullscreen c on t s) (one_fullscreen c on t s)

pub single_marks : (c : ConId) (marks : List (List ℕ)) (t : TreeValue) → Single t → Single (with_marks c marks t)
single_marks c marks t p = record { one = one_marks c marks t p.one; low = count-same (one_of nobody) c marks_word marks (λ part kids floats rest. refl) t.nodes ∙ p.low }

pub single_unmarked : (c : ConId) (mark : List ℕ) (t : TreeValue) → Single t → Single (unmarked c mark t)
single_unmarked c mark t p = record { one = one_unmarked c mark t p.one; low = count-same (one_of nobody) c unmark_word mark (λ part kids floats rest. refl) t.nodes ∙ p.low }

tally_off : (keep : Option ConId) (n : List ℕ) (f : Forest) → tally nobody (taken_off keep n f) ≡ tally nobody f
tally_off keep n end = refl
tally_off keep n (con part kids floats rest) = omega (arith, step (is_id part.id keep), tally_off keep n kids, tally_off keep n floats, tally_off keep n rest)
  where
    step : (b : Bool) → one_of nobody (cond b part (record part { marks = other_marks n part.marks })) ≡ one_of nobody part
    step true = refl
    step false = refl

pub single_taken_off : (keep : Option ConId) (mark : List ℕ) (t : TreeValue) → Single t → Single (record t { nodes = taken_off keep mark t.nodes })
single_taken_off keep mark t p = record { one = one_taken_off keep mark t p.one; low = tally_off keep mark t.nodes ∙ p.low }

tally_bare : (f : Forest) → tally nobody (bare f) ≡ tally nobody f
tally_bare end = refl
tally_bare (con part kids floats rest) = omega (arith, tally_bare kids, tally_bare floats, tally_bare rest)

pub single_bare : (t : TreeValue) → Single t → Single (record t { nodes = bare t.nodes })
single_bare t p = record { one = one_bare t p.one; low = tally_bare t.nodes ∙ p.low }

-- ---- nodes that change their places

pub single_raised : (c : ConId) (t : TreeValue) → IsSound t → Single t → Single (with_raised c t)
single_raised c t s = to_sound t (with_raised c t) (sound-raised c t s) (one_raised c t)

pub single_moved : (c : ConId) (q : Place) (t : TreeValue) → IsSound t → IsGoal c q t → Single t → Single (moved c q t)
single_moved c q t s g p = record { one = one_moved c q t s g p.one; low = ones_moved c q t g.1 (g.2.2 g.0 g.1) nobody ∙ p.low }

pub single_exchanged : (a b : ConId) (t : TreeValue) → IsSound t → (has a t.nodes ≡ true) × (has b t.nodes ≡ true) × IsExchange a b t.nodes → IsSound (exchanged a b t) → Single t → Single (exchanged a b t)
single_exchanged a b t s g after = to_sound t (exchanged a b t) after (one_exchanged a b t s g.0 g.1 g.2)

pub single_space_moved : (w o : ConId) (t : TreeValue) → kind_of space_kind w t.nodes ≢ None → IsSound (space_moved w o t) → Single t → Single (space_moved w o t)
single_space_moved w o t ok after = to_sound t (space_moved w o t) after (one_space_moved w o t ok)

loose_most : (f : Forest) → tally nobody (loose f) ≤ tally nobody f
loose_most end = omega arith
loose_most (con part kids floats rest) = step (is_sticky part.kind) (loose_most rest)
  where
    step : (b : Bool) → tally nobody (loose rest) ≤ tally nobody rest → tally nobody (cond b (loose rest) (con part kids floats (loose rest))) ≤ tally nobody (con part kids floats rest)
    step true h = omega (arith, h)
    step false h = omega (arith, h)

loosened_most : (v : ConId) (f : Forest) → tally nobody (at v loosened end f) ≤ tally nobody f
loosened_most v =
    by_change v loosened end (λ old now found. tally nobody now ≤ tally nobody old) (omega arith)
    (λ part kids floats rest. omega (arith, loose_most floats))
    (λ part kids floats rest now found h. omega (arith, h))
    (λ part kids floats rest now found h. omega (arith, h))
    (λ part kids floats rest now found h. omega (arith, h))

pub single_along : (v w : ConId) (t : TreeValue) → Single t → Single (gone_along v w t)
single_along v w t p =
    let row : Forest = unfull nobody (sticky (first_floats (only v t.nodes))) in
    let none : tally nobody row ≡ 0 = count-unfull nobody (one_of nobody) (λ part. refl) (sticky (first_floats (only v t.nodes))) ∙ stuck_none v t.nodes p.low in
    let same : tally nobody (put (Float w nowhere) row (at v loosened end t.nodes)) ≡ tally nobody (at v loosened end t.nodes) =
    count-same (one_of nobody) w (put_word (Float w nowhere)) row (λ part kids floats rest. omega (arith, none, count-append (one_of nobody) floats row)) (at v loosened end t.nodes) in
    record { one = one_along v w t p.low p.one; low = omega (arith, same, p.low, loosened_most v t.nodes) }

-- ---- nodes that come and go

pub single_attached : (who : ℕ) (props : Props) (natural : Size) (t : TreeValue) → IsSound t → passed_limit (newcomer_place t) t.nodes t.next_id ≡ None → Single t → Single (attached (newcomer_place t) (new.Window props who natural) t)
single_attached who props natural t s none =
    let fit = place_fits t s in
    to_sound t (attached (newcomer_place t) (new.Window props who natural) t) (sound-attached (newcomer_place t) (new.Window props who natural) t fit.0 fit.1 none s) (one_attached (newcomer_place t) (new.Window props who natural) t)

pub single_wrapped : (c : ConId) (layout : Layout) (t : TreeValue) → IsSound (wrapped c layout t) → Single t → Single (wrapped c layout t)
single_wrapped c layout t after = to_sound t (wrapped c layout t) after (one_wrapped c layout t)

pub single_with_space : (o : ConId) (name : List ℕ) (t : TreeValue) → IsSound (with_space o name t) → Single t → Single (with_space o name t)
single_with_space o name t after = to_sound t (with_space o name t) after (one_with_space o name t)

pub single_with_output : (plan : OutputPlan) (name : List ℕ) (t : TreeValue) → IsSound (with_output plan name t) → Single t → Single (with_output plan name t)
single_with_output plan name t after = to_sound t (with_output plan name t) after (one_with_output plan name t)

pub single_detached : (c : ConId) (t : TreeValue) → IsSound t → kind_of con_kind c t.nodes ≢ None → Single t → Single (detached c t)
single_detached c t s ok = to_sound t (detached c t) (sound-detached c t ok s) (one_detached c t)

pub single_settled : (t : TreeValue) → IsSound t → Single t → Single (settled t)
single_settled t s = to_sound t (settled t) (sound-settled t s) (one_settled t)

pub single_without_output : (o : ConId) (t : TreeValue) → IsSound t → IsOutput o t.nodes → Single t → Single (without_output o t)
single_without_output o t s out = to_sound t (without_output o t) (sound-without_output o t out s) (one_without_output o t s out)

-- ---- the opening tree

low_open : (k last inner outer : ℕ) (plans : List OutputPlan) → 1 ≤ last → tally nobody (opening_outputs k last inner outer plans) ≡ 0
low_open k last inner outer [] some = refl
low_open k last inner outer (plan ∷ plans) some =
    let output : eqb (k + 1) 0 ≡ false = grind (arith, nat_tests) in
    let space : eqb (last + k) 0 ≡ false = grind (arith, nat_tests) in
    rw (output, space) (omega (arith, low_open (k + 1) last inner outer plans some))

pub single_opening : (plans : List OutputPlan) (border : Border) (inner outer : ℕ) → Single (opening plans border inner outer)
single_opening plans border inner outer = record { one = one_opening plans border inner outer; low = omega (arith, low_open 1 (1 + length plans) inner outer plans (omega arith)) }
