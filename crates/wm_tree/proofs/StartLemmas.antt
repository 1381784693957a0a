-- The opening tree is sound.
use Rattle.std.proofs.Common.{◌≡◌, ℕ, suc, ◌+◌, ◌*◌, ◌≤◌, Bool, true, false, cond, leb, ltb, ◌&&◌, List, [], ◌∷◌, length, refl, ap, ◌∙◌, arith}
use Rattle.std.proofs.lemmas.Bool.Decides.{nat_tests}
use Rattle.wm_base.specs.declared.ids.ConId.{ConId}
use Rattle.wm_base.specs.declared.plan.Border.{Border}
use Rattle.wm_base.specs.declared.plan.OutputPlan.{OutputPlan}
use Rattle.wm_forest.specs.Change.{nobody}
use Rattle.wm_forest.specs.Counts.{con_count, mark_count, row_length, space_count}
use Rattle.wm_forest.specs.Look.{in_row, same}
use Rattle.wm_tree.specs.Sound.{FitPlans, IsSound}
use Rattle.wm_forest.specs.SoundRow.{IsSoundRow, outputs, ranked, tally, times}
use Rattle.wm_forest.specs.RootId.{id, root}
use Rattle.wm_tree.specs.TreeValue.{ids_from, opening, opening_outputs}
use Rattle.wm_forest.proofs.RecencyLemmas.{same_self}

-- one where the id is among n from a on
abbrev within : ℕ → ℕ → ConId → ℕ
within a n i = cond (leb a i.0 && ltb i.0 (a + n)) 1 0

abbrev hits : ℕ → ConId → ℕ
hits a i = cond (same (id a) i) 1 0

within_none : (a : ℕ) (i : ConId) → 0 ≡ within a 0 i
within_none a i = grind (arith, nat_tests)

within_step : (a n : ℕ) (i : ConId) → hits a i + within (a + 1) n i ≡ within a (suc n) i
within_step a n i = grind (arith, nat_tests)

zero : (b : Bool) → ◌≡◌ {A = ℕ} (cond b 0 0) 0
zero true = refl
zero false = refl

module _ (inner outer : ℕ) where
  sound_outputs : (k last : ℕ) (plans : List OutputPlan) → FitPlans plans → IsSoundRow outputs true 32 (opening_outputs k last inner outer plans)
  sound_outputs k last [] ok = tt
  sound_outputs k last (plan ∷ plans) ok =
      ((ok.0, rw (same_self (id (last + k)) (id (last + k)) refl) refl, refl), omega arith, (refl, omega arith, tt, tt, tt), tt, sound_outputs (k + 1) last plans ok.1)

  length_outputs : (k last : ℕ) (plans : List OutputPlan) → row_length (opening_outputs k last inner outer plans) ≡ length plans
  length_outputs k last [] = refl
  length_outputs k last (plan ∷ plans) = omega (arith, length_outputs (k + 1) last plans)

  tally_outputs : (k last : ℕ) (plans : List OutputPlan) (i : ConId) → tally i (opening_outputs k last inner outer plans) ≡ within (k + 1) (length plans) i + within (last + k) (length plans) i
  tally_outputs k last [] i = omega (arith, within_none (k + 1) i, within_none (last + k) i)
  tally_outputs k last (plan ∷ plans) i =
      let assoc : last + (k + 1) ≡ last + k + 1 = omega arith in
      let rest : tally i (opening_outputs (k + 1) last inner outer plans) ≡ within (k + 1 + 1) (length plans) i + within (last + k + 1) (length plans) i =
      tally_outputs (k + 1) last plans i ∙ ap (λ z. within (k + 1 + 1) (length plans) i + within z (length plans) i) assoc in
      omega (arith, rest, within_step (k + 1) (length plans) i, within_step (last + k) (length plans) i)

  ranked_outputs : (k last : ℕ) (plans : List OutputPlan) (i : ConId) → ranked i (opening_outputs k last inner outer plans) ≡ within (last + k) (length plans) i
  ranked_outputs k last [] i = within_none (last + k) i
  ranked_outputs k last (plan ∷ plans) i =
      let assoc : last + (k + 1) ≡ last + k + 1 = omega arith in
      let rest : ranked i (opening_outputs (k + 1) last inner outer plans) ≡ within (last + k + 1) (length plans) i = ranked_outputs (k + 1) last plans i ∙ ap (λ z. within z (length plans) i) assoc in
      omega (arith, rest, zero (same (id (k + 1)) i), within_step (last + k) (length plans) i)

  cons_outputs : (k last : ℕ) (plans : List OutputPlan) → con_count (opening_outputs k last inner outer plans) ≡ 0
  cons_outputs k last [] = refl
  cons_outputs k last (plan ∷ plans) = omega (arith, cons_outputs (k + 1) last plans)

  spaces_outputs : (k last : ℕ) (plans : List OutputPlan) → space_count (opening_outputs k last inner outer plans) ≡ length plans
  spaces_outputs k last [] = refl
  spaces_outputs k last (plan ∷ plans) = omega (arith, spaces_outputs (k + 1) last plans)

  marks_outputs : (k last : ℕ) (plans : List OutputPlan) → mark_count (opening_outputs k last inner outer plans) ≡ 0
  marks_outputs k last [] = refl
  marks_outputs k last (plan ∷ plans) = omega (arith, marks_outputs (k + 1) last plans)

  first_output : (last : ℕ) (plans : List OutputPlan) → 1 ≤ length plans → in_row (id 2) (opening_outputs 1 last inner outer plans) ≡ true
  first_output last [] some = absurd (omega arith)
  first_output last (plan ∷ plans) some = refl

times_ids : (n : ℕ) (plans : List OutputPlan) (i : ConId) → times i (ids_from n plans) ≡ within n (length plans) i
times_ids n [] i = within_none n i
times_ids n (plan ∷ plans) i = omega (arith, times_ids (n + 1) plans i, within_step n (length plans) i)

once_each : (n : ℕ) (i : ConId) → hits 1 i + (within 2 n i + within (2 + n) n i) ≤ 1
once_each n i = grind (arith, nat_tests)

none_above : (n : ℕ) (i : ConId) → 2 + 2 * n ≤ i.0 → hits 1 i + (within 2 n i + within (2 + n) n i) ≡ 0
none_above n i above = grind (arith, nat_tests)

none_low : (n : ℕ) → within (2 + n) n nobody ≡ 0
none_low n = grind (arith, nat_tests)

pub sound-opening : (plans : List OutputPlan) (border : Border) (inner outer : ℕ) → 1 ≤ length plans → length plans ≤ 8 → FitPlans plans → IsSound (opening plans border inner outer)
sound-opening plans border inner outer some few ok =
    let n = length plans in
    let last = 1 + n in
    let at : last + 1 ≡ 2 + n = omega arith in
    let ones : (i : ConId) → tally i (opening plans border inner outer).nodes ≡ hits 1 i + (within 2 n i + within (2 + n) n i) =
    λ i. let e : tally i (opening_outputs 1 last inner outer plans) ≡ within 2 n i + within (2 + n) n i = tally_outputs inner outer 1 last plans i ∙ ap (λ z. within 2 n i + within z n i) at in omega (arith, e) in
    record {
      shaped = ((refl, first_output inner outer last plans some, refl), omega (arith, length_outputs inner outer 1 last plans), sound_outputs inner outer 1 last plans ok, tt, tt);
      rooted = refl;
      once = λ i. omega (arith, ones i, once_each n i);
      fresh = λ i above. omega (arith, ones i, none_above n i above);
      low = omega (arith, ones nobody, none_low n);
      above = omega arith;
      known = λ i.
          let e : ranked i (opening_outputs 1 last inner outer plans) ≡ within (2 + n) n i = ranked_outputs inner outer 1 last plans i ∙ ap (λ z. within z n i) at in
          omega (arith, times_ids (2 + n) plans i, e, zero (same root i));
      few = omega (arith, cons_outputs inner outer 1 last plans);
      few_spaces = omega (arith, spaces_outputs inner outer 1 last plans);
      few_marks = omega (arith, marks_outputs inner outer 1 last plans);
      ids = omega arith;
    }
