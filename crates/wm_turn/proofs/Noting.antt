-- Noting the count keeps the rule: the value is taken, and the whole history is seen.
use Rattle.std.proofs.Common.{◌≡◌, ℕ, ◌<◌, ◌≤◌, ◌%◌, ◌^◌, List, [], ◌∷◌, set, length, Option, None, Some, refl, ap, sym, ◌∙◌, subst, arith, inl}
use Rattle.std.specs.Prelude.{slice_set}
use Rattle.std.specs.List.{sum_by}
use mathlib.Core.Option as slot
use lib.ListN.{get_elem?}
use Rattle.atomic_table.specs.Table.{State, Me, step, takes, Allows}
use Rattle.wm_turn.specs.declared.view.Entry.{Entry}
use Rattle.wm_turn.specs.declared.view.Stage.{Stage}
use Rattle.wm_turn.specs.declared.view.Stage.TheVariants.{Idle, Waits, Turn, Noted}
use Rattle.wm_turn.specs.declared.view.View.{View}
use Rattle.wm_turn.specs.Rule.{has_ticket, has_any, has_slot, IsServed, Fits, IsHome, IsKept}
use Rattle.wm_turn.specs.Told.{noted_stage, notes}
use Rattle.wm_turn.proofs.Fitting.{fits_note}
use Rattle.wm_turn.proofs.Numbers.{numbered_set, seen_set}
use Rattle.wm_turn.proofs.Owing.{Owes, slotted}
use Rattle.wm_turn.proofs.Queues.{same_ticket, ticketed, all_set, queued_set, held_within}
use Rattle.wm_turn.proofs.Sums.{sum_set, sum_more}

-- who holds the slot has the ticket that is served
slot_served : (serving : ℕ) (stage : Stage) → IsServed serving stage → has_slot stage ≤ has_ticket serving stage
slot_served serving Idle served = omega arith
slot_served serving (Waits ticket) served = omega arith
slot_served serving (Turn ticket) served = omega arith
slot_served serving (Noted ticket) served = omega (arith, subst (λ k. has_ticket k (Noted ticket) ≡ 1) served (same_ticket ticket))

module _ {V O S Q : Type 0} (opening_of : V → O) (stands : V → List (Entry S) → Type 0) (seats : ℕ) (opening : O) where
  abbrev Rule : State (Option V) (View O S Q) → Type 0
  Rule = IsKept opening_of stands seats opening

  module _ (slots id : ℕ) (me : Me (Option V) (View O S Q)) (ticket : ℕ) (turn : me.0.stage ≡ Turn ticket) (live : 0 < me.0.parts) (s : State (Option V) (View O S Q)) (kept : Rule s) (at : get_elem? s.views id ≡ slot.some me.0) where
    abbrev w : View O S Q
    w = record me.0 { stage = noted_stage me.0.stage; seen = kept.history }

    mine : Fits opening seats kept.spare kept.serving kept.history me.0
    mine = kept.fit id me.0 at

    is_served : ticket ≡ kept.serving
    is_served = subst (IsServed kept.serving) turn mine.served

    has_it : has_ticket kept.serving me.0.stage ≡ 1
    has_it = ap (has_ticket kept.serving) turn ∙ subst (λ k. has_ticket k (Turn ticket) ≡ 1) is_served (same_ticket ticket)

    none_noted : sum_by slotted s.views ≡ 0
    none_noted =
        let within = held_within kept.ticket kept.serving kept.serving s.views id me.0 at has_it kept.queued in
        omega (
          arith,
          kept.queued.out kept.serving within.0 within.1,
          sum_more slotted (ticketed kept.serving) 1 s.views id me.0 (λ j u there. slot_served kept.serving u.stage (kept.fit j u there).served) at
              (omega (arith, ap has_slot turn, has_it)),
        )

    stage_is : w.stage ≡ Noted ticket
    stage_is = ap noted_stage turn

    one_noted : sum_by slotted (set s.views id w) ≡ 1
    one_noted = omega (arith, sum_set slotted s.views id me.0 w at, none_noted, ap has_slot turn, ap has_slot stage_is)

    w_fits : Fits opening seats kept.spare kept.serving kept.history w
    w_fits = subst (λ stage. Fits opening seats kept.spare kept.serving kept.history (record me.0 { stage = stage; seen = kept.history })) (sym stage_is)
        (fits_note opening seats kept.spare kept.serving kept.history me.0 ticket mine is_served live)

    notes_home : (home : slot.Option (Option V)) → s.homes ≡ home ∷ [] → IsHome opening_of stands opening kept.history (sum_by slotted s.views) home
        → Owes Rule s id me 2 (λ n. n) (notes opening_of stands (step slots 2 0 0 slot.none) me) (kept.ticket % 2 ^ 64 ∷ kept.serving % 2 ^ 64 ∷ length kept.history ∷ [])
    notes_home slot.none homes_are home_is = absurd (omega (arith, home_is, none_noted))
    notes_home (slot.some None) homes_are home_is = absurd home_is
    notes_home (slot.some (Some value)) homes_are home_is = (
      w,
      takes 0 (Some value),
      ap (λ homes. get_elem? homes 0) homes_are,
      record {
        history = kept.history;
        ticket = kept.ticket;
        serving = kept.serving;
        spare = kept.spare;
        home = slot.none;
        words_are = refl;
        few = kept.few;
        few_seats = kept.few_seats;
        homes_are = ap (λ homes. slice_set homes 0 slot.none) homes_are;
        home_is = one_noted;
        queued = queued_set kept.ticket kept.serving s.views id me.0 w at
            (λ number. ap (has_ticket number) stage_is ∙ sym (ap (has_ticket number) turn)) (ap has_any stage_is ∙ sym (ap has_any turn)) kept.queued;
        numbered = numbered_set seats kept.spare kept.history kept.history s.views id me.0 w at refl refl (λ number. refl) kept.numbered.entries_below kept.numbered;
        fit = all_set (Fits opening seats kept.spare kept.serving kept.history) s.views id w (λ j u apart there. kept.fit j u there) w_fits;
        seen = seen_set kept.history kept.history s.views id me.0 w at live (inl refl) kept.seen;
      },
      (
        value,
        record {
          after_is = refl;
          begins = mine.seen_begins;
          count_is = refl;
          few = kept.few;
          calls = mine.calls_made;
          opening_is = mine.opening_is live ∙ ap Some (sym home_is.1);
          stands_for = home_is.2;
        },
        refl,
      ),
    )

  pub notes_allowed : (slots id : ℕ) (me : Me (Option V) (View O S Q)) (ticket : ℕ) → me.0.stage ≡ Turn ticket → 0 < me.0.parts
      → Allows Rule slots id me 2 (λ n. n) (notes opening_of stands (step slots 2 0 0 slot.none) me)
  notes_allowed slots id me ticket turn live s kept sized at range =
      subst (Owes Rule s id me 2 (λ n. n) (notes opening_of stands (step slots 2 0 0 slot.none) me)) (sym kept.words_are)
      (notes_home slots id me ticket turn live s kept at kept.home kept.homes_are kept.home_is)
