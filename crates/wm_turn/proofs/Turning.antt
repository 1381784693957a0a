-- Drawing a ticket, waiting for the turn and noting the count keep the rule.
use Rattle.std.proofs.Common.{◌≡◌, ℕ, ◌+◌, ◌<◌, ◌≤◌, ◌==◌, ◌%◌, ◌^◌, Bool, true, false, List, [], ◌∷◌, set, length, Option, refl, ap, sym, ◌∙◌, subst, arith, inr}
use Rattle.std.specs.Prelude.{if◌then◌else◌, slice_set}
use Rattle.std.specs.List.{sum_by}
use Rattle.std.proofs.lemmas.Bool.Decides.{nat_tests}
use mathlib.Core.Option as slot
use lib.ListN.{get_elem?}
use Rattle.atomic_table.specs.Table.{State, Me, step, keeps, Allows}
use Rattle.atomic_table.proofs.Lists.{one_turn}
use Rattle.wm_turn.specs.declared.view.Entry.{Entry}
use Rattle.wm_turn.specs.declared.view.Stage.{Stage}
use Rattle.wm_turn.specs.declared.view.Stage.TheVariants.{Idle, Waits, Turn}
use Rattle.wm_turn.specs.declared.view.View.{View}
use Rattle.wm_turn.specs.Rule.{has_ticket, has_any, has_slot, IsServed, HasSeenAll, Fits, IsKept}
use Rattle.wm_turn.specs.Told.{stage_at, draws, watches}
use Rattle.wm_turn.proofs.Fitting.{fits_stage}
use Rattle.wm_turn.proofs.Numbers.{numbered_set, seen_set}
use Rattle.wm_turn.proofs.Owing.{Owes, home_same, slotted}
use Rattle.wm_turn.proofs.Queues.{same_ticket, all_set, queued_set, queued_draw, held_within}
use Rattle.wm_turn.proofs.Sums.{sum_set, sum_more}

module _ {V O S Q : Type 0} (opening_of : V → O) (stands : V → List (Entry S) → Type 0) (seats : ℕ) (opening : O) where
  abbrev Rule : State (Option V) (View O S Q) → Type 0
  Rule = IsKept opening_of stands seats opening

  pub draws_allowed : (slots id : ℕ) (me : Me (Option V) (View O S Q)) → me.0.stage ≡ Idle → 0 < me.0.parts
      → Allows Rule slots id me 0 (λ n. (n + 1) % 2 ^ 64) (draws (step slots 0 1 0 slot.none) me)
  draws_allowed slots id me idle live s kept sized at range =
      let w : View O S Q = record me.0 { stage = Waits kept.ticket } in
      subst (Owes Rule s id me 0 (λ n. (n + 1) % 2 ^ 64) (draws (step slots 0 1 0 slot.none) me)) (sym kept.words_are) (
        w,
        keeps,
        tt,
        record {
          history = kept.history;
          ticket = kept.ticket + 1;
          serving = kept.serving;
          spare = kept.spare;
          home = kept.home;
          words_are = ap (λ (n : ℕ). n ∷ kept.serving % 2 ^ 64 ∷ length kept.history ∷ []) next;
          few = kept.few;
          few_seats = kept.few_seats;
          homes_are = kept.homes_are;
          home_is = home_same opening_of stands opening kept.history (sum_by slotted s.views) (sum_by slotted (set s.views id w)) kept.home
              (omega (arith, sum_set slotted s.views id me.0 w at, ap has_slot idle)) kept.home_is;
          queued = queued_draw kept.ticket kept.serving s.views id me.0 w at idle refl kept.queued;
          numbered = numbered_set seats kept.spare kept.history kept.history s.views id me.0 w at refl refl (λ number. refl) kept.numbered.entries_below kept.numbered;
          fit = all_set (Fits opening seats kept.spare kept.serving kept.history) s.views id w (λ j u apart there. kept.fit j u there)
              (fits_stage opening seats kept.spare kept.serving kept.history me.0 (Waits kept.ticket) (kept.fit id me.0 at) tt tt (omega (arith, live)));
          seen = seen_set kept.history kept.history s.views id me.0 w at live (inr ((λ all. all), refl)) kept.seen;
        },
        (kept.ticket, refl, refl),
      )
    where
      next : (kept.ticket % 2 ^ 64 + 1) % 2 ^ 64 ≡ (kept.ticket + 1) % 2 ^ 64
      next = omega arith

  -- a view that goes on to the turn, or waits on, keeps the rule
  stays : (s : State (Option V) (View O S Q)) (kept : Rule s) (id : ℕ) (v : View O S Q) (stage : Stage) → get_elem? s.views id ≡ slot.some v
      → ((number : ℕ) → has_ticket number stage ≡ has_ticket number v.stage) → has_any stage ≡ has_any v.stage → has_slot stage ≡ has_slot v.stage
      → IsServed kept.serving stage → HasSeenAll kept.history stage v.seen → 0 < v.parts
      → Rule (record { words = kept.ticket % 2 ^ 64 ∷ kept.serving % 2 ^ 64 ∷ length kept.history ∷ []; homes = s.homes; views = slice_set s.views id (record v { stage = stage }) })
  stays s kept id v stage at tickets any slots served all live = record {
    history = kept.history;
    ticket = kept.ticket;
    serving = kept.serving;
    spare = kept.spare;
    home = kept.home;
    words_are = refl;
    few = kept.few;
    few_seats = kept.few_seats;
    homes_are = kept.homes_are;
    home_is = home_same opening_of stands opening kept.history (sum_by slotted s.views) (sum_by slotted (set s.views id w)) kept.home
        (omega (arith, sum_set slotted s.views id v w at, slots)) kept.home_is;
    queued = queued_set kept.ticket kept.serving s.views id v w at tickets any kept.queued;
    numbered = numbered_set seats kept.spare kept.history kept.history s.views id v w at refl refl (λ number. refl) kept.numbered.entries_below kept.numbered;
    fit = all_set (Fits opening seats kept.spare kept.serving kept.history) s.views id w (λ j u apart there. kept.fit j u there)
        (fits_stage opening seats kept.spare kept.serving kept.history v stage (kept.fit id v at) served all (omega (arith, any, (kept.fit id v at).some_parts)));
    seen = seen_set kept.history kept.history s.views id v w at live (inr ((λ all. all), refl)) kept.seen;
  }
    where
      w : View O S Q
      w = record v { stage = stage }

  -- a ticket that is held and has the number that is served, modulo 2 ^ 64, is the one that is served
  its_turn : (s : State (Option V) (View O S Q)) (kept : Rule s) (id : ℕ) (v : View O S Q) (ticket : ℕ) → get_elem? s.views id ≡ slot.some v
      → v.stage ≡ Waits ticket → kept.serving % 2 ^ 64 ≡ ticket % 2 ^ 64 → ticket ≡ kept.serving
  its_turn s kept id v ticket at waits same =
      let has : has_ticket ticket v.stage ≡ 1 = ap (has_ticket ticket) waits ∙ same_ticket ticket in
      let within = held_within kept.ticket kept.serving ticket s.views id v at has kept.queued in
      let few : sum_by (λ (u : View O S Q). has_any u.stage) s.views + 0 ≤ sum_by (λ (u : View O S Q). u.parts) s.views =
      sum_more (λ (u : View O S Q). has_any u.stage) (λ (u : View O S Q). u.parts) 0 s.views id v (λ j u there. (kept.fit j u there).some_parts) at (omega (arith, (kept.fit id v at).some_parts)) in
      sym (one_turn kept.serving ticket (2 ^ 64) within.0 (omega (arith, within.1, few, kept.numbered.parts_are, kept.few_seats, kept.queued.waiting)) same)

  pub watches_allowed : (slots id : ℕ) (me : Me (Option V) (View O S Q)) (ticket : ℕ) → me.0.stage ≡ Waits ticket → 0 < me.0.parts
      → Allows Rule slots id me 1 (λ n. n) (watches (step slots 1 0 0 slot.none) me)
  watches_allowed slots id me ticket waits live s kept sized at range =
      subst (Owes Rule s id me 1 (λ n. n) (watches (step slots 1 0 0 slot.none) me)) (sym kept.words_are) (
        record me.0 { stage = stage_at (kept.serving % 2 ^ 64) me.0.stage },
        keeps,
        tt,
        subst
            (λ stage. Rule (record { words = kept.ticket % 2 ^ 64 ∷ kept.serving % 2 ^ 64 ∷ length kept.history ∷ []; homes = s.homes; views = slice_set s.views id (record me.0 { stage = stage_at (kept.serving % 2 ^ 64) stage }) }))
            (sym waits)
            (cases (kept.serving % 2 ^ 64 == ticket % 2 ^ 64) refl),
        refl,
      )
    where
      has : (number : ℕ) → has_ticket number (Waits ticket) ≡ has_ticket number me.0.stage
      has number = sym (ap (has_ticket number) waits)

      cases : (b : Bool) → (kept.serving % 2 ^ 64 == ticket % 2 ^ 64) ≡ b
          → Rule (record { words = kept.ticket % 2 ^ 64 ∷ kept.serving % 2 ^ 64 ∷ length kept.history ∷ []; homes = s.homes; views = slice_set s.views id (record me.0 { stage = if b then Turn ticket else Waits ticket }) })
      cases true is =
          let same : kept.serving % 2 ^ 64 ≡ ticket % 2 ^ 64 = grind (arith, nat_tests) in
          stays s kept id me.0 (Turn ticket) at has (sym (ap has_any waits)) (sym (ap has_slot waits)) (its_turn s kept id me.0 ticket at waits same) tt live
      cases false is = stays s kept id me.0 (Waits ticket) at has (sym (ap has_any waits)) (sym (ap has_slot waits)) tt tt live
