-- Adding an entry and passing the turn on keep the rule.
use Rattle.std.proofs.Common.{◌≡◌, ◌≢◌, ℕ, ◌+◌, ◌<◌, ◌≤◌, ◌==◌, ◌%◌, ◌^◌, Bool, true, false, List, [], ◌∷◌, length, Option, None, Some, refl, ap, sym, ◌∙◌, subst, arith, inl}
use Rattle.std.specs.Prelude.{if◌then◌else◌, slice_set}
use Rattle.std.specs.List.{All, sum_by}
use Rattle.std.proofs.lemmas.List.Elements.{All-cons}
use Rattle.std.proofs.lemmas.List.Sums.{sum_by-cons}
use mathlib.Core.Option as slot
use lib.ListN.{get_elem?}
use Rattle.atomic_table.specs.Table.{State, Me, step, keeps, gives, put_back, Allows}
use Rattle.wm_turn.specs.declared.view.Calls.{Calls}
use Rattle.wm_turn.specs.declared.view.Entry.{Entry}
use Rattle.wm_turn.specs.declared.view.Stage.TheVariants.{Idle, Noted}
use Rattle.wm_turn.specs.declared.view.View.{View}
use Rattle.wm_turn.specs.Rule.{one_if, has_ticket, has_slot, is_of, own_calls, holds, IsServed, HasSeenAll, Fits, IsHome, IsKept}
use Rattle.wm_turn.specs.Told.{logged, passed_on, logs, passes_on}
use Rattle.wm_turn.proofs.Fitting.{fits_log, fits_own, fits_pass, fits_passed, holds_own}
use Rattle.wm_turn.proofs.Numbers.{numbered_set, seen_set}
use Rattle.wm_turn.proofs.Owing.{Owes, slotted}
use Rattle.wm_turn.proofs.Queues.{same_ticket, all_set, queued_set, queued_pass, held_once}
use Rattle.wm_turn.proofs.Sums.{sum_set, one_at, two_at}

-- where a view has noted the slot is out
slot_out : {V O S : Type 0} (opening_of : V → O) (stands : V → List (Entry S) → Type 0) (opening : O) (history : List (Entry S)) (noted : ℕ) (home : slot.Option (Option V))
    → IsHome opening_of stands opening history noted home → 1 ≤ noted → (home ≡ slot.none) × (noted ≡ 1)
slot_out opening_of stands opening history noted slot.none is some_noted = (refl, is)
slot_out opening_of stands opening history noted (slot.some None) is some_noted = absurd is
slot_out opening_of stands opening history noted (slot.some (Some value)) is some_noted = absurd (omega (arith, is.0, some_noted))

-- what passing on leaves as it was
passed_keeps : {O S Q : Type 0} (said : Option Q) (v : View O S Q)
    → ((passed_on said v).stage ≡ Idle) × ((passed_on said v).parts ≡ v.parts) × ((passed_on said v).spare ≡ v.spare) × ((passed_on said v).seen ≡ v.seen) × ((number : ℕ) → holds number (passed_on said v) ≡ holds number v)
passed_keeps None v = (refl, refl, refl, refl, λ number. refl)
passed_keeps (Some question) v = (refl, refl, refl, refl, λ number. refl)

own_number : (number : ℕ) (own more : Calls) (old : List Calls) (b : Bool) → own.caller ≡ more.caller → sum_by (is_of number) (if b then [] else more ∷ old) ≡ sum_by (is_of number) (if b then [] else own ∷ old)
own_number number own more old true same = refl
own_number number own more old false same =
    sum_by-cons (is_of number) more old ∙ (ap (λ k. one_if (k == number) + sum_by (is_of number) old) (sym same) ∙ sym (sum_by-cons (is_of number) own old))

-- an entry adds no number
logged_holds : {O S Q : Type 0} (number : ℕ) (said : S) (v : View O S Q) → holds number (logged (Some said) v) ≡ holds number v
logged_holds number said v = own_number number (own_calls v) (own_calls (logged (Some said) v)) v.old_calls (v.parts == 0) refl

module _ {V O S Q : Type 0} (opening_of : V → O) (stands : V → List (Entry S) → Type 0) (seats : ℕ) (opening : O) where
  abbrev Rule : State (Option V) (View O S Q) → Type 0
  Rule = IsKept opening_of stands seats opening

  module _ (slots id : ℕ) (me : Me (Option V) (View O S Q)) (ticket : ℕ) (noted : me.0.stage ≡ Noted ticket) (live : 0 < me.0.parts) (s : State (Option V) (View O S Q)) (kept : Rule s) (at : get_elem? s.views id ≡ slot.some me.0) where
    mine : Fits opening seats kept.spare kept.serving kept.history me.0
    mine = kept.fit id me.0 at

    is_served : ticket ≡ kept.serving
    is_served = subst (IsServed kept.serving) noted mine.served

    has_it : has_ticket kept.serving me.0.stage ≡ 1
    has_it = ap (has_ticket kept.serving) noted ∙ subst (λ k. has_ticket k (Noted ticket) ≡ 1) is_served (same_ticket ticket)

    seen_all : me.0.seen ≡ kept.history
    seen_all = subst (λ stage. HasSeenAll kept.history stage me.0.seen) noted mine.seen_all

    out : (kept.home ≡ slot.none) × (sum_by slotted s.views ≡ 1)
    out = slot_out opening_of stands opening kept.history (sum_by slotted s.views) kept.home kept.home_is
        (omega (arith, ap has_slot noted, one_at slotted s.views id me.0 at))

    others_wait : (j : ℕ) (u : View O S Q) → j ≢ id → get_elem? s.views j ≡ slot.some u → has_ticket kept.serving u.stage ≡ 0
    others_wait j u apart there = held_once kept.ticket kept.serving kept.serving s.views id j me.0 u apart at there has_it kept.queued

    holds_one : 1 ≤ holds me.0.caller me.0
    holds_one = omega (arith, holds_own me.0 live)

    -- ---- the entry

    fits_here : Fits opening seats kept.spare kept.serving me.0.seen me.0
    fits_here = subst (λ history. Fits opening seats kept.spare kept.serving history me.0) (sym seen_all) mine

    logged_kept : (said : S) → length me.0.seen < 2 ^ 48
        → Owes Rule s id me 2 (λ n. (n + 1) % 2 ^ 64) (logs (Some said) (step slots 2 1 0 slot.none) me) (kept.ticket % 2 ^ 64 ∷ kept.serving % 2 ^ 64 ∷ length kept.history ∷ [])
    logged_kept said few =
        let entry : Entry S = record { who = me.0.caller; step = said } in
        let w : View O S Q = logged (Some said) me.0 in
        let history : List (Entry S) = entry ∷ me.0.seen in
        let count : (length kept.history + 1) % 2 ^ 64 ≡ length history = omega (arith, ap length seen_all, few) in (
          w,
          keeps,
          tt,
          record {
            history = history;
            ticket = kept.ticket;
            serving = kept.serving;
            spare = kept.spare;
            home = slot.none;
            words_are = ap (λ (n : ℕ). kept.ticket % 2 ^ 64 ∷ kept.serving % 2 ^ 64 ∷ n ∷ []) count;
            few = omega (arith, few);
            few_seats = kept.few_seats;
            homes_are = kept.homes_are ∙ ap (λ home. home ∷ []) out.0;
            home_is = omega (arith, sum_set slotted s.views id me.0 w at, out.1);
            queued = queued_set kept.ticket kept.serving s.views id me.0 w at (λ number. refl) refl kept.queued;
            numbered = numbered_set seats kept.spare kept.history history s.views id me.0 w at refl refl (λ number. logged_holds number said me.0)
                (All-cons (λ (e : Entry S). e.who + kept.spare < seats) entry me.0.seen
                (kept.numbered.below me.0.caller (omega (arith, holds_one, one_at (holds me.0.caller) s.views id me.0 at)))
                (subst (All (λ (e : Entry S). e.who + kept.spare < seats)) (sym seen_all) kept.numbered.entries_below))
                kept.numbered;
            fit = all_set (Fits opening seats kept.spare kept.serving history) s.views id w
                (λ j u apart there. subst (λ h. Fits opening seats kept.spare kept.serving (entry ∷ h) u) (sym seen_all)
                (fits_log opening seats kept.spare kept.serving entry kept.history u (kept.fit j u there) (others_wait j u apart there)
                (omega (arith, holds_one, two_at (holds me.0.caller) s.views id j me.0 u apart at there, kept.numbered.once me.0.caller))))
                (fits_own opening seats kept.spare kept.serving said me.0 ticket fits_here noted live
                (omega (arith, holds_own me.0 live, one_at (holds me.0.caller) s.views id me.0 at, kept.numbered.once me.0.caller)));
            seen = seen_set kept.history history s.views id me.0 w at live (inl refl) kept.seen;
          },
          refl,
        )

    -- ---- the turn

    passed_kept : (said : Option Q) (value : V) → me.1 ≡ (0, Some value) ∷ [] → opening_of value ≡ opening → stands value me.0.seen
        → Owes Rule s id me 1 (λ n. (n + 1) % 2 ^ 64) (passes_on said (step slots 1 1 0 slot.none) me) (kept.ticket % 2 ^ 64 ∷ kept.serving % 2 ^ 64 ∷ length kept.history ∷ [])
    passed_kept said value carried opening_is stands_for =
        let w : View O S Q = passed_on said me.0 in
        let same = passed_keeps said me.0 in
        let noted_here : me.0.stage ≡ Noted kept.serving = noted ∙ ap Noted is_served in
        let next : (kept.serving % 2 ^ 64 + 1) % 2 ^ 64 ≡ (kept.serving + 1) % 2 ^ 64 = omega arith in (
          w,
          gives,
          tt,
          record {
            history = kept.history;
            ticket = kept.ticket;
            serving = kept.serving + 1;
            spare = kept.spare;
            home = slot.some (Some value);
            words_are = ap (λ (n : ℕ). kept.ticket % 2 ^ 64 ∷ n ∷ length kept.history ∷ []) next;
            few = kept.few;
            few_seats = kept.few_seats;
            homes_are = given s.homes me.1 kept.home kept.homes_are carried;
            home_is = (
              omega (arith, sum_set slotted s.views id me.0 w at, out.1, ap has_slot noted, ap has_slot same.0),
              opening_is,
              subst (stands value) seen_all stands_for,
            );
            queued = queued_pass kept.ticket kept.serving s.views id me.0 w at noted_here same.0 kept.queued;
            numbered = numbered_set seats kept.spare kept.history kept.history s.views id me.0 w at same.1 same.2 same.4 kept.numbered.entries_below kept.numbered;
            fit = all_set (Fits opening seats kept.spare (kept.serving + 1) kept.history) s.views id w
                (λ j u apart there. fits_pass opening seats kept.spare kept.serving kept.history u (kept.fit j u there) (others_wait j u apart there))
                (fits_passed opening seats kept.spare kept.serving said kept.history me.0 mine);
            seen = seen_set kept.history kept.history s.views id me.0 w at (omega (arith, same.1, live)) (inl (same.3 ∙ seen_all)) kept.seen;
          },
          refl,
        )
      where
        given : (homes : List (slot.Option (Option V))) (slots : List (ℕ × Option V)) (home : slot.Option (Option V)) → homes ≡ home ∷ [] → slots ≡ (0, Some value) ∷ [] → put_back homes slots ≡ slot.some (Some value) ∷ []
        given homes slots home are is = ap (put_back homes) is ∙ ap (λ hs. slice_set hs 0 (slot.some (Some value))) are

  pub logs_allowed : (slots id : ℕ) (me : Me (Option V) (View O S Q)) (ticket : ℕ) (said : Option S) (entry : S) → said ≡ Some entry → me.0.stage ≡ Noted ticket → 0 < me.0.parts → length me.0.seen < 2 ^ 48
      → Allows Rule slots id me 2 (λ n. (n + 1) % 2 ^ 64) (logs said (step slots 2 1 0 slot.none) me)
  logs_allowed slots id me ticket said entry is noted live few s kept sized at range =
      subst (λ x. Owes Rule s id me 2 (λ n. (n + 1) % 2 ^ 64) (logs x (step slots 2 1 0 slot.none) me) s.words) (sym is)
      (subst (Owes Rule s id me 2 (λ n. (n + 1) % 2 ^ 64) (logs (Some entry) (step slots 2 1 0 slot.none) me)) (sym kept.words_are)
      (logged_kept slots id me ticket noted live s kept at entry few))

  pub passes_allowed : (slots id : ℕ) (me : Me (Option V) (View O S Q)) (ticket : ℕ) (said : Option Q) (value : V) → me.0.stage ≡ Noted ticket → 0 < me.0.parts
      → me.1 ≡ (0, Some value) ∷ [] → me.0.opening ≡ Some (opening_of value) → stands value me.0.seen
      → Allows Rule slots id me 1 (λ n. (n + 1) % 2 ^ 64) (passes_on said (step slots 1 1 0 slot.none) me)
  passes_allowed slots id me ticket said value noted live carried opening_is stands_for s kept sized at range =
      subst (Owes Rule s id me 1 (λ n. (n + 1) % 2 ^ 64) (passes_on said (step slots 1 1 0 slot.none) me)) (sym kept.words_are)
      (passed_kept slots id me ticket noted live s kept at said value carried (cc (opening_is, (kept.fit id me.0 at).opening_is live)) stands_for)
