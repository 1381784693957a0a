-- Each view fits the rule after each kind of step.
use Rattle.std.proofs.Common.{◌≡◌, ◌≢◌, ℕ, ◌+◌, ◌<◌, ◌≤◌, ◌==◌, List, [], ◌∷◌, length, Option, None, Some, refl, ap, sym, ◌∙◌, subst, arith}
use Rattle.std.specs.List.{All, sum_by}
use Rattle.std.proofs.lemmas.Bool.Decides.{nat_tests}
use Rattle.std.proofs.lemmas.List.Elements.{All-nil, All-cons, All-head, All-tail, All-weaker}
use Rattle.std.proofs.lemmas.List.Sums.{sum_by-cons}
use Rattle.wm_turn.specs.declared.view.Calls.{Calls}
use Rattle.wm_turn.specs.declared.view.Entry.{Entry}
use Rattle.wm_turn.specs.declared.view.Stage.{Stage}
use Rattle.wm_turn.specs.declared.view.Stage.TheVariants.{Idle, Waits, Turn, Noted}
use Rattle.wm_turn.specs.declared.view.View.{View}
use Rattle.wm_turn.specs.History.{Begins}
use Rattle.wm_turn.specs.Rule.{one_if, has_ticket, has_any, IsServed, HasSeenAll, AreCalls, is_of, own_calls, calls_of, holds, Fits}
use Rattle.wm_turn.specs.Told.{logged, passed_on}
use Rattle.wm_turn.proofs.Histories.{begins_self, begins_trans, begins_entry, places_own, places_other}
use Rattle.wm_turn.proofs.Queues.{same_ticket}

-- who has another ticket than the one that is served waits for it
served_on : (serving : ℕ) (stage : Stage) → IsServed serving stage → has_ticket serving stage ≡ 0 → IsServed (serving + 1) stage
served_on serving Idle served none = tt
served_on serving (Waits ticket) served none = tt
served_on serving (Turn ticket) served none = absurd (omega (arith, none, subst (λ k. one_if (k == serving) ≡ 1) (sym served) (same_ticket serving)))
served_on serving (Noted ticket) served none = absurd (omega (arith, none, subst (λ k. one_if (k == serving) ≡ 1) (sym served) (same_ticket serving)))

seen_all_on : {S : Type 0} (serving : ℕ) (stage : Stage) (seen history : List (Entry S)) → IsServed serving stage → has_ticket serving stage ≡ 0 → HasSeenAll history stage seen
seen_all_on serving Idle seen history served none = tt
seen_all_on serving (Waits ticket) seen history served none = tt
seen_all_on serving (Turn ticket) seen history served none = tt
seen_all_on serving (Noted ticket) seen history served none = absurd (omega (arith, none, subst (λ k. one_if (k == serving) ≡ 1) (sym served) (same_ticket serving)))

other_number : (who : ℕ) (calls : Calls) → is_of who calls ≡ 0 → who ≢ calls.caller
other_number who calls none same = absurd (omega (arith, none, subst (λ k. one_if (calls.caller == k) ≡ 1) (sym same) (same_ticket calls.caller)))

-- an entry of another number leaves the calls as they are
pub calls_on : {S : Type 0} (entry : Entry S) (history : List (Entry S)) (list : List Calls) → sum_by (is_of entry.who) list ≡ 0 → All (AreCalls history) list → All (AreCalls (entry ∷ history)) list
calls_on entry history [] none all = All-nil (AreCalls (entry ∷ history))
calls_on entry history (calls ∷ list) none all =
    let sums = sum_by-cons (is_of entry.who) calls list in
    All-cons (AreCalls (entry ∷ history)) calls list
    (places_other calls.caller entry history (other_number entry.who calls (omega (arith, sums, none))) ∙ All-head (AreCalls history) calls list all)
    (calls_on entry history list (omega (arith, sums, none)) (All-tail (AreCalls history) calls list all))

module _ {O S Q : Type 0} where
  pub calls_live : (v : View O S Q) → 0 < v.parts → calls_of v ≡ own_calls v ∷ v.old_calls
  calls_live v live = grind (arith, nat_tests)

  pub holds_own : (v : View O S Q) → 0 < v.parts → holds v.caller v ≡ 1 + sum_by (is_of v.caller) v.old_calls
  holds_own v live =
      ap (sum_by (is_of v.caller)) (calls_live v live)
      ∙ (sum_by-cons (is_of v.caller) (own_calls v) v.old_calls ∙ ap (λ k. k + sum_by (is_of v.caller) v.old_calls) (same_ticket v.caller))

  module _ (opening : O) (seats spare serving : ℕ) where
    -- ---- the other views

    pub fits_pass : (history : List (Entry S)) (u : View O S Q) → Fits opening seats spare serving history u → has_ticket serving u.stage ≡ 0 → Fits opening seats spare (serving + 1) history u
    fits_pass history u fits none = record {
      served = served_on serving u.stage fits.served none;
      seen_begins = fits.seen_begins;
      seen_all = fits.seen_all;
      old_begin = fits.old_begin;
      calls_seen = fits.calls_seen;
      calls_made = fits.calls_made;
      opening_is = fits.opening_is;
      seats_is = fits.seats_is;
      some_parts = fits.some_parts;
      spare_below = fits.spare_below;
      only_spare = fits.only_spare;
    }

    pub fits_log : (entry : Entry S) (history : List (Entry S)) (u : View O S Q) → Fits opening seats spare serving history u → has_ticket serving u.stage ≡ 0 → holds entry.who u ≡ 0 → Fits opening seats spare serving (entry ∷ history) u
    fits_log entry history u fits none apart = record {
      served = fits.served;
      seen_begins = begins_entry entry u.seen history fits.seen_begins;
      seen_all = seen_all_on serving u.stage u.seen (entry ∷ history) fits.served none;
      old_begin = fits.old_begin;
      calls_seen = fits.calls_seen;
      calls_made = calls_on entry history (calls_of u) apart fits.calls_made;
      opening_is = fits.opening_is;
      seats_is = fits.seats_is;
      some_parts = fits.some_parts;
      spare_below = fits.spare_below;
      only_spare = fits.only_spare;
    }

    -- ---- the view that steps

    pub fits_stage : (history : List (Entry S)) (v : View O S Q) (stage : Stage) → Fits opening seats spare serving history v
        → IsServed serving stage → HasSeenAll history stage v.seen → has_any stage ≤ v.parts → Fits opening seats spare serving history (record v { stage = stage })
    fits_stage history v stage fits served all parts = record {
      served = served;
      seen_begins = fits.seen_begins;
      seen_all = all;
      old_begin = fits.old_begin;
      calls_seen = fits.calls_seen;
      calls_made = fits.calls_made;
      opening_is = fits.opening_is;
      seats_is = fits.seats_is;
      some_parts = parts;
      spare_below = fits.spare_below;
      only_spare = fits.only_spare;
    }

    pub fits_note : (history : List (Entry S)) (v : View O S Q) (ticket : ℕ) → Fits opening seats spare serving history v
        → ticket ≡ serving → 0 < v.parts → Fits opening seats spare serving history (record v { stage = Noted ticket; seen = history })
    fits_note history v ticket fits served live = record {
      served = served;
      seen_begins = begins_self history;
      seen_all = refl;
      old_begin = All-weaker (λ old. Begins old v.seen) (λ old. Begins old history) (λ old p. begins_trans old v.seen history p fits.seen_begins) v.old_seen fits.old_begin;
      calls_seen = fits.calls_made;
      calls_made = fits.calls_made;
      opening_is = fits.opening_is;
      seats_is = fits.seats_is;
      some_parts = omega (arith, live);
      spare_below = fits.spare_below;
      only_spare = fits.only_spare;
    }

    pub fits_own : (step : S) (v : View O S Q) (ticket : ℕ) → Fits opening seats spare serving v.seen v
        → v.stage ≡ Noted ticket → 0 < v.parts → sum_by (is_of v.caller) v.old_calls ≡ 0
        → Fits opening seats spare serving (record { who = v.caller; step = step } ∷ v.seen) (logged (Some step) v)
    fits_own step v ticket fits noted live none = record {
      served = fits.served;
      seen_begins = begins_self (entry ∷ v.seen);
      seen_all = subst (λ stage. HasSeenAll (entry ∷ v.seen) stage (entry ∷ v.seen)) (sym noted) refl;
      old_begin = All-weaker (λ old. Begins old v.seen) (λ old. Begins old (entry ∷ v.seen)) (λ old p. begins_entry entry old v.seen p) v.old_seen fits.old_begin;
      calls_seen = calls;
      calls_made = calls;
      opening_is = fits.opening_is;
      seats_is = fits.seats_is;
      some_parts = fits.some_parts;
      spare_below = fits.spare_below;
      only_spare = fits.only_spare;
    }
      where
        entry : Entry S
        entry = record { who = v.caller; step = step }

        mine : All (AreCalls v.seen) (own_calls v ∷ v.old_calls)
        mine = subst (All (AreCalls v.seen)) (calls_live v live) fits.calls_seen

        calls : All (AreCalls (entry ∷ v.seen)) (calls_of (logged (Some step) v))
        calls = subst (All (AreCalls (entry ∷ v.seen))) (sym (calls_live (logged (Some step) v) live))
            (All-cons (AreCalls (entry ∷ v.seen)) (own_calls (logged (Some step) v)) v.old_calls
            (places_own entry v.seen ∙ ap (λ ps. length v.seen ∷ ps) (All-head (AreCalls v.seen) (own_calls v) v.old_calls mine))
            (calls_on entry v.seen v.old_calls none (All-tail (AreCalls v.seen) (own_calls v) v.old_calls mine)))

    pub fits_passed : (said : Option Q) (history : List (Entry S)) (v : View O S Q) → Fits opening seats spare serving history v → Fits opening seats spare (serving + 1) history (passed_on said v)
    fits_passed None history v fits = record {
      served = tt;
      seen_begins = fits.seen_begins;
      seen_all = tt;
      old_begin = fits.old_begin;
      calls_seen = fits.calls_seen;
      calls_made = fits.calls_made;
      opening_is = fits.opening_is;
      seats_is = fits.seats_is;
      some_parts = omega arith;
      spare_below = fits.spare_below;
      only_spare = fits.only_spare;
    }
    fits_passed (Some question) history v fits = record {
      served = tt;
      seen_begins = fits.seen_begins;
      seen_all = tt;
      old_begin = fits.old_begin;
      calls_seen = fits.calls_seen;
      calls_made = fits.calls_made;
      opening_is = fits.opening_is;
      seats_is = fits.seats_is;
      some_parts = omega arith;
      spare_below = fits.spare_below;
      only_spare = fits.only_spare;
    }
