-- A turnstile begins with its rule.
use Rattle.std.proofs.Common.{◌≡◌, ℕ, zero, suc, ◌+◌, ◌-◌, ◌<◌, ◌≤◌, ◌==◌, List, [], ◌∷◌, map, Option, Some, refl, ap, sym, subst, arith}
use Rattle.std.specs.List.{All, sum_by}
use Rattle.std.proofs.lemmas.Bool.Decides.{nat_tests}
use Rattle.std.proofs.lemmas.List.Elements.{All-nil, All-cons}
use Rattle.std.proofs.lemmas.List.Sums.{sum_by-cons}
use mathlib.Core.Option as slot
use lib.ListN.{get_elem?}
use Rattle.atomic_table.specs.Table.{State}
use Rattle.atomic_table.specs.Table as table
use Rattle.wm_turn.specs.declared.view.Entry.{Entry}
use Rattle.wm_turn.specs.declared.view.View.{View}
use Rattle.wm_turn.specs.History.{Begins}
use Rattle.wm_turn.specs.Rule.{one_if, AreCalls, is_of, own_calls, calls_of, holds, Fits, IsKept, first_view}
use Rattle.wm_turn.proofs.Fitting.{calls_live}
use Rattle.wm_turn.proofs.Owing.{slotted}
use Rattle.wm_turn.proofs.Queues.{ticketed, any_ticket}
use Rattle.wm_turn.proofs.Numbers.{parts_of, spare_of}

one_most : (a b : ℕ) → one_if (a == b) ≤ 1
one_most a b = grind (arith, nat_tests)

one_same : (a b : ℕ) → 0 < one_if (a == b) → a ≡ b
one_same a b some = grind (arith, nat_tests)

module _ {V O S : Type 0} (Q : Type 0) (opening_of : V → O) (stands : V → List (Entry S) → Type 0) (seats : ℕ) (opening : O) (some : 1 ≤ seats) where
  abbrev first : View O S Q
  first = first_view seats opening

  alone : (f : View O S Q → ℕ) → sum_by f (first ∷ []) ≡ f first
  alone f = omega (arith, sum_by-cons f first [])

  first_holds : (number : ℕ) → sum_by (holds number) (first ∷ []) ≡ one_if (0 == number)
  first_holds number =
      omega (arith, alone (holds number), ap (sum_by (is_of number)) (calls_live first (omega (arith, some))), sum_by-cons (is_of number) (own_calls first) [])

  no_calls : All (AreCalls (first.seen)) (calls_of first)
  no_calls = subst (All (AreCalls first.seen)) (sym (calls_live first (omega (arith, some))))
      (All-cons (AreCalls first.seen) (own_calls first) [] refl (All-nil (AreCalls first.seen)))

  first_fits : Fits opening seats (seats - 1) 0 first.seen first
  first_fits = record {
    served = tt;
    seen_begins = ([], refl);
    seen_all = tt;
    old_begin = All-nil (λ old. Begins old first.seen);
    calls_seen = no_calls;
    calls_made = no_calls;
    opening_is = λ _. refl;
    seats_is = λ _. refl;
    some_parts = omega arith;
    spare_below = λ _. omega (arith, some);
    only_spare = λ _. refl;
  }

  all_fit : (j : ℕ) (u : View O S Q) → get_elem? (first ∷ []) j ≡ slot.some u → Fits opening seats (seats - 1) 0 first.seen u
  all_fit zero u there = subst (Fits opening seats (seats - 1) 0 first.seen) (slot.some-injective first u there) first_fits
  all_fit (suc j) u there = absurd (slot.some-ne-none u (sym there))

  pub opens : (value : V) (slots : List (Option V)) → seats ≤ 4096 → slots ≡ Some value ∷ [] → opening_of value ≡ opening → stands value []
      → IsKept opening_of stands seats opening (table.opening (0 ∷ 0 ∷ 0 ∷ []) slots first)
  opens value slots few are is stands_for = record {
    history = [];
    ticket = 0;
    serving = 0;
    spare = seats - 1;
    home = slot.some (Some value);
    words_are = refl;
    few = omega arith;
    few_seats = few;
    homes_are = ap (λ (xs : List (Option V)). map slot.some xs) are;
    home_is = (alone slotted, is, stands_for);
    queued = record {
      gone = λ number lt. absurd (omega (arith, lt));
      out = λ number le lt. absurd (omega (arith, lt));
      to_come = λ number le. alone (ticketed number);
      waiting = alone any_ticket;
    };
    numbered = record {
      parts_are = alone parts_of;
      spare_is = alone spare_of;
      once = λ number. omega (arith, first_holds number, one_most 0 number);
      below = λ number held. let same : 0 ≡ number = one_same 0 number (omega (arith, first_holds number, held)) in omega (arith, same, some);
      entries_below = All-nil (λ (entry : Entry S). entry.who + (seats - 1) < seats);
    };
    fit = all_fit;
    seen = record { by = 0; view = first; there = refl; live = omega (arith, some); all = refl };
  }
