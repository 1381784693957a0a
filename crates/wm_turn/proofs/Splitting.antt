-- A new seat keeps the rule.
use Rattle.std.proofs.Common.{◌≡◌, ◌≢◌, ℕ, zero, suc, ◌+◌, ◌-◌, ◌<◌, ◌≤◌, ◌==◌, List, [], ◌∷◌, ◌++◌, set, Option, refl, ap, sym, ◌∙◌, subst, arith, inr, ⊎_elim}
use Rattle.std.specs.List.{All, sum_by}
use Rattle.std.proofs.lemmas.List.Elements.{All-nil, All-cons, All-weaker}
use Rattle.std.proofs.lemmas.List.Sums.{sum_by-cons, sum_by_push}
use mathlib.Core.Logic.{dite}
use mathlib.Core.Option as slot
use lib.ListN.{get_elem?}
use native.Mathlib.Decide.{ℕ_discrete}
use Rattle.atomic_table.specs.Table.{State, Splits}
use Rattle.atomic_table.proofs.Lists.{at_longer, at_snoc}
use Rattle.wm_turn.specs.declared.view.Entry.{Entry}
use Rattle.wm_turn.specs.declared.view.Stage.{Stage}
use Rattle.wm_turn.specs.declared.view.Stage.TheVariants.{Idle, Waits, Turn, Noted}
use Rattle.wm_turn.specs.declared.view.View.{View}
use Rattle.wm_turn.specs.History.{Begins, places}
use Rattle.wm_turn.specs.Rule.{one_if, has_any, AreCalls, is_of, own_calls, calls_of, holds, Fits, IsKept, left_by_split, new_by_split}
use Rattle.wm_turn.proofs.Fitting.{calls_live}
use Rattle.wm_turn.proofs.Histories.{places_none, places_before}
use Rattle.wm_turn.proofs.Numbers.{seen_set, parts_of, spare_of}
use Rattle.wm_turn.proofs.Owing.{home_same, slotted}
use Rattle.wm_turn.proofs.Queues.{same_ticket, other_ticket, ticketed, any_ticket, all_set, queued_same}
use Rattle.wm_turn.proofs.Sums.{sum_set, one_at, two_at}

any_one : (stage : Stage) → has_any stage ≤ 1
any_one Idle = omega arith
any_one (Waits ticket) = omega arith
any_one (Turn ticket) = omega arith
any_one (Noted ticket) = omega arith

module _ {V O S Q : Type 0} (opening_of : V → O) (stands : V → List (Entry S) → Type 0) (seats : ℕ) (opening : O) where
  abbrev Rule : State (Option V) (View O S Q) → Type 0
  Rule = IsKept opening_of stands seats opening

  module _ (id : ℕ) (v : View O S Q) (some_spare : 0 < v.spare) (live : 0 < v.parts) (s : State (Option V) (View O S Q)) (kept : Rule s) (at : get_elem? s.views id ≡ slot.some v) where
    abbrev left : View O S Q
    left = left_by_split v

    abbrev right : View O S Q
    right = new_by_split v

    mine : Fits opening seats kept.spare kept.serving kept.history v
    mine = kept.fit id v at

    spare_is : v.spare ≡ kept.spare
    spare_is = mine.only_spare some_spare

    -- the number of the new seat
    number_is : right.caller + kept.spare ≡ seats
    number_is = omega (arith, mine.seats_is live, spare_is, mine.spare_below live, one_at parts_of s.views id v at, kept.numbered.parts_are)

    left_live : 0 < left.parts
    left_live = omega (arith, some_spare, mine.spare_below live)

    left_calls : calls_of v ≡ calls_of left
    left_calls = calls_live v live ∙ sym (calls_live left left_live)

    -- ---- sums

    split_sum : (f : View O S Q → ℕ) → sum_by f (set s.views id left ++ right ∷ []) + f v ≡ sum_by f s.views + f left + f right
    split_sum f = omega (arith, sum_set f s.views id v left at, sum_by_push f (set s.views id left) right)

    split_holds : (number : ℕ) → sum_by (holds number) (set s.views id left ++ right ∷ []) ≡ sum_by (holds number) s.views + one_if (right.caller == number)
    split_holds number =
        omega (arith, split_sum (holds number), ap (sum_by (is_of number)) left_calls, sum_by-cons (is_of number) (own_calls right) [])

    new_number : sum_by (holds right.caller) s.views ≡ 0
    new_number = none_held (sum_by (holds right.caller) s.views) (kept.numbered.below right.caller)
      where
        none_held : (held : ℕ) → (0 < held → right.caller + kept.spare < seats) → held ≡ 0
        none_held zero below = refl
        none_held (suc held) below = absurd (omega (arith, below (omega arith), number_is))

    held_once : (number : ℕ) → sum_by (holds number) (set s.views id left ++ right ∷ []) ≤ 1
    held_once number = dite (ℕ_discrete right.caller number)
        (λ same. subst (λ k. sum_by (holds k) (set s.views id left ++ right ∷ []) ≤ 1) same
        (omega (arith, split_holds right.caller, new_number, same_ticket right.caller)))
        (λ apart. omega (arith, split_holds number, other_ticket right.caller number apart, kept.numbered.once number))

    held_below : (number : ℕ) → 0 < sum_by (holds number) (set s.views id left ++ right ∷ []) → number + (kept.spare - 1) < seats
    held_below number some_held = dite (ℕ_discrete right.caller number)
        (λ same. omega (arith, same, number_is, some_spare, spare_is))
        (λ apart. omega (arith, kept.numbered.below number (omega (arith, split_holds number, other_ticket right.caller number apart, some_held))))

    -- ---- views

    no_entry : places right.caller kept.history ≡ []
    no_entry = places_none right.caller kept.spare seats kept.history (omega (arith, number_is)) kept.numbered.entries_below

    left_fits : Fits opening seats (kept.spare - 1) kept.serving kept.history left
    left_fits = record {
      served = mine.served;
      seen_begins = mine.seen_begins;
      seen_all = mine.seen_all;
      old_begin = mine.old_begin;
      calls_seen = subst (All (AreCalls v.seen)) left_calls mine.calls_seen;
      calls_made = subst (All (AreCalls kept.history)) left_calls mine.calls_made;
      opening_is = λ _. mine.opening_is live;
      seats_is = λ _. mine.seats_is live;
      some_parts = omega (arith, left_live, any_one v.stage);
      spare_below = λ _. omega (arith, mine.spare_below live, some_spare);
      only_spare = λ _. omega (arith, spare_is);
    }

    right_fits : Fits opening seats (kept.spare - 1) kept.serving kept.history right
    right_fits = record {
      served = tt;
      seen_begins = mine.seen_begins;
      seen_all = tt;
      old_begin = All-nil (λ old. Begins old v.seen);
      calls_seen = All-cons (AreCalls v.seen) (own_calls right) [] (places_before right.caller v.seen kept.history mine.seen_begins no_entry) (All-nil (AreCalls v.seen));
      calls_made = All-cons (AreCalls kept.history) (own_calls right) [] no_entry (All-nil (AreCalls kept.history));
      opening_is = λ _. mine.opening_is live;
      seats_is = λ _. mine.seats_is live;
      some_parts = omega arith;
      spare_below = λ _. omega arith;
      only_spare = λ some. absurd (omega (arith, some));
    }

    other_fits : (j : ℕ) (u : View O S Q) → j ≢ id → get_elem? s.views j ≡ slot.some u → Fits opening seats (kept.spare - 1) kept.serving kept.history u
    other_fits j u apart there = let fits = kept.fit j u there in record {
      served = fits.served;
      seen_begins = fits.seen_begins;
      seen_all = fits.seen_all;
      old_begin = fits.old_begin;
      calls_seen = fits.calls_seen;
      calls_made = fits.calls_made;
      opening_is = fits.opening_is;
      seats_is = fits.seats_is;
      some_parts = fits.some_parts;
      spare_below = fits.spare_below;
      only_spare = λ some. absurd (omega (arith, some, spare_is, two_at spare_of s.views id j v u apart at there, kept.numbered.spare_is));
    }

    split_kept : Rule (record { words = s.words; homes = s.homes; views = set s.views id left ++ right ∷ [] })
    split_kept = record {
      history = kept.history;
      ticket = kept.ticket;
      serving = kept.serving;
      spare = kept.spare - 1;
      home = kept.home;
      words_are = kept.words_are;
      few = kept.few;
      few_seats = kept.few_seats;
      homes_are = kept.homes_are;
      home_is = home_same opening_of stands opening kept.history (sum_by slotted s.views) (sum_by slotted (set s.views id left ++ right ∷ [])) kept.home
          (omega (arith, split_sum slotted)) kept.home_is;
      queued = queued_same kept.ticket kept.serving s.views (set s.views id left ++ right ∷ [])
          (λ number. omega (arith, split_sum (ticketed number))) (omega (arith, split_sum any_ticket)) kept.queued;
      numbered = record {
        parts_are = omega (arith, split_sum parts_of, left_live, live, kept.numbered.parts_are);
        spare_is = omega (arith, split_sum spare_of, some_spare, kept.numbered.spare_is);
        once = held_once;
        below = held_below;
        entries_below = All-weaker (λ (e : Entry S). e.who + kept.spare < seats) (λ (e : Entry S). e.who + (kept.spare - 1) < seats)
            (λ e below. omega (arith, below)) kept.history kept.numbered.entries_below;
      };
      fit = λ j u there. ⊎_elim
          (λ was. all_set (Fits opening seats (kept.spare - 1) kept.serving kept.history) s.views id left other_fits left_fits j u was)
          (λ (is : right ≡ u). subst (Fits opening seats (kept.spare - 1) kept.serving kept.history) is right_fits)
          (at_snoc (set s.views id left) right u j there);
      seen = let seen = seen_set kept.history kept.history s.views id v left at left_live (inr ((λ all. all), refl)) kept.seen in
          record { by = seen.by; view = seen.view; there = at_longer (set s.views id left) (right ∷ []) seen.by seen.view seen.there; live = seen.live; all = seen.all };
    }

  pub splits_allowed : (id : ℕ) (v : View O S Q) → 0 < v.spare → 0 < v.parts → Splits Rule id v (left_by_split v) (new_by_split v)
  splits_allowed id v some_spare live s kept at = split_kept id v some_spare live s kept at
