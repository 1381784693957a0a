-- Joining two seats keeps the rule, and what both have seen and written agrees.
use Rattle.std.proofs.Common.{◌≡◌, ◌≢◌, ℕ, ◌+◌, ◌<◌, ◌⊎◌, List, [], ◌∷◌, ◌++◌, set, Option, refl, ap, sym, ◌∙◌, subst, arith, inl, inr}
use Rattle.std.specs.List.{All, sum_by}
use Rattle.std.proofs.lemmas.List.Elements.{All-nil, All-cons, All-head, All-tail, All-append, All-weaker}
use Rattle.std.proofs.lemmas.List.{append-nil}
use Rattle.std.proofs.lemmas.List.Sums.{sum_by-cons, sum_by-append}
use mathlib.Core.Logic.{dite}
use mathlib.Core.Option as slot
use lib.ListN.{get_elem?}
use native.Mathlib.Decide.{ℕ_discrete}
use Rattle.atomic_table.specs.Table.{State, Me, Joins, Allows, step, keeps}
use Rattle.atomic_table.proofs.Lists.{set_else, set_here, set_again}
use Rattle.wm_turn.specs.declared.view.Calls.{Calls}
use Rattle.wm_turn.specs.declared.view.Entry.{Entry}
use Rattle.wm_turn.specs.declared.view.Stage.TheVariants.{Idle}
use Rattle.wm_turn.specs.declared.view.View.{View}
use Rattle.wm_turn.specs.History.{Begins}
use Rattle.wm_turn.specs.Rule.{has_ticket, has_any, has_slot, HasSeenAll, AreCalls, is_of, own_calls, calls_of, holds, Fits, IsSeen, IsKept, joined, spent}
use Rattle.wm_turn.specs.Told.{agrees}
use Rattle.wm_turn.proofs.Fitting.{calls_live}
use Rattle.wm_turn.proofs.Histories.{IsLongerOf, begins_trans, longer_of, longer_all, places_between}
use Rattle.wm_turn.proofs.Numbers.{at_within, parts_of, spare_of}
use Rattle.wm_turn.proofs.Owing.{Owes, home_same, slotted}
use Rattle.wm_turn.proofs.Queues.{ticketed, any_ticket, all_set, queued_same}
use Rattle.wm_turn.proofs.Sums.{sum_set}

-- calls that stand in what was seen and in the history stand in what is between
calls_between : {S : Type 0} (first second third : List (Entry S)) (list : List Calls) → Begins first second → Begins second third → All (AreCalls first) list → All (AreCalls third) list → All (AreCalls second) list
calls_between first second third [] p q low high = All-nil (AreCalls second)
calls_between first second third (calls ∷ list) p q low high =
    All-cons (AreCalls second) calls list
    (places_between calls.caller calls.places first second third p q (All-head (AreCalls first) calls list low) (All-head (AreCalls third) calls list high))
    (calls_between first second third list p q (All-tail (AreCalls first) calls list low) (All-tail (AreCalls third) calls list high))

abbrev nothing : {S : Type 0} → List (Entry S)
nothing = []

module _ {O S Q : Type 0} where
  spent_fits : (opening : O) (seats spare serving : ℕ) (history : List (Entry S)) → Fits opening seats spare serving history (spent {O = O} {S = S} {Q = Q})
  spent_fits opening seats spare serving history = record {
    served = tt;
    seen_begins = (history, sym (append-nil history));
    seen_all = tt;
    old_begin = All-nil (λ old. Begins old []);
    calls_seen = All-nil (AreCalls (nothing {S = S}));
    calls_made = All-nil (AreCalls history);
    opening_is = λ some. absurd (omega (arith, some));
    seats_is = λ some. absurd (omega (arith, some));
    some_parts = omega arith;
    spare_below = λ some. absurd (omega (arith, some));
    only_spare = λ some. absurd (omega (arith, some));
  }

module _ {V O S Q : Type 0} (opening_of : V → O) (stands : V → List (Entry S) → Type 0) (seats : ℕ) (opening : O) where
  abbrev Rule : State (Option V) (View O S Q) → Type 0
  Rule = IsKept opening_of stands seats opening

  module _ (id other : ℕ) (v u : View O S Q) (idle : (v.stage ≡ Idle) × (u.stage ≡ Idle)) (live : (0 < v.parts) × (0 < u.parts)) (no_spare : (v.spare ≡ 0) × (u.spare ≡ 0))
      (s : State (Option V) (View O S Q)) (kept : Rule s) (at : get_elem? s.views id ≡ slot.some v) (apart : other ≢ id) (there : get_elem? s.views other ≡ slot.some u) where
    abbrev both : View O S Q
    both = joined v u

    abbrev views : List (View O S Q)
    views = set (set s.views id both) other spent

    mine : Fits opening seats kept.spare kept.serving kept.history v
    mine = kept.fit id v at

    theirs : Fits opening seats kept.spare kept.serving kept.history u
    theirs = kept.fit other u there

    seen_both : IsLongerOf u.seen v.seen kept.history
    seen_both = longer_of u.seen v.seen kept.history theirs.seen_begins mine.seen_begins

    -- ---- sums

    still_there : get_elem? (set s.views id both) other ≡ slot.some u
    still_there = set_else s.views id other both apart ∙ there

    join_sum : (f : View O S Q → ℕ) → sum_by f views + f v + f u ≡ sum_by f s.views + f both + f spent
    join_sum f = omega (arith, sum_set f s.views id v both at, sum_set f (set s.views id both) other u spent still_there)

    both_live : 0 < both.parts
    both_live = omega (arith, live.0)

    both_calls : calls_of both ≡ own_calls v ∷ own_calls u ∷ (u.old_calls ++ v.old_calls)
    both_calls = calls_live both both_live

    both_hold : (number : ℕ) → holds number both ≡ holds number v + holds number u
    both_hold number =
        omega (
          arith,
          ap (sum_by (is_of number)) both_calls,
          ap (sum_by (is_of number)) (calls_live v live.0),
          ap (sum_by (is_of number)) (calls_live u live.1),
          sum_by-cons (is_of number) (own_calls v) (own_calls u ∷ (u.old_calls ++ v.old_calls)),
          sum_by-cons (is_of number) (own_calls u) (u.old_calls ++ v.old_calls),
          sum_by-append (is_of number) u.old_calls v.old_calls,
          sum_by-cons (is_of number) (own_calls v) v.old_calls,
          sum_by-cons (is_of number) (own_calls u) u.old_calls,
        )

    same_holds : (number : ℕ) → sum_by (holds number) views ≡ sum_by (holds number) s.views
    same_holds number = omega (arith, join_sum (holds number), both_hold number)

    -- ---- the joined view

    all_calls : (history : List (Entry S)) → All (AreCalls history) (calls_of v) → All (AreCalls history) (calls_of u) → All (AreCalls history) (calls_of both)
    all_calls history p q =
        let of_v : All (AreCalls history) (own_calls v ∷ v.old_calls) = subst (All (AreCalls history)) (calls_live v live.0) p in
        let of_u : All (AreCalls history) (own_calls u ∷ u.old_calls) = subst (All (AreCalls history)) (calls_live u live.1) q in
        subst (All (AreCalls history)) (sym both_calls)
        (All-cons (AreCalls history) (own_calls v) (own_calls u ∷ (u.old_calls ++ v.old_calls)) (All-head (AreCalls history) (own_calls v) v.old_calls of_v)
        (All-cons (AreCalls history) (own_calls u) (u.old_calls ++ v.old_calls) (All-head (AreCalls history) (own_calls u) u.old_calls of_u)
        (All-append (AreCalls history) u.old_calls v.old_calls (All-tail (AreCalls history) (own_calls u) u.old_calls of_u) (All-tail (AreCalls history) (own_calls v) v.old_calls of_v))))

    begins_in : (seen : List (Entry S)) (old : List (List (Entry S))) → Begins seen both.seen → All (λ o. Begins o seen) old → All (λ o. Begins o both.seen) old
    begins_in seen old p all = All-weaker (λ o. Begins o seen) (λ o. Begins o both.seen) (λ o q. begins_trans o seen both.seen q p) old all

    both_fit : Fits opening seats kept.spare kept.serving kept.history both
    both_fit = record {
      served = mine.served;
      seen_begins = seen_both.begins;
      seen_all = subst (λ stage. HasSeenAll kept.history stage both.seen) (sym idle.0) tt;
      old_begin =
          All-cons (λ o. Begins o both.seen) v.seen (u.seen ∷ (u.old_seen ++ v.old_seen)) seen_both.second_begins
          (All-cons (λ o. Begins o both.seen) u.seen (u.old_seen ++ v.old_seen) seen_both.first_begins
          (All-append (λ o. Begins o both.seen) u.old_seen v.old_seen
          (begins_in u.seen u.old_seen seen_both.first_begins theirs.old_begin)
          (begins_in v.seen v.old_seen seen_both.second_begins mine.old_begin)));
      calls_seen = all_calls both.seen
          (calls_between v.seen both.seen kept.history (calls_of v) seen_both.second_begins seen_both.begins mine.calls_seen mine.calls_made)
          (calls_between u.seen both.seen kept.history (calls_of u) seen_both.first_begins seen_both.begins theirs.calls_seen theirs.calls_made);
      calls_made = all_calls kept.history mine.calls_made theirs.calls_made;
      opening_is = λ _. mine.opening_is live.0;
      seats_is = λ _. mine.seats_is live.0;
      some_parts = omega (arith, ap has_any idle.0);
      spare_below = λ _. omega (arith, no_spare.0, live.0);
      only_spare = mine.only_spare;
    }

    -- ---- who has seen the whole history

    both_there : get_elem? views id ≡ slot.some both
    both_there = set_else (set s.views id both) other id spent (λ same. apart (sym same)) ∙ set_here s.views id both (at_within s.views id v at)

    by_both : (u.seen ≡ kept.history) ⊎ (v.seen ≡ kept.history) → IsSeen kept.history views
    by_both one = record {
      by = id;
      view = both;
      there = both_there;
      live = both_live;
      all = longer_all u.seen v.seen kept.history theirs.seen_begins mine.seen_begins one;
    }

    the_seen : (i : ℕ) (x : View O S Q) → get_elem? s.views i ≡ slot.some x → kept.seen.by ≡ i → x.seen ≡ kept.history
    the_seen i x at_i same =
        let view : kept.seen.view ≡ x = cc (kept.seen.there, at_i, same) in
        subst (λ (w : View O S Q). w.seen ≡ kept.history) view kept.seen.all

    join_seen : IsSeen kept.history views
    join_seen = let seen = kept.seen in
        dite (ℕ_discrete seen.by id)
        (λ same. by_both (inr (the_seen id v at same)))
        (λ not_id. dite (ℕ_discrete seen.by other)
        (λ same. by_both (inl (the_seen other u there same)))
        (λ not_other. record {
          by = seen.by;
          view = seen.view;
          there = set_else (set s.views id both) other seen.by spent not_other ∙ (set_else s.views id seen.by both not_id ∙ seen.there);
          live = seen.live;
          all = seen.all;
        }))

    join_kept : Rule (record { words = s.words; homes = s.homes; views = views })
    join_kept = record {
      history = kept.history;
      ticket = kept.ticket;
      serving = kept.serving;
      spare = kept.spare;
      home = kept.home;
      words_are = kept.words_are;
      few = kept.few;
      few_seats = kept.few_seats;
      homes_are = kept.homes_are;
      home_is = home_same opening_of stands opening kept.history (sum_by slotted s.views) (sum_by slotted views) kept.home
          (omega (arith, join_sum slotted, ap has_slot idle.0, ap has_slot idle.1)) kept.home_is;
      queued = queued_same kept.ticket kept.serving s.views views
          (λ number. omega (arith, join_sum (ticketed number), ap (has_ticket number) idle.0, ap (has_ticket number) idle.1))
          (omega (arith, join_sum any_ticket, ap has_any idle.0, ap has_any idle.1))
          kept.queued;
      numbered = record {
        parts_are = omega (arith, join_sum parts_of, kept.numbered.parts_are);
        spare_is = omega (arith, join_sum spare_of, no_spare.1, kept.numbered.spare_is);
        once = λ number. omega (arith, same_holds number, kept.numbered.once number);
        below = λ number some_held. kept.numbered.below number (omega (arith, same_holds number, some_held));
        entries_below = kept.numbered.entries_below;
      };
      fit = all_set (Fits opening seats kept.spare kept.serving kept.history) (set s.views id both) other spent
          (λ j w _ found. all_set (Fits opening seats kept.spare kept.serving kept.history) s.views id both (λ i x _ was. kept.fit i x was) both_fit j w found)
          (spent_fits opening seats kept.spare kept.serving kept.history);
      seen = join_seen;
    }

  pub joins_allowed : (id other : ℕ) (v u : View O S Q) → (v.stage ≡ Idle) × (u.stage ≡ Idle) → (0 < v.parts) × (0 < u.parts) → (v.spare ≡ 0) × (u.spare ≡ 0) → Joins Rule id v other u (joined v u) spent
  joins_allowed id other v u idle live no_spare s kept at apart there =
      join_kept id other v u idle live no_spare s kept at apart (sym (set_else s.views id other (joined v u) apart) ∙ there)

  -- a look at the count tells that what was seen and written agrees
  pub agrees_allowed : (slots id : ℕ) (me : Me (Option V) (View O S Q))
      → Allows Rule slots id me 2 (λ n. n) (agrees (step slots 2 0 0 slot.none) me)
  agrees_allowed slots id me s kept sized at range =
      subst (Owes Rule s id me 2 (λ n. n) (agrees (step slots 2 0 0 slot.none) me)) (sym kept.words_are) (
        me.0,
        keeps,
        tt,
        subst (λ state. Rule state) (λ i. record { words = kept.words_are i; homes = s.homes; views = sym (set_again s.views id me.0 at) i }) kept,
        (refl, (kept.fit id me.0 at).old_begin, (kept.fit id me.0 at).calls_seen),
      )
