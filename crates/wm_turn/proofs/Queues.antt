-- The tickets that are out, as seats draw them and pass the turn on.
use Rattle.std.proofs.Common.{◌≡◌, ◌≢◌, ℕ, ◌+◌, ◌<◌, ◌≤◌, ◌==◌, List, set, ap, sym, ◌∙◌, subst, arith, ⊎_elim}
use Rattle.std.specs.List.{sum_by}
use Rattle.std.proofs.lemmas.Bool.Decides.{nat_tests}
use mathlib.Core.Logic.{dite}
use mathlib.Core.Option.{some}
use lib.ListN.{get_elem?}
use native.Mathlib.Decide.{ℕ_discrete, dec_lt}
use Rattle.atomic_table.proofs.Lists.{at_set}
use Rattle.wm_turn.specs.declared.view.Stage.TheVariants.{Idle, Waits, Noted}
use Rattle.wm_turn.specs.declared.view.View.{View}
use Rattle.wm_turn.specs.Rule.{one_if, has_ticket, has_any, AreQueued}
use Rattle.wm_turn.proofs.Sums.{sum_set, one_at, two_at}

pub same_ticket : (ticket : ℕ) → one_if (ticket == ticket) ≡ 1
same_ticket ticket = grind (arith, nat_tests)

pub other_ticket : (ticket number : ℕ) → ticket ≢ number → one_if (ticket == number) ≡ 0
other_ticket ticket number apart = grind (arith, nat_tests)

module _ {O S Q : Type 0} where
  abbrev pub ticketed : ℕ → View O S Q → ℕ
  ticketed number v = has_ticket number v.stage

  abbrev pub any_ticket : View O S Q → ℕ
  any_ticket v = has_any v.stage

  -- what holds of the view at a place and of all others holds of all
  pub all_set : (P : View O S Q → Type 0) (views : List (View O S Q)) (by : ℕ) (w : View O S Q)
      → ((j : ℕ) (u : View O S Q) → j ≢ by → get_elem? views j ≡ some u → P u) → P w
      → (j : ℕ) (u : View O S Q) → get_elem? (set views by w) j ≡ some u → P u
  all_set P views by w others mine j u there =
      ⊎_elim
      (λ (is : (j ≡ by) × (w ≡ u)). subst P is.1 mine)
      (λ (is : (j ≢ by) × (get_elem? views j ≡ some u)). others j u is.0 is.1)
      (at_set views by j w u there)

  pub queued_same : (ticket serving : ℕ) (old new : List (View O S Q))
      → ((number : ℕ) → sum_by (ticketed number) new ≡ sum_by (ticketed number) old) → sum_by any_ticket new ≡ sum_by any_ticket old
      → AreQueued ticket serving old → AreQueued ticket serving new
  queued_same ticket serving old new each all queued = record {
    gone = λ number lt. each number ∙ queued.gone number lt;
    out = λ number le lt. each number ∙ queued.out number le lt;
    to_come = λ number le. each number ∙ queued.to_come number le;
    waiting = omega (arith, all, queued.waiting);
  }

  -- a view that keeps its ticket keeps the queue
  pub queued_set : (ticket serving : ℕ) (views : List (View O S Q)) (by : ℕ) (v w : View O S Q) → get_elem? views by ≡ some v
      → ((number : ℕ) → has_ticket number w.stage ≡ has_ticket number v.stage) → has_any w.stage ≡ has_any v.stage
      → AreQueued ticket serving views → AreQueued ticket serving (set views by w)
  queued_set ticket serving views by v w at each all queued =
      queued_same ticket serving views (set views by w)
      (λ number. omega (arith, sum_set (ticketed number) views by v w at, each number))
      (omega (arith, sum_set any_ticket views by v w at, all))
      queued

  pub queued_draw : (ticket serving : ℕ) (views : List (View O S Q)) (by : ℕ) (v w : View O S Q) → get_elem? views by ≡ some v
      → v.stage ≡ Idle → w.stage ≡ Waits ticket → AreQueued ticket serving views → AreQueued (ticket + 1) serving (set views by w)
  queued_draw ticket serving views by v w at idle waits queued = record {
    gone = λ number lt. omega (arith, change number, queued.gone number lt, other_ticket ticket number (λ same. omega (arith, same, lt, queued.waiting)));
    out = λ number le lt. dite (ℕ_discrete number ticket)
        (λ same. omega (arith, change number, queued.to_come number (omega (arith, same)), subst (λ k. one_if (ticket == k) ≡ 1) (sym same) (same_ticket ticket)))
        (λ apart. omega (arith, change number, queued.out number le (omega (arith, apart, lt)), other_ticket ticket number (λ same. apart (sym same))));
    to_come = λ number le. omega (arith, change number, queued.to_come number (omega (arith, le)), other_ticket ticket number (λ same. omega (arith, same, le)));
    waiting = omega (arith, queued.waiting, all);
  }
    where
      change : (number : ℕ) → sum_by (ticketed number) (set views by w) ≡ sum_by (ticketed number) views + one_if (ticket == number)
      change number = omega (arith, sum_set (ticketed number) views by v w at, ap (has_ticket number) idle, ap (has_ticket number) waits)

      all : sum_by any_ticket (set views by w) ≡ sum_by any_ticket views + 1
      all = omega (arith, sum_set any_ticket views by v w at, ap has_any idle, ap has_any waits)

  pub queued_pass : (ticket serving : ℕ) (views : List (View O S Q)) (by : ℕ) (v w : View O S Q) → get_elem? views by ≡ some v
      → v.stage ≡ Noted serving → w.stage ≡ Idle → AreQueued ticket serving views → AreQueued ticket (serving + 1) (set views by w)
  queued_pass ticket serving views by v w at noted idle queued = record {
    gone = λ number lt. dite (ℕ_discrete number serving)
        (λ same. omega (arith, change number, queued.out number (omega (arith, same)) (omega (arith, same, some_out)), subst (λ k. one_if (serving == k) ≡ 1) (sym same) (same_ticket serving)))
        (λ apart. omega (arith, change number, queued.gone number (omega (arith, apart, lt))));
    out = λ number le lt. omega (arith, change number, queued.out number (omega (arith, le)) lt, other_ticket serving number (λ same. omega (arith, same, le)));
    to_come = λ number le. omega (arith, change number, queued.to_come number le);
    waiting = omega (arith, queued.waiting, all);
  }
    where
      change : (number : ℕ) → sum_by (ticketed number) (set views by w) + one_if (serving == number) ≡ sum_by (ticketed number) views
      change number = omega (arith, sum_set (ticketed number) views by v w at, ap (has_ticket number) noted, ap (has_ticket number) idle)

      all : sum_by any_ticket (set views by w) + 1 ≡ sum_by any_ticket views
      all = omega (arith, sum_set any_ticket views by v w at, ap has_any noted, ap has_any idle)

      some_out : serving < ticket
      some_out = omega (arith, queued.waiting, all)

  -- ---- who has a ticket

  -- a ticket that is held is not yet served and was drawn
  pub held_within : (ticket serving number : ℕ) (views : List (View O S Q)) (by : ℕ) (v : View O S Q) → get_elem? views by ≡ some v
      → has_ticket number v.stage ≡ 1 → AreQueued ticket serving views → (serving ≤ number) × (number < ticket)
  held_within ticket serving number views by v at has queued =
      let some_held : 1 ≤ sum_by (ticketed number) views = omega (arith, has, one_at (ticketed number) views by v at) in (
        dite (dec_lt number serving) (λ lt. absurd (omega (arith, some_held, queued.gone number lt))) (λ no. omega (arith, no)),
        dite (dec_lt number ticket) (λ lt. lt) (λ no. absurd (omega (arith, some_held, queued.to_come number (omega (arith, no))))),
      )

  -- no two views have one ticket
  pub held_once : (ticket serving number : ℕ) (views : List (View O S Q)) (by other : ℕ) (v u : View O S Q) → other ≢ by → get_elem? views by ≡ some v → get_elem? views other ≡ some u
      → has_ticket number v.stage ≡ 1 → AreQueued ticket serving views → has_ticket number u.stage ≡ 0
  held_once ticket serving number views by other v u apart at there has queued =
      let within = held_within ticket serving number views by v at has queued in
      omega (arith, has, queued.out number within.0 within.1, two_at (ticketed number) views by other v u apart at there)
