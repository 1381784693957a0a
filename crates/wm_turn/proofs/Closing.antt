-- What the rule says once one seat has all parts.
use Rattle.std.proofs.Common.{◌≡◌, ℕ, ◌+◌, ◌<◌, ◌≤◌, List, [], ◌∷◌, Option, None, Some, ap, sym, subst, arith}
use Rattle.std.specs.List.{All, sum_by}
use Rattle.std.proofs.lemmas.List.Elements.{All-weaker}
use mathlib.Core.Logic.{dite}
use mathlib.Core.Option as slot
use lib.ListN.{get_elem?}
use native.Mathlib.Decide.{ℕ_discrete}
use Rattle.atomic_table.specs.Table.{State, Final, Seen}
use Rattle.wm_turn.specs.declared.view.Entry.{Entry}
use Rattle.wm_turn.specs.declared.view.Stage.{Stage}
use Rattle.wm_turn.specs.declared.view.Stage.TheVariants.{Idle, Waits, Turn, Noted}
use Rattle.wm_turn.specs.declared.view.View.{View}
use Rattle.wm_turn.specs.Rule.{has_any, has_slot, IsHome, IsKept}
use Rattle.wm_turn.specs.Steps.{IsLeft}
use Rattle.wm_turn.proofs.Numbers.{parts_of}
use Rattle.wm_turn.proofs.Owing.{slotted}
use Rattle.wm_turn.proofs.Sums.{sum_more, two_at}

slot_any : (stage : Stage) → has_slot stage ≤ has_any stage
slot_any Idle = omega arith
slot_any (Waits ticket) = omega arith
slot_any (Turn ticket) = omega arith
slot_any (Noted ticket) = omega arith

module _ {V O S Q : Type 0} (opening_of : V → O) (stands : V → List (Entry S) → Type 0) (seats : ℕ) (opening : O) where
  abbrev Rule : State (Option V) (View O S Q) → Type 0
  Rule = IsKept opening_of stands seats opening

  module _ (id : ℕ) (v : View O S Q) (idle : v.stage ≡ Idle) (live : 0 < v.parts) (all : v.parts ≡ seats) (s : State (Option V) (View O S Q)) (kept : Rule s) (at : get_elem? s.views id ≡ slot.some v) where
    none_noted : sum_by slotted s.views ≡ 0
    none_noted =
        omega (
          arith,
          all,
          kept.numbered.parts_are,
          sum_more slotted parts_of seats s.views id v
              (λ j u there. omega (arith, slot_any u.stage, (kept.fit j u there).some_parts)) at (omega (arith, ap has_slot idle, all)),
        )

    seen_all : v.seen ≡ kept.history
    seen_all = dite (ℕ_discrete kept.seen.by id)
        (λ same. let view : kept.seen.view ≡ v = cc (kept.seen.there, at, same) in subst (λ (w : View O S Q). w.seen ≡ kept.history) view kept.seen.all)
        (λ apart. absurd (omega (arith, all, kept.numbered.parts_are, kept.seen.live, two_at parts_of s.views id kept.seen.by v kept.seen.view apart at kept.seen.there)))

    closes_home : (slots : List (Option V)) (home : slot.Option (Option V)) → s.homes ≡ home ∷ [] → IsHome opening_of stands opening kept.history (sum_by slotted s.views) home
        → ((k : ℕ) (x : Option V) → get_elem? s.homes k ≡ slot.some (slot.some x) → get_elem? slots k ≡ slot.some x)
        → (value : V) × (get_elem? slots 0 ≡ slot.some (Some value)) × IsLeft opening_of stands seats opening v value
    closes_home slots slot.none homes_are home_is at_home = absurd (omega (arith, home_is, none_noted))
    closes_home slots (slot.some None) homes_are home_is at_home = absurd home_is
    closes_home slots (slot.some (Some value)) homes_are home_is at_home = (
      value,
      at_home 0 (Some value) (ap (λ homes. get_elem? homes 0) homes_are),
      record {
        opening_is = home_is.1;
        stands_for = subst (stands value) (sym seen_all) home_is.2;
        numbers = subst (All (λ (entry : Entry S). entry.who < seats)) (sym seen_all)
            (All-weaker (λ (entry : Entry S). entry.who + kept.spare < seats) (λ (entry : Entry S). entry.who < seats)
            (λ entry below. omega (arith, below)) kept.history kept.numbered.entries_below);
        calls = (kept.fit id v at).calls_seen;
      },
    )

  pub closes : (id : ℕ) (v : View O S Q) (words : List ℕ) (slots : List (Option V)) → v.stage ≡ Idle → 0 < v.parts → v.parts ≡ seats
      → Final (Seen Rule id v) words slots → (value : V) × (get_elem? slots 0 ≡ slot.some (Some value)) × IsLeft opening_of stands seats opening v value
  closes id v words slots idle live all final =
      let s = final.0 in
      let kept = final.1.0 in
      closes_home id v idle live all s kept final.1.1 slots kept.home kept.homes_are kept.home_is final.4
