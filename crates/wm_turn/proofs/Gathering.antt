-- What is known of all seats as they are joined one after another, and how seats are made one after another.
use Rattle.std.proofs.Common.{◌≡◌, ℕ, zero, suc, ◌+◌, ◌-◌, ◌<◌, ◌≤◌, false, true≢false, List, [], ◌∷◌, ◌++◌, Option, refl, ap, sym, ◌∙◌, subst, arith}
use Rattle.std.specs.List.{All}
use Rattle.std.proofs.lemmas.List.Elements.{All-cons, All-head, All-tail, All-push}
use Rattle.atomic_table.specs.Seated.{TableId}
use Rattle.atomic_table.specs.Table.{Me}
use Rattle.atomic_table.specs.declared.shared.Seat.{Seat}
use Rattle.wm_turn.specs.declared.view.Entry.{Entry}
use Rattle.wm_turn.specs.declared.view.Stage.{Stage}
use Rattle.wm_turn.specs.declared.view.Stage.TheVariants.{Idle, Waits, Turn, Noted}
use Rattle.wm_turn.specs.declared.view.View.{View}
use Rattle.wm_turn.specs.History.{Begins, longer, places, wrote}
use Rattle.wm_turn.specs.Pass.{Pass, IsAtRest, IsKnown, has_turn, pass_of, longest, new_pass, new_passes}
use Rattle.wm_turn.specs.Rule.{AreCalls, own_calls, calls_of, joined, first_view, left_by_split, new_by_split}
use Rattle.wm_turn.proofs.Fitting.{calls_live}
use Rattle.wm_turn.proofs.Histories.{begins_trans}
use Rattle.wm_turn.proofs.Seating.{joined_seen, joined_calls}

-- a seat that has no turn has no ticket and holds no slot
pub at_rest_idle : {V : Type 0} (stage : Stage) (slots : List (ℕ × Option V)) → has_turn stage ≡ false → IsAtRest stage slots → (stage ≡ Idle) × (slots ≡ [])
at_rest_idle Idle slots none rests = (refl, rests)
at_rest_idle (Waits ticket) slots none rests = absurd rests
at_rest_idle (Turn ticket) slots none rests = absurd rests
at_rest_idle (Noted ticket) slots none rests = absurd (true≢false none)

all_right : {A : Type 0} (P : A → Type 0) (xs ys : List A) → All P (xs ++ ys) → All P ys
all_right P [] ys all = all
all_right P (x ∷ xs) ys all = all_right P xs ys (All-tail P x (xs ++ ys) all)

module _ {O S Q : Type 0} where
  pub longest_push : (history : List (Entry S)) (passes : List (Pass O S Q)) (pass : Pass O S Q) → longest history (passes ++ pass ∷ []) ≡ longest (longer pass.seen history) passes
  longest_push history [] pass = refl
  longest_push history (first ∷ passes) pass = ap (longer first.seen) (longest_push history passes pass)

  -- ---- seats are made

  pub new_passes_push : (door : TableId) (opening : O) (caller count : ℕ) → new_passes {S = S} {Q = Q} door opening caller (suc count) ≡ new_passes door opening caller count ++ new_pass door opening (caller + count) ∷ []
  new_passes_push door opening caller zero = ap (λ n. new_pass door opening n ∷ []) (the caller)
    where
      the : (n : ℕ) → n ≡ n + 0
      the n = omega arith
  new_passes_push door opening caller (suc count) =
      ap (λ passes. new_pass door opening caller ∷ passes)
      (new_passes_push door opening (suc caller) count ∙ ap (λ n. new_passes door opening (suc caller) count ++ new_pass door opening n ∷ []) (next caller count))
    where
      next : (n m : ℕ) → suc n + m ≡ n + suc m
      next n m = omega arith

  -- the seats from number 1 on, with the next one
  pub passes_next : (door : TableId) (opening : O) (number : ℕ) → 1 ≤ number → new_passes {S = S} {Q = Q} door opening 1 (number - 1) ++ new_pass door opening number ∷ [] ≡ new_passes door opening 1 (number + 1 - 1)
  passes_next door opening number some =
      let this : number ≡ 1 + (number - 1) = omega (arith, some) in
      let next : suc (number - 1) ≡ number + 1 - 1 = omega (arith, some) in
      ap (λ n. new_passes door opening 1 (number - 1) ++ new_pass door opening n ∷ []) this
      ∙ (sym (new_passes_push door opening 1 (number - 1)) ∙ ap (new_passes door opening 1) next)

  -- the first view where this is the next number
  abbrev pub first_at : ℕ → ℕ → O → View O S Q
  first_at seats number opening = record (first_view seats opening) { spare = seats - number; parts = seats - number + 1 }

  abbrev pass_at : TableId → View O S Q → Pass O S Q
  pass_at door v = record { door = door; turn = has_turn v.stage; caller = v.caller; parts = v.parts; opening = v.opening; seen = v.seen; mine = v.mine }

module _ {V O S Q : Type 0} (seats number : ℕ) (opening : O) where
  pub first_next : (me after : Me (Option V) (View O S Q)) → me ≡ (first_at seats number opening, []) → after ≡ (left_by_split me.0, me.1) → number < seats
      → after ≡ (record (first_view seats opening) { spare = seats - (number + 1); parts = seats - (number + 1) + 1 }, [])
  first_next me after is left below =
      let spare_is : seats - number - 1 ≡ seats - (number + 1) = omega (arith, below) in
      let parts_are : seats - number + 1 - 1 ≡ seats - (number + 1) + 1 = omega (arith, below) in
      left ∙ (ap (λ (m : Me (Option V) (View O S Q)). (left_by_split m.0, m.1)) is ∙ (λ i. (record (first_view seats opening) { spare = spare_is i; parts = parts_are i }, [])))

  pub split_pass : (me : Me (Option V) (View O S Q)) (door : TableId) (other : Seat (Option V) (View O S Q)) → me ≡ (first_at seats number opening, []) → other.table_id ≡ door → other.me ≡ (new_by_split me.0, []) → number ≤ seats
      → pass_of other ≡ new_pass door opening number
  split_pass me door other is at given below =
      ap (λ (z : TableId × Me (Option V) (View O S Q)). pass_at z.0 z.1.0) (λ i. (at i, (given ∙ ap (λ (m : Me (Option V) (View O S Q)). (new_by_split m.0, [])) is) i))
      ∙ ap (new_pass door opening) number_is
    where
      number_is : seats - (seats - number) ≡ number
      number_is = omega (arith, below)

module _ {V O S Q : Type 0} where
  -- ---- seats are joined

  pub known_first : (history : List (Entry S)) (me : Me (Option V) (View O S Q)) (pass : Pass O S Q) (left : List (Pass O S Q))
      → (me.0.seen ≡ pass.seen) × (me.0.caller ≡ pass.caller) × (me.0.mine ≡ pass.mine) → 0 < me.0.parts → Begins me.0.seen history → All (AreCalls history) (calls_of me.0)
      → All (IsKnown history) left → All (IsKnown history) (left ++ pass ∷ [])
  known_first history me pass left same live begins calls all =
      let own : places me.0.caller history ≡ wrote me.0.mine = All-head (AreCalls history) (own_calls me.0) me.0.old_calls (subst (All (AreCalls history)) (calls_live me.0 live) calls) in
      All-push (IsKnown history) left pass all (subst (λ seen. Begins seen history) same.0 begins, ap (λ who. places who history) (sym same.1) ∙ (own ∙ ap wrote same.2))

  module _ (me theirs after : Me (Option V) (View O S Q)) (is : after ≡ (joined me.0 theirs.0, me.1)) (live : 0 < me.0.parts)
      (begins : All (λ old. Begins old after.0.seen) after.0.old_seen) (calls : All (AreCalls after.0.seen) (calls_of after.0)) where
    -- what is known of the joined seat is known of both
    pub known_both : (history : List (Entry S)) → Begins after.0.seen history → All (AreCalls history) (calls_of after.0)
        → Begins me.0.seen history × All (AreCalls history) (calls_of me.0) × Begins theirs.0.seen history × (places theirs.0.caller history ≡ wrote theirs.0.mine)
    known_both history goes_on all =
        let seen = joined_seen me theirs after is live begins calls in
        let both = joined_calls me theirs after is live begins calls history all in
        let rest = All-tail (AreCalls history) (own_calls me.0) (own_calls theirs.0 ∷ (theirs.0.old_calls ++ me.0.old_calls)) both in (
          begins_trans me.0.seen after.0.seen history seen.0 goes_on,
          subst (All (AreCalls history)) (sym (calls_live me.0 live))
              (All-cons (AreCalls history) (own_calls me.0) me.0.old_calls
              (All-head (AreCalls history) (own_calls me.0) (own_calls theirs.0 ∷ (theirs.0.old_calls ++ me.0.old_calls)) both)
              (all_right (AreCalls history) theirs.0.old_calls me.0.old_calls (All-tail (AreCalls history) (own_calls theirs.0) (theirs.0.old_calls ++ me.0.old_calls) rest))),
          begins_trans theirs.0.seen after.0.seen history seen.1 goes_on,
          All-head (AreCalls history) (own_calls theirs.0) (theirs.0.old_calls ++ me.0.old_calls) rest,
        )
