-- What is true of a seat stays true from call to call.
use Rattle.std.proofs.Common.{◌≡◌, ℕ, suc, ◌+◌, ◌<◌, ◌≤◌, ◌^◌, max, List, [], ◌∷◌, ◌++◌, length, Option, None, Some, refl, ap, sym, ◌∙◌, subst, arith}
use Rattle.std.specs.List.{All}
use Rattle.std.proofs.lemmas.List.Elements.{All-cons, All-head, All-tail, All-weaker}
use Rattle.atomic_table.specs.Table.{Me}
use Rattle.wm_turn.specs.declared.view.Entry.{Entry}
use Rattle.wm_turn.specs.declared.view.Mark.{Mark}
use Rattle.wm_turn.specs.declared.view.Mark.TheVariants.{Wrote, Read}
use Rattle.wm_turn.specs.declared.view.Stage.TheVariants.{Turn, Noted}
use Rattle.wm_turn.specs.declared.view.View.{View}
use Rattle.wm_turn.specs.History.{Begins, AreLegal, places, wrote, end_of, last_end, AreWithin}
use Rattle.wm_turn.specs.Pass.{IsAtRest, IsSeated}
use Rattle.wm_turn.specs.Rule.{AreCalls, own_calls, calls_of, joined}
use Rattle.wm_turn.specs.Told.{HasNoted, noted_stage, logged, passed_on}
use Rattle.wm_turn.proofs.Fitting.{calls_live}
use Rattle.wm_turn.proofs.Histories.{begins_length, longer_length, places_own}

last_within : {Q : Type 0} (count : ℕ) (marks : List (Mark Q)) → AreWithin count marks → last_end marks ≤ count
last_within count [] within = omega arith
last_within count (mark ∷ marks) within = All-head (λ m. end_of m ≤ count) mark marks within

within_more : {Q : Type 0} (count more : ℕ) (marks : List (Mark Q)) → count ≤ more → AreWithin count marks → AreWithin more marks
within_more count more marks le within = All-weaker (λ m. end_of m ≤ count) (λ m. end_of m ≤ more) (λ m p. omega (arith, p, le)) marks within

module _ {S Q : Type 0} where
  -- what was seen grows, by no entry of the caller's own
  pub legal_seen : (caller : ℕ) (seen more : List (Entry S)) (mine : List (Mark Q)) → AreLegal caller seen mine → Begins seen more → places caller more ≡ wrote mine → AreLegal caller more mine
  legal_seen caller seen more mine legal begins written = record {
    written = written;
    in_order = legal.in_order;
    within = within_more (length seen) (length more) mine (begins_length seen more begins) legal.within;
  }

  pub legal_log : (caller : ℕ) (step : S) (seen : List (Entry S)) (mine : List (Mark Q)) → AreLegal caller seen mine → AreLegal caller (record { who = caller; step = step } ∷ seen) (Wrote (length seen) ∷ mine)
  legal_log caller step seen mine legal = record {
    written = places_own (record { who = caller; step = step }) seen ∙ ap (λ ps. length seen ∷ ps) legal.written;
    in_order = (last_within (length seen) mine legal.within, legal.in_order);
    within = All-cons (λ m. end_of m ≤ suc (length seen)) (Wrote (length seen)) mine (omega arith)
        (within_more (length seen) (suc (length seen)) mine (omega arith) legal.within);
  }

  pub legal_read : (caller : ℕ) (question : Q) (seen : List (Entry S)) (mine : List (Mark Q)) → AreLegal caller seen mine → AreLegal caller seen (Read question (length seen) ∷ mine)
  legal_read caller question seen mine legal = record {
    written = legal.written;
    in_order = (last_within (length seen) mine legal.within, legal.in_order);
    within = All-cons (λ m. end_of m ≤ length seen) (Read question (length seen)) mine (omega arith) legal.within;
  }

own_written : {O S Q : Type 0} (history : List (Entry S)) (v : View O S Q) → 0 < v.parts → All (AreCalls history) (calls_of v) → places v.caller history ≡ wrote v.mine
own_written history v live all = All-head (AreCalls history) (own_calls v) v.old_calls (subst (All (AreCalls history)) (calls_live v live) all)

module _ {V O S Q : Type 0} where
  -- who enters sees no more entries of its own
  pub entered_own : (opening_of : V → O) (stands : V → List (Entry S) → Type 0) (value : V) (caller count found ticket : ℕ) (me mid after : Me (Option V) (View O S Q)) → IsSeated caller count me
      → mid ≡ (record me.0 { stage = Turn ticket }, me.1) → HasNoted opening_of stands mid.0 value found after.0 → places me.0.caller after.0.seen ≡ places me.0.caller me.0.seen
  entered_own opening_of stands value caller count found ticket me mid after seated turn noted =
      own_written after.0.seen me.0 seated.live (subst (λ (m : Me (Option V) (View O S Q)). All (AreCalls after.0.seen) (calls_of m.0)) turn noted.calls) ∙ sym seated.legal.written

  -- a seat that entered
  pub seated_enter : (opening_of : V → O) (stands : V → List (Entry S) → Type 0) (value : V) (caller count found ticket : ℕ) (me mid after : Me (Option V) (View O S Q)) → IsSeated caller count me
      → mid ≡ (record me.0 { stage = Turn ticket }, me.1) → HasNoted opening_of stands mid.0 value found after.0 → after.1 ≡ (0, None) ∷ [] → IsSeated caller found after
  seated_enter opening_of stands value caller count found ticket me mid after seated turn noted slots = record {
    caller_is = seated.caller_is ∙ sym caller_same;
    count_is = noted.count_is;
    few = noted.few;
    no_spare = ap (λ v. v.spare) is ∙ seated.no_spare;
    live = subst (λ v. 0 < v.parts) (sym is) seated.live;
    rests = subst (λ v. IsAtRest v.stage after.1) (sym is) slots;
    legal = subst (λ v. AreLegal v.caller after.0.seen v.mine) (sym is)
        (legal_seen me.0.caller me.0.seen after.0.seen me.0.mine seated.legal
        (subst (λ v. Begins v.seen after.0.seen) mid_is noted.begins)
        (own_written after.0.seen me.0 seated.live (subst (λ v. All (AreCalls after.0.seen) (calls_of v)) mid_is noted.calls)));
  }
    where
      mid_is : mid.0 ≡ record me.0 { stage = Turn ticket }
      mid_is = ap (λ (m : Me (Option V) (View O S Q)). m.0) turn

      is : after.0 ≡ record me.0 { stage = Noted ticket; seen = after.0.seen }
      is = noted.after_is ∙ ap (λ (v : View O S Q). record v { stage = noted_stage v.stage; seen = after.0.seen }) mid_is

      caller_same : after.0.caller ≡ me.0.caller
      caller_same = ap (λ v. v.caller) is

  -- a seat that added an entry
  pub seated_log : (step : S) (caller count : ℕ) (me after : Me (Option V) (View O S Q)) → IsSeated caller count me → count < 2 ^ 48
      → after ≡ (logged (Some step) me.0, me.1) → IsSeated caller (count + 1) after
  seated_log step caller count me after seated few is = subst (IsSeated caller (count + 1)) (sym is) record {
    caller_is = seated.caller_is;
    count_is = omega (arith, seated.count_is);
    few = omega (arith, few);
    no_spare = seated.no_spare;
    live = seated.live;
    rests = seated.rests;
    legal = legal_log me.0.caller step me.0.seen me.0.mine seated.legal;
  }

  -- a seat that left with the mark of a question
  pub seated_read : (question : Q) (caller count : ℕ) (me after : Me (Option V) (View O S Q)) → IsSeated caller count me → after ≡ (passed_on (Some question) me.0, []) → IsSeated caller count after
  seated_read question caller count me after seated is = subst (IsSeated caller count) (sym is) record {
    caller_is = seated.caller_is;
    count_is = seated.count_is;
    few = seated.few;
    no_spare = seated.no_spare;
    live = seated.live;
    rests = refl;
    legal = legal_read me.0.caller question me.0.seen me.0.mine seated.legal;
  }

  -- ---- joining

  module _ (me theirs after : Me (Option V) (View O S Q)) (is : after ≡ (joined me.0 theirs.0, me.1)) (live : 0 < me.0.parts)
      (begins : All (λ old. Begins old after.0.seen) after.0.old_seen) (calls : All (AreCalls after.0.seen) (calls_of after.0)) where
    all_old : All (λ old. Begins old after.0.seen) (me.0.seen ∷ theirs.0.seen ∷ (theirs.0.old_seen ++ me.0.old_seen))
    all_old = subst (λ (old : List (List (Entry S))). All (λ o. Begins o after.0.seen) old) (ap (λ (m : Me (Option V) (View O S Q)). m.0.old_seen) is) begins

    -- what both have seen begins what the joined seat has seen
    pub joined_seen : Begins me.0.seen after.0.seen × Begins theirs.0.seen after.0.seen
    joined_seen = (
      All-head (λ old. Begins old after.0.seen) me.0.seen (theirs.0.seen ∷ (theirs.0.old_seen ++ me.0.old_seen)) all_old,
      All-head (λ old. Begins old after.0.seen) theirs.0.seen (theirs.0.old_seen ++ me.0.old_seen)
          (All-tail (λ old. Begins old after.0.seen) me.0.seen (theirs.0.seen ∷ (theirs.0.old_seen ++ me.0.old_seen)) all_old),
    )

    after_live : 0 < after.0.parts
    after_live = omega (arith, ap (λ (m : Me (Option V) (View O S Q)). m.0.parts) is, live)

    -- the calls of both stand in it
    pub joined_calls : (history : List (Entry S)) → All (AreCalls history) (calls_of after.0) → All (AreCalls history) (own_calls me.0 ∷ own_calls theirs.0 ∷ (theirs.0.old_calls ++ me.0.old_calls))
    joined_calls history all = subst (λ (m : Me (Option V) (View O S Q)). All (AreCalls history) (own_calls m.0 ∷ m.0.old_calls)) is
        (subst (All (AreCalls history)) (calls_live after.0 after_live) all)

    pub joined_own : (places me.0.caller after.0.seen ≡ wrote me.0.mine) × (places theirs.0.caller after.0.seen ≡ wrote theirs.0.mine)
    joined_own =
        let all = joined_calls after.0.seen calls in (
          All-head (AreCalls after.0.seen) (own_calls me.0) (own_calls theirs.0 ∷ (theirs.0.old_calls ++ me.0.old_calls)) all,
          All-head (AreCalls after.0.seen) (own_calls theirs.0) (theirs.0.old_calls ++ me.0.old_calls)
              (All-tail (AreCalls after.0.seen) (own_calls me.0) (own_calls theirs.0 ∷ (theirs.0.old_calls ++ me.0.old_calls)) all),
        )

    pub seated_join : (caller count other found : ℕ) → IsSeated caller count me → IsSeated theirs.0.caller other theirs → found ≡ max count other → IsSeated caller found after
    seated_join caller count other found seated theirs_seated found_is = record {
      caller_is = seated.caller_is ∙ sym (ap (λ (m : Me (Option V) (View O S Q)). m.0.caller) is);
      count_is = omega (arith, found_is, seated.count_is, theirs_seated.count_is, longer_length theirs.0.seen me.0.seen, ap (λ (m : Me (Option V) (View O S Q)). length m.0.seen) is);
      few = omega (arith, found_is, seated.few, theirs_seated.few);
      no_spare = ap (λ (m : Me (Option V) (View O S Q)). m.0.spare) is ∙ seated.no_spare;
      live = after_live;
      rests = subst (λ (m : Me (Option V) (View O S Q)). IsAtRest m.0.stage m.1) (sym is) seated.rests;
      legal = subst (λ (m : Me (Option V) (View O S Q)). AreLegal m.0.caller after.0.seen m.0.mine) (sym is)
          (legal_seen me.0.caller me.0.seen after.0.seen me.0.mine seated.legal joined_seen.0 joined_own.0);
    }
