-- How a client's session ends.
use Rattle.std.proofs.Common.{◌≡◌, ◌∙◌, refl, ap, sym, subst, ℕ, suc, ◌+◌, ◌<◌, ◌≤◌, ◌⊎◌, inr, Bool, true, false, List, [], length, length-append, Option, None, Some, Ok, Err, Result, IsErrAnd, arith}
use Rattle.wm_history.specs.Act.{Act}
use Rattle.wm_history.specs.Look.{look}
use Rattle.wm_core.specs.Passes.{Acts, Looked, Pass, Took}
use Rattle.wm_core.specs.declared.asked.Asked.TheVariants as asked
use Rattle.wm_history.specs.declared.look.View.{View}
use Rattle.wm_core.specs.declared.refusals.ActRefusal.{ActRefusal}
use Rattle.wm_core.specs.declared.refusals.ActRefusal.TheVariants as refusals
use Rattle.wm_history.specs.declared.step.Answer.{Answer}
use Rattle.wm_cut.specs.Lines.{behind_line, first_line, lines_in, rest_in}
use Rattle.wm_cut.proofs.CutLemmas.{no_line}
use Rattle.wm_lines.specs.Told.{answer_text}
use Rattle.wm_ports.specs.Linking.{LinkTold, SendsPart}
use Rattle.wm_session.specs.Telling.{wire}
use Rattle.wm_clients.specs.Endings.{end_of_refusal}
use Rattle.wm_clients.specs.Lines.{LONGEST, bad_from, bad_line, line_act}
use Rattle.wm_clients.specs.Served.{Stage, stage}
use Rattle.wm_clients.specs.Serving.{Ends, GoesOn, Going, IsPart, Spot, free_spot}
use Rattle.wm_clients.specs.Telling.{IsReadAs, IsSendEnd, Tells}
use Rattle.wm_clients.specs.Wanted.{after_wants, wants_above, wants_in}
use Rattle.wm_clients.specs.declared.ending.ClientEnd.{ClientEnd}
use Rattle.wm_clients.specs.declared.ending.ClientEnd.TheVariants as end
use Rattle.wm_clients.specs.declared.sent.Sent.{Sent}
use Rattle.wm_clients.proofs.GoingLemmas.{bad_ahead, going_answered, going_any, going_part, going_read, going_saw}
use Rattle.wm_clients.proofs.LineLemmas.{bad_long, bad_next, lines_ahead, lines_now, none_bad}

-- as many receivings as questions, or one more
abbrev pub AreTurns : Spot → Type 0
AreTurns s = (s.turns ≡ s.stops) ⊎ (s.turns ≡ suc s.stops)

-- ---- results

-- the session has ended as the result says
pub ends_as : {A : Type 0} (first now : Stage) (ok : A → Type 0) (r : Result A ClientEnd) (e : ClientEnd) → Ends first now e → IsErrAnd r (λ x. x ≡ e) → GoesOn first now ok r
ends_as first now ok (Ok x) e h k = absurd k
ends_as first now ok (Err x) e h k = subst (Ends first now) (sym k) h

-- ---- what was not done for want of memory, or because the link or the door failed

pub ends_no_memory : (first now : Stage) (s : Spot) → Going false first now s → AreTurns s → Ends first now end.NoMemory
ends_no_memory first now s h asks = record { spot = s; going = h; asks = asks; cause = λ told. tt }

-- the end of a session by a sending
pub ends_unsent : (first now : Stage) (s : Spot) (old : ℕ) (e : ClientEnd) → Going false first now s → first.faults ≤ old → IsSendEnd e old now.faults → AreTurns s → Ends first now e
ends_unsent first now s old end.LinkFault h before is asks = record { spot = s; going = h; asks = asks; cause = λ told. omega (arith, before, is) }
ends_unsent first now s old end.NoMemory h before is asks = ends_no_memory first now s h asks
ends_unsent first now s old end.Closed h before is asks = absurd is
ends_unsent first now s old end.Truncated h before is asks = absurd is
ends_unsent first now s old (end.BadLine line) h before is asks = absurd is
ends_unsent first now s old end.Stopped h before is asks = absurd is
ends_unsent first now s old end.Exhausted h before is asks = absurd is

-- the step was not taken
pub not_taken_by : (whole : Bool) (first now : Stage) (s : Spot) (pass : Pass) (act : Act) (refusal : ActRefusal)
    → Going whole first now s → AreTurns s → Acts now.pass pass act (Err refusal) → Ends first (stage pass now.link now.faults) (end_of_refusal refusal)
not_taken_by whole first now s pass act refusals.NoMemory h asks (saw, few) =
    let to = stage pass now.link now.faults in
    ends_no_memory first to s (going_any whole first to s (going_saw whole first now s pass h saw)) asks
not_taken_by whole first now s pass act (refusals.Exhausted e) h asks (saw, most) =
    let to = stage pass now.link now.faults in
    record { spot = s; going = going_any whole first to s (going_saw whole first now s pass h saw); asks = asks; cause = λ told. most.0 }

-- the answer was not sent
pub not_answered : (first now : Stage) (s : Spot) (pass : Pass) (link : Option LinkTold) (faults : ℕ) (line : List ℕ) (act : Act) (said : Answer) (e : ClientEnd)
    → Going true first now s → s.due ≡ false → s.stopping ≡ false → first_line s.pending ≡ Some line → line_act line ≡ Some act → AreTurns s
    → Took now.pass pass act said
    → SendsPart now.link link (answer_text said) × (now.faults ≤ faults) × IsSendEnd e now.faults faults
    → Ends first (stage pass link faults) e
not_answered first now s pass link faults line act said e h due going next step asks took (part, more, is) =
    ends_unsent first (stage pass link faults) (record s { due = true; count = s.count + 1; pending = behind_line s.pending }) now.faults e
    (going_answered false first now s pass link faults line act said h due going next step took part more) h.risen is asks

-- ---- telling

-- what is asked was read, and the session goes on or ends by how it was told
pub tells_on : {A : Type 0} (first now : Stage) (s : Spot) (pass : Pass) (link : Option LinkTold) (faults : ℕ) (v : View) (after : Sent) (r : Result A ClientEnd)
    → Going true first now s → s.due ≡ true → AreTurns s
    → Looked now.pass pass (asked.Query (wants_above s.sent)) (λ start seen. v ≡ look start seen now.pass.caller (wants_above s.sent))
    → Tells v s.sent after (wire now.link now.faults) (wire link faults) r
    → GoesOn first (stage pass link faults) (λ x. Going true first (stage pass link faults) (record s { sent = after; due = false })) r
tells_on first now s pass link faults v after (Ok x) h due asks looked (is, sent) =
    let to : Stage = stage pass link faults in
    subst (λ t. Going true first to (record s { sent = t; due = false })) (sym is)
    (going_read true first now s pass link faults v h due looked sent.0 sent.1)
tells_on first now s pass link faults v after (Err e) h due asks looked (part, more, is) =
    ends_unsent first (stage pass link faults) (record s { sent = after_wants (wants_in v) s.sent; due = false }) now.faults e
    (going_read false first now s pass link faults v h due looked part more) h.risen is asks

-- the same, where these are the greatest numbers
pub tells_from : {A : Type 0} (first now : Stage) (s : Spot) (greatest : Sent) (pass : Pass) (link : Option LinkTold) (faults : ℕ) (v : View) (after : Sent) (r : Result A ClientEnd)
    → Going true first now s → s.sent ≡ greatest → s.due ≡ true → AreTurns s
    → Looked now.pass pass (asked.Query (wants_above greatest)) (λ start seen. v ≡ look start seen now.pass.caller (wants_above greatest))
    → Tells v greatest after (wire now.link now.faults) (wire link faults) r
    → GoesOn first (stage pass link faults) (λ x. Going true first (stage pass link faults) (record s { sent = after; due = false })) r
tells_from first now s greatest pass link faults v after r h is due asks looked tells =
    tells_on first now s pass link faults v after r h due asks
    (subst (λ x. Looked now.pass pass (asked.Query (wants_above x)) (λ start seen. v ≡ look start seen now.pass.caller (wants_above x))) (sym is) looked)
    (subst (λ x. Tells v x after (wire now.link now.faults) (wire link faults) r) (sym is) tells)

-- so many lines were answered
pub counted_as : {A : Type 0} (first now : Stage) (r : Result A ClientEnd) (sent : Sent) (received pending : List ℕ) (stops count lines : ℕ) → count ≡ lines
    → GoesOn first now (λ x. Going true first now (free_spot sent count received pending (suc stops) stops)) r
    → GoesOn first now (λ x. Going true first now (free_spot sent lines received pending (suc stops) stops)) r
counted_as first now r sent received pending stops count lines is h =
    subst (λ n. GoesOn first now (λ x. Going true first now (free_spot sent n received pending (suc stops) stops)) r) is h

-- the desk goes on, and so many lines were answered
pub asked_as : {A : Type 0} (first now : Stage) (r : Result A ClientEnd) (sent : Sent) (received pending : List ℕ) (stops : ℕ) (says : Bool) (count lines : ℕ) → count ≡ lines → says ≡ false
    → GoesOn first now (λ x. Going true first now (record (free_spot sent count received pending (suc stops) (suc stops)) { stopping = says })) r
    → GoesOn first now (λ x. Going true first now (free_spot sent lines received pending (suc stops) (suc stops))) r
asked_as first now r sent received pending stops says count lines is goes h =
    subst (λ n. GoesOn first now (λ x. Going true first now (free_spot sent n received pending (suc stops) (suc stops))) r) is
    (subst (λ b. GoesOn first now (λ x. Going true first now (record (free_spot sent count received pending (suc stops) (suc stops)) { stopping = b })) r) goes h)

-- ---- bad lines

-- a bad line comes next
pub ends_bad : (first now : Stage) (sent : Sent) (count : ℕ) (received pending line : List ℕ) (stops : ℕ)
    → Going true first now (free_spot sent count received pending (suc stops) stops) → first_line pending ≡ Some line → line_act line ≡ None
    → Ends first now (end.BadLine (count + 1))
ends_bad first now sent count received pending line stops h next bad =
    let s : Spot = free_spot sent count received pending (suc stops) stops in
    record {
      spot = s;
      going = h;
      asks = inr refl;
      cause = λ told. (record {
        free = record { read = refl; going = refl };
        first = bad_ahead true first now s h ∙ ap (λ ls. bad_from (count + 1) ls (rest_in pending)) (lines_ahead pending line next) ∙ bad_next (count + 1) line (lines_in (behind_line pending)) (rest_in pending) bad;
        before = omega (arith, h.counted, ap length (lines_now received h.given pending h.cuts), length-append h.given (lines_in pending));
      });
    }

-- the next line has no step, or there was no memory
pub ends_unread : (first now : Stage) (sent : Sent) (count : ℕ) (received pending line : List ℕ) (stops : ℕ) (e : ClientEnd)
    → Going true first now (free_spot sent count received pending (suc stops) stops) → first_line pending ≡ Some line → IsReadAs line (count + 1) (Err e)
    → Ends first now e
ends_unread first now sent count received pending line stops (end.BadLine bad) h next (none, is) = subst (λ n. Ends first now (end.BadLine n)) (sym is) (ends_bad first now sent count received pending line stops h next none)
ends_unread first now sent count received pending line stops end.NoMemory h next is =
    let s : Spot = free_spot sent count received pending (suc stops) stops in
    ends_no_memory first now s (going_part first now s h) (inr refl)
ends_unread first now sent count received pending line stops end.Closed h next is = absurd is
ends_unread first now sent count received pending line stops end.Truncated h next is = absurd is
ends_unread first now sent count received pending line stops end.Stopped h next is = absurd is
ends_unread first now sent count received pending line stops end.LinkFault h next is = absurd is
ends_unread first now sent count received pending line stops end.Exhausted h next is = absurd is

-- what is pending is too long already
pub ends_long : (first now : Stage) (sent : Sent) (count : ℕ) (received pending : List ℕ) (stops : ℕ)
    → Going true first now (free_spot sent count received pending (suc stops) stops) → first_line pending ≡ None → LONGEST < length pending
    → Ends first now (end.BadLine (count + 1))
ends_long first now sent count received pending stops h none long =
    let s : Spot = free_spot sent count received pending (suc stops) stops in
    record {
      spot = s;
      going = h;
      asks = inr refl;
      cause = λ told. (record {
        free = record { read = refl; going = refl };
        first = bad_ahead true first now s h ∙ ap (λ ls. bad_from (count + 1) ls (rest_in pending)) (no_line pending none).0 ∙ ap (bad_from (count + 1) []) (no_line pending none).1 ∙ bad_long (count + 1) pending long;
        before = omega (arith, h.counted, ap length (lines_now received h.given pending h.cuts), length-append h.given (lines_in pending));
      });
    }

-- no line is bad where none is pending and what is may still become a line
pub none_is_bad : (whole : Bool) (first now : Stage) (s : Spot) → Going whole first now s → IsPart s.pending → bad_line s.received ≡ None
none_is_bad whole first now s h (none, short) =
    bad_ahead whole first now s h
    ∙ ap (λ ls. bad_from (s.count + 1) ls (rest_in s.pending)) (no_line s.pending none).0
    ∙ ap (bad_from (s.count + 1) []) (no_line s.pending none).1
    ∙ none_bad (s.count + 1) s.pending short

-- ---- the desk is to stop

pub ends_stopped : (first now : Stage) (s : Spot) → Going true first now s → IsPart s.pending → s.due ≡ false → s.stopping ≡ true → s.turns ≡ s.stops → Ends first now end.Stopped
ends_stopped first now s h part due stopping asks = record {
  spot = s;
  going = h;
  asks = asks;
  cause = λ told. (record { all = (no_line s.pending part.0).0; good = none_is_bad true first now s h part; read = due }, stopping);
}
