-- What one more mark does to a walk, whatever is seen and whatever comes later.
use Rattle.std.proofs.Common.{◌≡◌, ◌∙◌, refl, ap, sym, subst, ℕ, ◌-◌, Bool, List, [], ◌∷◌, ◌++◌, length, drop, None, Some, arith, append_assoc, length-append}
use Rattle.std.proofs.Math.Seq.{drop-append_seam}
use Rattle.wm_history.specs.History.{Entry, History, Start, answer, stopped}
use Rattle.wm_history.specs.Look.{look}
use Rattle.wm_core.specs.Passes.{Begins}
use Rattle.wm_core.specs.declared.asked.Asked.{Asked}
use Rattle.wm_core.specs.declared.asked.Asked.TheVariants as asked
use Rattle.wm_history.specs.declared.look.Query.{Query}
use Rattle.wm_history.specs.declared.look.Query.TheVariants as query
use Rattle.wm_history.specs.declared.look.View.{View}
use Rattle.wm_frames.specs.declared.message.Message.{Message}
use Rattle.wm_talk.specs.Calls.{call_of}
use Rattle.wm_talk.specs.declared.calls.Call.TheVariants as call
use Rattle.wm_talk.specs.declared.got.Got.{Got}
use Rattle.wm_talk.specs.declared.got.Got.TheVariants as got
use Rattle.wm_turn.specs.declared.view.Mark.{Mark}
use Rattle.wm_turn.specs.declared.view.Mark.TheVariants.{Wrote, Read}
use Rattle.wm_session.specs.Places.{at_length, entry_at, newest}
use Rattle.wm_session.specs.Serving.{Walks}
use Rattle.wm_session.specs.Walk.{Fit, FitsNext, FitsQuery, IsFree, IsNextStep, IsStepOf, Walk, answered, answered_by, answer_at, asked_stop, events_above, events_read, next, seen_by, unasked, walk}

-- ---- histories

pub begins_more : (first mid last : History) → Begins first mid → Begins mid last → Begins first last
begins_more first mid last (more, e) (after, f) = (after ++ more, f ∙ ap (λ h. after ++ h) e ∙ sym (append_assoc after more first))

pub begins_same : (h : History) → Begins h h
begins_same h = ([], refl)

pub at_length_later : (seen later : History) → Begins seen later → at_length (length seen) later ≡ seen
at_length_later seen later (more, e) =
    let count : length later - length seen ≡ length more = omega (arith, ap length e, length-append more seen) in
    ap (λ n. drop n later) count ∙ ap (λ h. drop (length more) h) e ∙ drop-append_seam more seen

-- the entry that was added is at its place, and before it stands what stood before
pub entry_later : (entry : Entry) (before later : History) → Begins (entry ∷ before) later → entry_at (length before) later ≡ Some entry
entry_later entry before later b = ap newest (ap (λ n. at_length n later) (omega arith) ∙ at_length_later (entry ∷ before) later b)

pub begins_before : (entry : Entry) (before later : History) → Begins (entry ∷ before) later → Begins before later
begins_before entry before later b = begins_more before (entry ∷ before) later (entry ∷ [], refl) b

-- ---- walks

pub walks_later : (start : Start) (who : ℕ) (seen after : History) (given : List Message) (marks : List (Mark Asked)) (w : Walk)
    → Begins seen after → Walks start who seen given marks w → Walks start who after given marks w
walks_later start who seen after given marks w b h = record {
  is = λ later more c. h.is later more (begins_more seen after later b c);
  fit = λ later more c. h.fit later more (begins_more seen after later b c);
}

pub walks_none : (start : Start) (who : ℕ) (seen : History) → Walks start who seen [] [] (unasked [])
walks_none start who seen = record { is = λ later more b. refl; fit = λ later more b. (record {}) }

-- the walk where the next message is m
next_message : (start : Start) (who : ℕ) (seen : History) (given : List Message) (marks : List (Mark Asked)) (w : Walk) (m : Message) → Walks start who seen given marks w
    → (later : History) (more : List Message) → Begins seen later → walk start who later ((given ++ m ∷ []) ++ more) marks ≡ record w { left = m ∷ more }
next_message start who seen given marks w m h later more b = ap {A = List Message} (λ ms. walk start who later ms marks) (append_assoc given (m ∷ []) more) ∙ h.is later (m ∷ more) b

next_fit : (start : Start) (who : ℕ) (seen : History) (given : List Message) (marks : List (Mark Asked)) (w : Walk) (m : Message) → Walks start who seen given marks w
    → (later : History) (more : List Message) → Begins seen later → Fit start who later ((given ++ m ∷ []) ++ more) marks
next_fit start who seen given marks w m h later more b = subst (λ ms. Fit start who later ms marks) (sym (append_assoc given (m ∷ []) more)) (h.fit later (m ∷ more) b)

free_with : (w : Walk) (ms : List Message) → IsFree w → IsFree (record w { left = ms })
free_with w ms f = record { read = f.read; going = f.going; kept = f.kept }

answer_later : (start : Start) (entry : Entry) (before later : History) (g : Got) → Begins (entry ∷ before) later → g ≡ got.Answer (answer start before entry)
    → answer_at start (at_length (length before) later) (entry_at (length before) later) ≡ Some g
answer_later start entry before later g b e =
    ap (λ h. answer_at start h (entry_at (length before) later)) (at_length_later before later (begins_before entry before later b))
    ∙ ap (answer_at start before) (entry_later entry before later b)
    ∙ ap (λ x. Some x) (sym e)

-- the step of the next message was taken
pub walks_wrote : (start : Start) (who : ℕ) (seen : History) (given : List Message) (marks : List (Mark Asked)) (w : Walk) (m : Message) (g : Got) (entry : Entry) (before : History)
    → Walks start who seen given marks w → IsFree w → Begins seen before → IsStepOf (call_of m) entry.act → g ≡ got.Answer (answer start before entry)
    → Walks start who (entry ∷ before) (given ++ m ∷ []) (Wrote (length before) ∷ marks) (answered_by m g w)
walks_wrote start who seen given marks w m g entry before h free b step e =
    let mark : Mark Asked = Wrote (length before) in
    let old = λ (later : History) (c : Begins (entry ∷ before) later). begins_more seen before later b (begins_before entry before later c) in
    record {
      is = λ later more c.
          ap (next start who later mark) (next_message start who seen given marks w m h later more (old later c))
          ∙ ap (λ o. answered (m ∷ more) o (record w { left = m ∷ more })) (answer_later start entry before later g c e);
      fit = λ later more c. (
        next_fit start who seen given marks w m h later more (old later c),
        subst (FitsNext later mark) (sym (next_message start who seen given marks w m h later more (old later c)))
            (free_with w (m ∷ more) free, subst (IsNextStep (m ∷ more)) (sym (entry_later entry before later c)) step),
      );
    }

-- the next message looked
pub walks_looked : (start : Start) (who : ℕ) (seen after : History) (given : List Message) (marks : List (Mark Asked)) (w : Walk) (m : Message) (g : Got) (q : Query)
    → Walks start who seen given marks w → IsFree w → Begins seen after → call_of m ≡ call.Look q → events_above q ≡ None → g ≡ got.View (look start after who q)
    → Walks start who after (given ++ m ∷ []) (Read (asked.Query q) (length after) ∷ marks) (answered_by m g w)
walks_looked start who seen after given marks w m g q h free b asks none e =
    let mark : Mark Asked = Read (asked.Query q) (length after) in
    let old = λ (later : History) (c : Begins after later). begins_more seen after later b c in
    record {
      is = λ later more c.
          ap (next start who later mark) (next_message start who seen given marks w m h later more (old later c))
          ∙ ap (λ o. seen_by o (look start (at_length (length after) later) who q) (record w { left = m ∷ more })) none
          ∙ ap (λ past. answered (m ∷ more) (Some (got.View (look start past who q))) (record w { left = m ∷ more })) (at_length_later after later c)
          ∙ ap (λ x. answered (m ∷ more) (Some x) (record w { left = m ∷ more })) (sym e);
      fit = λ later more c. (
        next_fit start who seen given marks w m h later more (old later c),
        subst (FitsNext later mark) (sym (next_message start who seen given marks w m h later more (old later c)))
            (subst (λ o. FitsQuery o q (record w { left = m ∷ more })) (sym none) (free_with w (m ∷ more) free, asks)),
      );
    }

-- events were read
pub walks_read : (start : Start) (who : ℕ) (seen after : History) (given : List Message) (marks : List (Mark Asked)) (w : Walk) (v : View) (above : ℕ)
    → Walks start who seen given marks w → w.due ≡ Some above → w.behind ≡ None → Begins seen after → v ≡ look start after who (query.Events above)
    → Walks start who after given (Read (asked.Query (query.Events above)) (length after) ∷ marks) (events_read v w)
walks_read start who seen after given marks w v above h due kept b e =
    let mark : Mark Asked = Read (asked.Query (query.Events above)) (length after) in
    let old = λ (later : History) (c : Begins after later). begins_more seen after later b c in
    record {
      is = λ later more c.
          ap (next start who later mark) (h.is later more (old later c))
          ∙ ap (λ past. events_read (look start past who (query.Events above)) (record w { left = more })) (at_length_later after later c)
          ∙ ap (λ x. events_read x (record w { left = more })) (sym e);
      fit = λ later more c. (h.fit later more (old later c), subst (FitsNext later mark) (sym (h.is later more (old later c))) (due, kept));
    }

-- it was asked whether the desk is to stop
pub walks_asked : (start : Start) (who : ℕ) (seen after : History) (given : List Message) (marks : List (Mark Asked)) (w : Walk) (stops : Bool)
    → Walks start who seen given marks w → IsFree w → Begins seen after → stops ≡ stopped start after
    → Walks start who after given (Read asked.Stopped (length after) ∷ marks) (asked_stop stops w)
walks_asked start who seen after given marks w stops h free b e =
    let mark : Mark Asked = Read asked.Stopped (length after) in
    let old = λ (later : History) (c : Begins after later). begins_more seen after later b c in
    record {
      is = λ later more c.
          ap (next start who later mark) (h.is later more (old later c))
          ∙ ap (λ past. asked_stop (stopped start past) (record w { left = more })) (at_length_later after later c)
          ∙ ap (λ x. asked_stop x (record w { left = more })) (sym e);
      fit = λ later more c. (h.fit later more (old later c), subst (FitsNext later mark) (sym (h.is later more (old later c))) (free_with w more free));
    }
