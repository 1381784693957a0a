-- What a session tells is what its messages and readings tell.
use Rattle.std.proofs.Common.{◌≡◌, ◌∙◌, refl, ap, sym, ℕ, List, [], ◌∷◌, ◌++◌, Option, None, Some}
use Rattle.std.proofs.lemmas.List.{append-nil}
use Rattle.wm_history.specs.History.{History, Start}
use Rattle.wm_history.specs.Look.{look}
use Rattle.wm_core.specs.declared.asked.Asked.{Asked}
use Rattle.wm_core.specs.declared.asked.Asked.TheVariants as asked
use Rattle.wm_history.specs.declared.look.View.{View}
use Rattle.wm_frames.specs.declared.message.Message.{Message}
use Rattle.wm_talk.specs.Marks as talking
use Rattle.wm_talk.specs.Talking.{NEW}
use Rattle.wm_talk.specs.Told.{replied, told}
use Rattle.wm_talk.specs.declared.got.Got.{Got}
use Rattle.wm_talk.specs.declared.got.Got.TheVariants as got
use Rattle.wm_talk.specs.declared.talk.Talk.{Talk}
use Rattle.wm_talk.proofs.LawLemmas.{goes_on}
use Rattle.wm_turn.specs.declared.view.Mark.{Mark}
use Rattle.wm_turn.specs.declared.view.Mark.TheVariants.{Wrote, Read}
use Rattle.wm_session.specs.Places.{at_length, entry_at}
use Rattle.wm_session.specs.Talks.{message_with, part_of, parts_of, read_with, seen_with}
use Rattle.wm_session.specs.Walk.{Walk, answer_at, answered, events_above, next, next_read, seen_by, walk}

-- this walk tells what these parts tell after that one, and leaves what they leave
record Tells (old new : Walk) (parts : List talking.Mark) : Type 0 where
  told_is : new.told ≡ old.told ++ talking.told_over old.talk parts
  talk_is : new.talk ≡ talking.after_marks parts old.talk

tells_nothing : (w : Walk) → Tells w w []
tells_nothing w = record { told_is = sym (append-nil w.told); talk_is = refl }

tells_message : (w : Walk) (left : List Message) (g : Option Got) → Tells w (answered left g w) (message_with left g)
tells_message w [] g = tells_nothing w
tells_message w (m ∷ ms) None = tells_nothing w
tells_message w (m ∷ ms) (Some g) = record { told_is = ap (λ x. w.told ++ x) (sym (append-nil (replied w.talk m g))); talk_is = refl }

tells_seen : (w : Walk) (above : Option ℕ) (v : View) → Tells w (seen_by above v w) (seen_with above w.left v)
tells_seen w None v = tells_message w w.left (Some (got.View v))
tells_seen w (Some above) v = record { told_is = ap (λ x. w.told ++ x) (sym (append-nil (told w.talk v))); talk_is = refl }

tells_read : (start : Start) (who : ℕ) (history : History) (q : Asked) (w : Walk) → Tells w (next_read start who history q w) (read_with start who history w.left q)
tells_read start who history asked.Stopped w = record { told_is = sym (append-nil w.told); talk_is = refl }
tells_read start who history asked.Frame w = tells_nothing w
tells_read start who history (asked.Query q) w = tells_seen w (events_above q) (look start history who q)

tells_next : (start : Start) (who : ℕ) (seen : History) (mark : Mark Asked) (w : Walk) → Tells w (next start who seen mark w) (part_of start who seen w.left mark)
tells_next start who seen (Wrote place) w = tells_message w w.left (answer_at start (at_length place seen) (entry_at place seen))
tells_next start who seen (Read q count) w = tells_read start who (at_length count seen) q w

pub goes_on_with : (start : Start) (who : ℕ) (seen : History) (messages : List Message) (mark : Mark Asked) (marks : List (Mark Asked))
    → (walk start who seen messages (mark ∷ marks)).told
    ≡ (walk start who seen messages marks).told ++ talking.told_over (walk start who seen messages marks).talk (part_of start who seen (walk start who seen messages marks).left mark)
goes_on_with start who seen messages mark marks = (tells_next start who seen mark (walk start who seen messages marks)).told_is

after_both : (t : Talk) (xs ys : List talking.Mark) → talking.after_marks (xs ++ ys) t ≡ talking.after_marks ys (talking.after_marks xs t)
after_both t [] ys = refl
after_both t (x ∷ xs) ys = after_both (talking.after_mark x t) xs ys

pub session_talk : (start : Start) (who : ℕ) (seen : History) (messages : List Message) (marks : List (Mark Asked))
    → (walk start who seen messages marks).talk ≡ talking.after_marks (parts_of start who seen messages marks) NEW
session_talk start who seen messages [] = refl
session_talk start who seen messages (mark ∷ marks) =
    let w = walk start who seen messages marks in
    let part = part_of start who seen w.left mark in
    (tells_next start who seen mark w).talk_is
    ∙ ap (λ t. talking.after_marks part t) (session_talk start who seen messages marks)
    ∙ sym (after_both NEW (parts_of start who seen messages marks) part)

pub session_told : (start : Start) (who : ℕ) (seen : History) (messages : List Message) (marks : List (Mark Asked))
    → (walk start who seen messages marks).told ≡ talking.told_over NEW (parts_of start who seen messages marks)
session_told start who seen messages [] = refl
session_told start who seen messages (mark ∷ marks) =
    let w = walk start who seen messages marks in
    let parts = parts_of start who seen messages marks in
    let part = part_of start who seen w.left mark in
    (tells_next start who seen mark w).told_is
    ∙ ap (λ xs. xs ++ talking.told_over w.talk part) (session_told start who seen messages marks)
    ∙ ap (λ t. talking.told_over NEW parts ++ talking.told_over t part) (session_talk start who seen messages marks)
    ∙ sym (goes_on NEW parts part)
