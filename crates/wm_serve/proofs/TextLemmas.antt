-- The texts that a session's marks run are those of the messages that it answered.
use Rattle.std.proofs.Common.{◌≡◌, ◌∙◌, refl, sym, ap, ap₂, arith, ℕ, List, [], ◌∷◌, ◌++◌, length, take, Option, None, Some, append_assoc, length-append}
use Rattle.std.proofs.lemmas.Grind.{flat_map-append}
use Rattle.std.proofs.Math.Seq.{take-append_seam}
use Rattle.std.specs.List.{AllByRecursion, flat_map}
use Rattle.wm_history.specs.Act.{Act}
use Rattle.wm_history.specs.History.{Entry, History, Start}
use Rattle.wm_history.specs.Look.{look}
use Rattle.wm_core.specs.declared.asked.Asked.{Asked}
use Rattle.wm_core.specs.declared.asked.Asked.TheVariants as asked
use Rattle.wm_history.specs.declared.look.Query.{Query}
use Rattle.wm_history.specs.declared.look.View.{View}
use Rattle.wm_frames.specs.declared.message.Message.{Message}
use Rattle.wm_talk.specs.Calls.{call_of}
use Rattle.wm_talk.specs.declared.calls.Call.{Call}
use Rattle.wm_talk.specs.declared.calls.Call.TheVariants as call
use Rattle.wm_talk.specs.declared.got.Got.{Got}
use Rattle.wm_talk.specs.declared.got.Got.TheVariants as got
use Rattle.wm_turn.specs.History.{wrote}
use Rattle.wm_turn.specs.declared.view.Mark.{Mark}
use Rattle.wm_turn.specs.declared.view.Mark.TheVariants.{Wrote, Read}
use Rattle.wm_session.specs.Places.{at_length, entry_at}
use Rattle.wm_session.specs.Walk.{Fit, FitsQuery, FitsRead, IsNextLook, IsNextStep, IsStepOf, Walk, answer_at, answered, events_above, next_read, seen_by, walk}
use Rattle.wm_serve.specs.Said.{text_in}
use Rattle.wm_serve.proofs.PlaceLemmas.{text_at, texts_at}

-- the text that a call runs
abbrev pub call_text : Call → List (List ℕ)
call_text (call.Run text) = text ∷ []
call_text other = []

abbrev pub message_text : Message → List (List ℕ)
message_text m = call_text (call_of m)

-- the texts that messages run
abbrev pub asked_texts : List Message → List (List ℕ)
asked_texts ms = flat_map message_text ms

-- ---- one mark

step_text : (c : Call) (a : Act) → IsStepOf c a → text_in a ≡ call_text c
step_text (call.Run text) a (verdict, is, said) = ap text_in said
step_text (call.Tick text) a said = ap text_in said
step_text (call.Look q) a none = absurd none

look_text : (m : Message) (q : Query) → call_of m ≡ call.Look q → call_text (call_of m) ≡ []
look_text m q is = ap call_text is

-- a step takes the next message, and runs its text
wrote_next : (start : Start) (before : History) (left : List Message) (entry : Option Entry) (w : Walk) → IsNextStep left entry
    → text_at entry ++ asked_texts (answered left (answer_at start before entry) w).left ≡ asked_texts left
wrote_next start before [] entry w none = absurd none
wrote_next start before (m ∷ ms) None w none = absurd none
wrote_next start before (m ∷ ms) (Some entry) w step = ap (λ ts. ts ++ asked_texts ms) (step_text (call_of m) entry.act step)

-- a look that a message asks for takes it, and runs no text
looked_next : (left : List Message) (q : Query) (g : Got) (w : Walk) → IsNextLook left q → asked_texts (answered left (Some g) w).left ≡ asked_texts left
looked_next [] q g w none = absurd none
looked_next (m ∷ ms) q g w is = ap (λ ts. ts ++ asked_texts ms) (sym (look_text m q is))

seen_next : (above : Option ℕ) (q : Query) (v : View) (w : Walk) → FitsQuery above q w → asked_texts (seen_by above v w).left ≡ asked_texts w.left
seen_next None q v w (free, is) = looked_next w.left q (got.View v) w is
seen_next (Some above) q v w due = refl

read_next : (start : Start) (who : ℕ) (history : History) (question : Asked) (w : Walk) → FitsRead question w
    → asked_texts (next_read start who history question w).left ≡ asked_texts w.left
read_next start who history asked.Stopped w fits = refl
read_next start who history asked.Frame w none = absurd none
read_next start who history (asked.Query q) w fits = seen_next (events_above q) q (look start history who q) w fits

-- ---- all marks

-- What marks run that fit, and what the messages run that none of them took, is what all the messages run.
pub fit_texts : (start : Start) (who : ℕ) (seen : History) (messages : List Message) (marks : List (Mark Asked)) → Fit start who seen messages marks
    → texts_at seen (wrote marks) ++ asked_texts (walk start who seen messages marks).left ≡ asked_texts messages
fit_texts start who seen messages [] fit = refl
fit_texts start who seen messages (Wrote place ∷ marks) (fit, (free, step)) =
    let w : Walk = walk start who seen messages marks in
    append_assoc (texts_at seen (wrote marks)) (text_at (entry_at place seen)) _
    ∙ ap (λ ts. texts_at seen (wrote marks) ++ ts) (wrote_next start (at_length place seen) w.left (entry_at place seen) w step)
    ∙ fit_texts start who seen messages marks fit
fit_texts start who seen messages (Read question count ∷ marks) (fit, fits) =
    let w : Walk = walk start who seen messages marks in
    ap (λ ts. texts_at seen (wrote marks) ++ ts) (read_next start who (at_length count seen) question w fits)
    ∙ fit_texts start who seen messages marks fit

-- ---- messages that all run a text

-- the message runs a text
abbrev pub Runs : Message → Type 0
Runs m = length (message_text m) ≡ 1

-- what holds of all messages holds of those that are left
left_answered : (P : Message → Type 0) (left : List Message) (g : Option Got) (w : Walk) → AllByRecursion P left → AllByRecursion P w.left → AllByRecursion P (answered left g w).left
left_answered P [] g w every there = there
left_answered P (m ∷ ms) None w every there = there
left_answered P (m ∷ ms) (Some g) w every there = every.1

left_seen : (P : Message → Type 0) (above : Option ℕ) (v : View) (w : Walk) → AllByRecursion P w.left → AllByRecursion P (seen_by above v w).left
left_seen P None v w every = left_answered P w.left (Some (got.View v)) w every every
left_seen P (Some above) v w every = every

left_read : (P : Message → Type 0) (start : Start) (who : ℕ) (history : History) (question : Asked) (w : Walk) → AllByRecursion P w.left → AllByRecursion P (next_read start who history question w).left
left_read P start who history asked.Stopped w every = every
left_read P start who history asked.Frame w every = every
left_read P start who history (asked.Query q) w every = left_seen P (events_above q) (look start history who q) w every

left_all : (P : Message → Type 0) (start : Start) (who : ℕ) (seen : History) (messages : List Message) (marks : List (Mark Asked)) → AllByRecursion P messages → AllByRecursion P (walk start who seen messages marks).left
left_all P start who seen messages [] every = every
left_all P start who seen messages (Wrote place ∷ marks) every =
    let w : Walk = walk start who seen messages marks in
    let there : AllByRecursion P w.left = left_all P start who seen messages marks every in
    left_answered P w.left (answer_at start (at_length place seen) (entry_at place seen)) w there there
left_all P start who seen messages (Read question count ∷ marks) every =
    left_read P start who (at_length count seen) question (walk start who seen messages marks) (left_all P start who seen messages marks every)

one_text : (left : List Message) (entry : Option Entry) → IsNextStep left entry → AllByRecursion Runs left → length (text_at entry) ≡ 1
one_text [] entry none every = absurd none
one_text (m ∷ ms) None none every = absurd none
one_text (m ∷ ms) (Some entry) step every = ap length (step_text (call_of m) entry.act step) ∙ every.0

-- where each message runs a text, each entry does
fit_count : (start : Start) (who : ℕ) (seen : History) (messages : List Message) (marks : List (Mark Asked)) → AllByRecursion Runs messages → Fit start who seen messages marks
    → length (texts_at seen (wrote marks)) ≡ length (wrote marks)
fit_count start who seen messages [] every fit = refl
fit_count start who seen messages (Wrote place ∷ marks) every (fit, (free, step)) =
    let one : length (text_at (entry_at place seen)) ≡ 1 = one_text (walk start who seen messages marks).left (entry_at place seen) step (left_all Runs start who seen messages marks every) in
    omega (arith, one, length-append (texts_at seen (wrote marks)) (text_at (entry_at place seen)), fit_count start who seen messages marks every fit)
fit_count start who seen messages (Read question count ∷ marks) every (fit, fits) = fit_count start who seen messages marks every fit

-- a first part that is so long
first_part : {A : Type 0} (xs ys all : List A) (n : ℕ) → xs ++ ys ≡ all → length xs ≡ n → xs ≡ take n all
first_part xs ys all n is long = sym (take-append_seam xs ys) ∙ ap₂ (λ k zs. take k zs) long is

-- The entries of marks that fit run the first of the texts of messages that each run one.
pub fit_first : (start : Start) (who : ℕ) (seen : History) (messages more : List Message) (marks : List (Mark Asked)) → AllByRecursion Runs messages → Fit start who seen messages marks
    → texts_at seen (wrote marks) ≡ take (length (wrote marks)) (asked_texts (messages ++ more))
fit_first start who seen messages more marks every fit =
    first_part (texts_at seen (wrote marks)) (asked_texts (walk start who seen messages marks).left ++ asked_texts more) (asked_texts (messages ++ more)) (length (wrote marks))
    (sym (append_assoc (texts_at seen (wrote marks)) (asked_texts (walk start who seen messages marks).left) (asked_texts more))
    ∙ ap (λ ts. ts ++ asked_texts more) (fit_texts start who seen messages marks fit) ∙ sym (flat_map-append message_text messages more))
    (fit_count start who seen messages marks every fit)
