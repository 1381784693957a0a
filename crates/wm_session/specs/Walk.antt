-- What a link is told by the marks of its session, and which marks fit the messages that came on it.
use Rattle.std.specs.Prelude.{◌≡◌, ℕ, suc, Bool, false, List, [], ◌∷◌, ◌++◌, Option, None, Some}
use Rattle.std.specs.Option.{option_map}
use Rattle.wm_criteria.specs.Verdict.{IsVerdict}
use Rattle.wm_criteria.specs.declared.verdict.Verdict.{Verdict}
use Rattle.wm_history.specs.Act.{Act}
use Rattle.wm_history.specs.Act as act
use Rattle.wm_history.specs.History.{Entry, History, Start, answer, stopped}
use Rattle.wm_history.specs.Look.{look}
use Rattle.wm_core.specs.declared.asked.Asked.{Asked}
use Rattle.wm_core.specs.declared.asked.Asked.TheVariants as asked
use Rattle.wm_history.specs.declared.look.Query.{Query}
use Rattle.wm_history.specs.declared.look.Query.TheVariants as query
use Rattle.wm_history.specs.declared.look.View.{View}
use Rattle.wm_history.specs.declared.look.View.TheVariants as view
use Rattle.wm_frames.specs.declared.message.Message.{Message}
use Rattle.wm_talk.specs.Calls.{call_of}
use Rattle.wm_talk.specs.Talking.{NEW, above_of, after_events, after_reply}
use Rattle.wm_talk.specs.Told.{replied, told}
use Rattle.wm_talk.specs.declared.calls.Call.{Call}
use Rattle.wm_talk.specs.declared.calls.Call.TheVariants as call
use Rattle.wm_talk.specs.declared.got.Got.{Got}
use Rattle.wm_talk.specs.declared.got.Got.TheVariants as got
use Rattle.wm_talk.specs.declared.talk.Talk.{Talk}
use Rattle.wm_turn.specs.declared.view.Mark.{Mark}
use Rattle.wm_turn.specs.declared.view.Mark.TheVariants.{Wrote, Read}
use Rattle.wm_session.specs.Places.{at_length, entry_at}

-- what follows from some messages and the marks so far
pub record Walk : Type 0 where
  -- the messages that no mark has taken yet
  pub left : List Message
  -- what is subscribed, and since when
  pub talk : Talk
  -- the number above which events are to be read before anything else
  pub due : Option ℕ
  -- a reading said that the desk is to stop
  pub stopping : Bool
  -- a reading of events missed some, the oldest that are kept having this number
  pub behind : Option ℕ
  -- what the link is told, in order
  pub told : List Message

-- nothing was called yet
abbrev pub unasked : List Message → Walk
unasked messages = record { left = messages; talk = NEW; due = None; stopping = false; behind = None; told = [] }

-- ---- what a mark does

-- the message was answered by what its call gave; where something is subscribed events are to be read
abbrev pub answered_by : Message → Got → Walk → Walk
answered_by m g w = record w { talk = after_reply m g w.talk; due = above_of (after_reply m g w.talk); told = w.told ++ replied w.talk m g }

-- the next message was answered
abbrev pub answered : List Message → Option Got → Walk → Walk
answered [] g w = w
answered (m ∷ ms) None w = w
answered (m ∷ ms) (Some g) w = answered_by m g (record w { left = ms })

-- some events are kept no more
abbrev pub missed : View → Option ℕ
missed (view.Lagged oldest) = Some oldest
missed other = None

-- events were read
abbrev pub events_read : View → Walk → Walk
events_read v w = record w { talk = after_events v w.talk; due = None; behind = missed v; told = w.told ++ told w.talk v }

-- it was asked whether the desk is to stop; where something is subscribed events are to be read
abbrev pub asked_stop : Bool → Walk → Walk
asked_stop stops w = record w { due = above_of w.talk; stopping = stops }

-- the number above which a question reads events; other questions are asked by messages
abbrev pub events_above : Query → Option ℕ
events_above (query.Events above) = Some above
events_above other = None

-- what the step at a place was answered
abbrev pub answer_at : Start → History → Option Entry → Option Got
answer_at start before entry = option_map (λ e. got.Answer (answer start before e)) entry

abbrev pub seen_by : Option ℕ → View → Walk → Walk
seen_by None v w = answered w.left (Some (got.View v)) w
seen_by (Some above) v w = events_read v w

-- what a question does that the caller asked when the history was this
abbrev pub next_read : Start → ℕ → History → Asked → Walk → Walk
next_read start who history asked.Stopped w = asked_stop (stopped start history) w
next_read start who history asked.Frame w = w
next_read start who history (asked.Query q) w = seen_by (events_above q) (look start history who q) w

abbrev pub next : Start → ℕ → History → Mark Asked → Walk → Walk
next start who seen (Wrote place) w = answered w.left (answer_at start (at_length place seen) (entry_at place seen)) w
next start who seen (Read question count) w = next_read start who (at_length count seen) question w

-- the walk over the marks, of which the newest comes first
abbrev pub walk : Start → ℕ → History → List Message → List (Mark Asked) → Walk
walk start who seen messages [] = unasked messages
walk start who seen messages (mark ∷ marks) = next start who seen mark (walk start who seen messages marks)

-- ---- which marks fit

-- no events are to be read first, and nothing has ended the session
pub record IsFree (w : Walk) : Type 0 where
  pub read : w.due ≡ None
  pub going : w.stopping ≡ false
  pub kept : w.behind ≡ None

-- what a step says that is the call: a text with a verdict on it, or a tick
abbrev pub IsStepOf : Call → Act → Type 0
IsStepOf (call.Run text) said = (verdict : Verdict) × IsVerdict text verdict × (said ≡ act.Run (record { text = text; verdict = verdict }))
IsStepOf (call.Tick text) said = said ≡ act.Tick text
IsStepOf (call.Look q) said = ⊥

-- the entry is the step of the next message's call
abbrev pub IsNextStep : List Message → Option Entry → Type 0
IsNextStep [] entry = ⊥
IsNextStep (m ∷ ms) None = ⊥
IsNextStep (m ∷ ms) (Some entry) = IsStepOf (call_of m) entry.act

-- the question is the next message's call
abbrev pub IsNextLook : List Message → Query → Type 0
IsNextLook [] q = ⊥
IsNextLook (m ∷ ms) q = call_of m ≡ call.Look q

-- events are read where that is due, above the number that is due; other questions are asked by the next message
abbrev pub FitsQuery : Option ℕ → Query → Walk → Type 0
FitsQuery None q w = IsFree w × IsNextLook w.left q
FitsQuery (Some above) q w = (w.due ≡ Some above) × (w.behind ≡ None)

abbrev pub FitsRead : Asked → Walk → Type 0
FitsRead asked.Stopped w = IsFree w
FitsRead asked.Frame w = ⊥
FitsRead (asked.Query q) w = FitsQuery (events_above q) q w

-- the mark fits behind this walk
abbrev pub FitsNext : History → Mark Asked → Walk → Type 0
FitsNext seen (Wrote place) w = IsFree w × IsNextStep w.left (entry_at place seen)
FitsNext seen (Read question count) w = FitsRead question w

-- Each mark is the call of the next message, a reading of events where something is subscribed by then, or a question
-- whether the desk is to stop.
abbrev pub Fit : Start → ℕ → History → List Message → List (Mark Asked) → Type 0
Fit start who seen messages [] = Unit {0}
Fit start who seen messages (mark ∷ marks) = Fit start who seen messages marks × FitsNext seen mark (walk start who seen messages marks)

-- how many marks are questions whether the desk is to stop
abbrev pub stop_count : List (Mark Asked) → ℕ
stop_count [] = 0
stop_count (Read asked.Stopped count ∷ marks) = suc (stop_count marks)
stop_count (mark ∷ marks) = stop_count marks
