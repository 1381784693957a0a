-- What the tool writes for a stream of i3-ipc frames.
use Rattle.std.specs.Prelude.{ℕ, ◌<◌, ◌≤◌, ◌^◌, Bool, true, false, List, [], ◌∷◌, ◌++◌, Option, None, Some, length, ⊤}
use Rattle.wm_history.specs.Act as acts
use Rattle.wm_history.specs.declared.look.Query.TheVariants as query
use Rattle.wm_history.specs.declared.look.View.{View}
use Rattle.wm_history.specs.declared.look.View.TheVariants as view
use Rattle.wm_history.specs.History.{Entry, History, Start, answer}
use Rattle.wm_history.specs.Look.{look}
use Rattle.wm_frames.specs.declared.message.Message.{Message}
use Rattle.wm_frames.specs.Reading.{messages}
use Rattle.wm_talk.specs.declared.calls.Call.{Call}
use Rattle.wm_talk.specs.declared.calls.Call.TheVariants as call
use Rattle.wm_talk.specs.declared.got.Got.{Got}
use Rattle.wm_talk.specs.declared.got.Got.TheVariants as got
use Rattle.wm_talk.specs.declared.talk.Talk.{Talk}
use Rattle.wm_talk.specs.Calls.{call_of}
use Rattle.wm_talk.specs.Frames.{frames}
use Rattle.wm_talk.specs.Talking.{above_of, after_events, after_reply, NEW}
use Rattle.wm_talk.specs.Told.{replied, told}
use Rattle.wm_script.specs.Out.{entry_of}
use Rattle.wm_script.specs.declared.refused.Refused.{Refused}
use Rattle.wm_tool.specs.Output.{after_entry, run_entry, start}

-- ---- calls

-- the texts of a call are short enough to be run, or told to all
abbrev pub IsFitCall : Call → Type 0
IsFitCall (call.Run text) = length text < 2 ^ 32
IsFitCall (call.Tick text) = length text ≤ 4096
IsFitCall (call.Look q) = ⊤

-- the step of a call after a history; a look has none
abbrev pub call_entry : List Refused → History → Call → Option Entry
call_entry refused history (call.Run text) = Some (run_entry 0 refused history text)
call_entry refused history (call.Tick text) = Some (entry_of 0 (acts.Tick text))
call_entry refused history (call.Look q) = None

-- the history after a call
abbrev pub after_call : Call → List Refused → History → History
after_call c refused history = after_entry (call_entry refused history c) history

-- what a call gives after a history
abbrev pub got_of : Start → Call → List Refused → History → Got
got_of opening (call.Run text) refused history = got.Answer (answer opening history (run_entry 0 refused history text))
got_of opening (call.Tick text) refused history = got.Answer (answer opening history (entry_of 0 (acts.Tick text)))
got_of opening (call.Look q) refused history = got.View (look opening history 0 q)

-- the steps of a call, each with the text that it runs, where it runs one; a call has one step or none
abbrev pub call_step : Call → List (Option (List ℕ))
call_step (call.Run text) = Some text ∷ []
call_step (call.Tick text) = None ∷ []
call_step (call.Look q) = []

-- ---- the reading of events after a message

-- the events above a number, where there is one
abbrev pub reading_above : Start → History → Option ℕ → Option View
reading_above opening history None = None
reading_above opening history (Some n) = Some (look opening history 0 (query.Events n))

-- what is read of events, where something is subscribed
abbrev pub reading : Start → History → Talk → Option View
reading opening history t = reading_above opening history (above_of t)

-- what is told of a reading, where there is one
abbrev pub told_of : Talk → Option View → List Message
told_of t None = []
told_of t (Some v) = told t v

-- the talk after events were read; none where some are kept no more, which ends the walk
abbrev pub talk_on : Talk → View → Option Talk
talk_on t (view.Lagged oldest) = None
talk_on t other = Some (after_events other t)

-- the talk after a reading, where there is one
abbrev pub after_reading : Talk → Option View → Option Talk
after_reading t None = Some t
after_reading t (Some v) = talk_on t v

-- the talk, where the walk goes on
abbrev pub where_on : Bool → Talk → Option Talk
where_on false t = None
where_on true t = Some t

-- ---- messages

-- what is written for a message: the frames of its reply, and then those of the events of the reading after it, by what its call
-- gave and the history that it left
abbrev pub said_with : Start → Message → Talk → Got → History → List ℕ
said_with opening m t g later = frames (replied t m g) ++ frames (told_of (after_reply m g t) (reading opening later (after_reply m g t)))

abbrev pub talk_with : Start → Message → Talk → Got → History → Option Talk
talk_with opening m t g later = after_reading (after_reply m g t) (reading opening later (after_reply m g t))

-- the history after a message
abbrev pub after_message : Message → List Refused → History → History
after_message m refused history = after_call (call_of m) refused history

-- what is written for a message after a history
abbrev pub said : Start → Message → Talk → List Refused → History → List ℕ
said opening m t refused history = said_with opening m t (got_of opening (call_of m) refused history) (after_message m refused history)

-- the talk after a message, where the walk goes on
abbrev pub talk_after : Start → Message → Talk → List Refused → History → Option Talk
talk_after opening m t refused history = talk_with opening m t (got_of opening (call_of m) refused history) (after_message m refused history)

-- what is written for the messages after a history, given which patterns were refused; nothing where the walk has ended
abbrev pub replies_from : Option Talk → List Message → List Refused → History → List ℕ
replies_from None ms refused history = []
replies_from (Some t) [] refused history = []
replies_from (Some t) (m ∷ ms) refused history =
    said start m t refused history ++ replies_from (talk_after start m t refused history) ms refused (after_message m refused history)

-- the steps of messages, each with the text that it runs
abbrev pub message_step : Message → List (Option (List ℕ))
message_step m = call_step (call_of m)

abbrev pub message_texts : List Message → List (Option (List ℕ))
message_texts [] = []
message_texts (m ∷ ms) = message_step m ++ message_texts ms

-- what is written for the bytes of a stream of frames: the replies to its messages, in their order, and the events of a
-- reading after each
abbrev pub out_ipc : List ℕ → List Refused → List ℕ
out_ipc bytes refused = replies_from (Some NEW) (messages bytes) refused []
