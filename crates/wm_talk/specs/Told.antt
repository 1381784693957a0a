-- The messages that a client is told.
use Rattle.std.specs.Prelude.{ℕ, ◌+◌, ◌==◌, nat_lt, Bool, true, false, if◌then◌else◌, List, [], ◌∷◌, ◌++◌, map, Option, None, Some, codes}
use Rattle.std.specs.List.{filter}
use Rattle.std.specs.Str.{is_utf8}
use Rattle.std.specs.Str.Lossy.{utf8_valid_len}
use Rattle.json.specs.Print.{quoted}
use Rattle.wm_history.specs.declared.look.Query.{Query}
use Rattle.wm_history.specs.declared.look.View.{View}
use Rattle.wm_history.specs.declared.look.View.TheVariants as view
use Rattle.wm_history.specs.declared.step.Answer.TheVariants.{Replies}
use Rattle.wm_frames.specs.declared.message.Message.{Message}
use Rattle.wm_json.specs.Arrays.{texts_text}
use Rattle.wm_json.specs.Events.{event_text}
use Rattle.wm_json.specs.Nodes.{node_text}
use Rattle.wm_json.specs.Objects.{always, object_text}
use Rattle.wm_json.specs.Replies.{replies_text, success_text, VERSION_TEXT}
use Rattle.wm_json.specs.Spaces.{outputs_text, workspaces_text}
use Rattle.wm_json.specs.declared.replies.Reply.{Reply}
use Rattle.wm_json.specs.declared.replies.Reply.TheVariants as reply
use Rattle.wm_json.specs.declared.views.EventBody.TheVariants as body
use Rattle.wm_json.specs.declared.views.EventView.{EventView}
use Rattle.wm_talk.specs.Calls.{query_of, tick_of}
use Rattle.wm_talk.specs.Names.{value_of}
use Rattle.wm_talk.specs.Talking.{after_reply, since_of}
use Rattle.wm_talk.specs.declared.got.Got.{Got}
use Rattle.wm_talk.specs.declared.got.Got.TheVariants as got
use Rattle.wm_talk.specs.declared.since.Since.{Since}
use Rattle.wm_talk.specs.declared.talk.Talk.{Talk}

-- ---- replies

-- there is something
abbrev pub is_there : {T : Type 0} → Option T → Bool
is_there None = false
is_there (Some x) = true

-- the replies to the commands of a text; only an answer to a text has some
abbrev pub replies_of : Got → List Reply
replies_of (got.Answer (Replies replies)) = replies
replies_of other = []

-- the replies to a payload that is to be run, by what the call gave; one that is no UTF-8 does not read at its first bad byte
abbrev pub replies_to : List ℕ → Got → List Reply
replies_to payload g = if is_utf8 payload then replies_of g else reply.Parse (utf8_valid_len payload) ∷ []

-- the JSON of the object of one text
abbrev pub text_object : List ℕ → List ℕ → List ℕ
text_object key text = object_text (always key (quoted text) ∷ [])

-- the JSON of what is seen; none of what no message looks at
abbrev pub view_json : View → List ℕ
view_json (view.Tree node) = node_text node
view_json (view.Workspaces spaces) = workspaces_text spaces
view_json (view.Outputs outputs) = outputs_text outputs
view_json (view.Marks marks) = texts_text marks
view_json (view.Modes modes) = texts_text modes
view_json (view.Mode mode) = text_object (codes "name") mode
view_json (view.Config config) = text_object (codes "config") config
view_json other = []

abbrev pub seen_json : Got → List ℕ
seen_json (got.Answer answer) = []
seen_json (got.View v) = view_json v

-- no bar is known: there are none to be named, and none of a name
abbrev pub bar_text : List ℕ → List ℕ
bar_text [] = codes "[]"
bar_text (c ∷ cs) = codes "{\"id\":null}"

-- the reply to a message that asks to see something is what is seen
abbrev pub seen_payload : Option Query → Got → Option (List ℕ)
seen_payload None g = None
seen_payload (Some q) g = Some (seen_json g)

-- the payload of the reply to a message of this type, by what its call gave, where it has a reply: 0 is answered by the replies,
-- 2 by whether it is JSON, 6 and 7 by the bars and the version, 10 by whether it was told, 11 is refused, and others are looks
abbrev pub payload_by : ℕ → List ℕ → Got → Option (List ℕ)
payload_by kind payload g =
    if kind == 0 then Some (replies_text (replies_to payload g)) else (if kind == 2 then Some (success_text (is_there (value_of payload)))
    else (if kind == 6 then Some (bar_text payload) else (if kind == 7 then Some VERSION_TEXT
    else (if kind == 10 then Some (success_text (is_there (tick_of payload))) else (if kind == 11 then Some (success_text false) else seen_payload (query_of kind) g)))))

-- a reply has its message's type
abbrev pub with_kind : ℕ → Option (List ℕ) → List Message
with_kind kind None = []
with_kind kind (Some payload) = record { kind = kind; payload = payload } ∷ []

-- the reply to a message, where it has one
abbrev pub reply_to : Message → Got → List Message
reply_to m g = with_kind m.kind (payload_by m.kind m.payload g)

-- ---- events

-- the type of the message of an event is that of the event, with the highest bit set
abbrev pub event_message : EventView → Message
event_message e = record { kind = e.kind + 2147483648; payload = event_text e }

-- the first tick event, which has no text
abbrev pub FIRST_TICK : EventView
FIRST_TICK = record { number = 0; kind = 7; body = body.Tick true [] }

-- it is told where ticks were not subscribed before and are after
abbrev pub first_tick : Option ℕ → Option ℕ → List Message
first_tick (Some n) after = []
first_tick None None = []
first_tick None (Some n) = event_message FIRST_TICK ∷ []

-- the number is above that since which something is subscribed, where it is
abbrev pub comes_after : Option ℕ → ℕ → Bool
comes_after None number = false
comes_after (Some n) number = nat_lt n number

-- the name of the event is subscribed, and the event came after that
abbrev pub is_due : Since → EventView → Bool
is_due since e = comes_after (since_of since e.kind) e.number

-- the messages of those of the events that are due
abbrev pub messages_of : Since → List EventView → List Message
messages_of since events = map event_message (filter (is_due since) events)

-- ---- what is told

-- the reply to a message, and behind it the first tick where it subscribes ticks first
abbrev pub replied : Talk → Message → Got → List Message
replied t m g = reply_to m g ++ first_tick t.since.tick (after_reply m g t).since.tick

-- what is told of a reading of events
abbrev pub told : Talk → View → List Message
told t (view.Events events) = messages_of t.since events
told t other = []
