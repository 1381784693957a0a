-- The one call that a message asks for.
use Rattle.std.specs.Prelude.{ℕ, ◌==◌, nat_le, ◌&&◌, if◌then◌else◌, List, Option, None, Some, length}
use Rattle.std.specs.Str.{is_utf8}
use Rattle.wm_history.specs.declared.look.Query.{Query}
use Rattle.wm_history.specs.declared.look.Query.TheVariants as query
use Rattle.wm_frames.specs.declared.message.Message.{Message}
use Rattle.wm_talk.specs.declared.calls.Call.{Call}
use Rattle.wm_talk.specs.declared.calls.Call.TheVariants as call

-- the text of these bytes, where they are UTF-8
abbrev pub text_of : List ℕ → Option (List ℕ)
text_of bytes = if is_utf8 bytes then Some bytes else None

-- the text of these bytes that can be told to all: it has at most 4,096 of them
abbrev pub tick_of : List ℕ → Option (List ℕ)
tick_of bytes = if is_utf8 bytes && nat_le (length bytes) 4096 then Some bytes else None

-- what a message of this type asks to see, where it asks to see something
abbrev pub query_of : ℕ → Option Query
query_of kind =
    if kind == 1 then Some query.Workspaces else (if kind == 3 then Some query.Outputs else (if kind == 4 then Some query.Tree else (if kind == 5 then Some query.Marks
    else (if kind == 8 then Some query.Modes else (if kind == 9 then Some query.Config else (if kind == 12 then Some query.Mode else None))))))

-- what is called where nothing else is: how far the desk is
abbrev pub run_call : Option (List ℕ) → Call
run_call None = call.Look query.State
run_call (Some text) = call.Run text

abbrev pub tick_call : Option (List ℕ) → Call
tick_call None = call.Look query.State
tick_call (Some text) = call.Tick text

abbrev pub look_call : Option Query → Call
look_call None = call.Look query.State
look_call (Some q) = call.Look q

-- by the type: 0 runs a text, 10 tells a text to all, and all others look
abbrev pub call_by : ℕ → List ℕ → Call
call_by kind payload = if kind == 0 then run_call (text_of payload) else (if kind == 10 then tick_call (tick_of payload) else look_call (query_of kind))

abbrev pub call_of : Message → Call
call_of m = call_by m.kind m.payload
