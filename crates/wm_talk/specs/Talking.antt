-- What is subscribed by a client, and since when.
use Rattle.std.specs.Prelude.{ℕ, ◌==◌, Bool, true, false, if◌then◌else◌, List, [], ◌∷◌, Option, None, Some}
use Rattle.std.specs.Option.{option_map}
use Rattle.wm_history.specs.declared.look.View.{View}
use Rattle.wm_history.specs.declared.look.View.TheVariants as view
use Rattle.wm_frames.specs.declared.message.Message.{Message}
use Rattle.wm_json.specs.declared.views.EventView.{EventView}
use Rattle.wm_talk.specs.Names.{names_in, value_of}
use Rattle.wm_talk.specs.declared.got.Got.{Got}
use Rattle.wm_talk.specs.declared.got.Got.TheVariants as got
use Rattle.wm_talk.specs.declared.names.Names.{Names}
use Rattle.wm_talk.specs.declared.since.Since.{Since}
use Rattle.wm_talk.specs.declared.talk.Talk.{Talk}

-- ---- names

-- no name is subscribed
abbrev pub NEVER : Since
NEVER = record { workspace = None; output = None; mode = None; window = None; bars = None; binding = None; shutdown = None; tick = None }

-- a name that is asked for is subscribed since then, where it was not before
abbrev pub since_when : Option ℕ → Bool → ℕ → Option ℕ
since_when (Some n) asked last = Some n
since_when None false last = None
since_when None true last = Some last

-- what is subscribed after these names were asked for, when so many events had come
abbrev pub subscribed : Since → Names → ℕ → Since
subscribed since names last = record {
  workspace = since_when since.workspace names.workspace last;
  output = since_when since.output names.output last;
  mode = since_when since.mode names.mode last;
  window = since_when since.window names.window last;
  bars = since_when since.bars names.bars last;
  binding = since_when since.binding names.binding last;
  shutdown = since_when since.shutdown names.shutdown last;
  tick = since_when since.tick names.tick last;
}

-- how many events had come when the name of this kind of event was subscribed
abbrev pub since_of : Since → ℕ → Option ℕ
since_of since kind =
    if kind == 0 then since.workspace else (if kind == 1 then since.output else (if kind == 2 then since.mode else (if kind == 3 then since.window
    else (if kind == 4 then since.bars else (if kind == 5 then since.binding else (if kind == 6 then since.shutdown else (if kind == 7 then since.tick else None)))))))

-- the first of two numbers that there is
abbrev pub or_else : Option ℕ → Option ℕ → Option ℕ
or_else None other = other
or_else (Some n) other = Some n

-- a number since which some name is subscribed, where one is
abbrev pub some_since : Since → Option ℕ
some_since since = or_else since.workspace (or_else since.output (or_else since.mode (or_else since.window (or_else since.bars (or_else since.binding (or_else since.shutdown since.tick))))))

-- ---- the talk

-- at first nothing is subscribed
abbrev pub NEW : Talk
NEW = record { since = NEVER; above = 0 }

-- the number for the next reading of events: none where nothing is subscribed
abbrev pub above_by : Option ℕ → ℕ → Option ℕ
above_by None above = None
above_by (Some n) above = Some above

abbrev pub above_of : Talk → Option ℕ
above_of t = above_by (some_since t.since) t.above

-- where the next reading of events begins, once there is one: behind the events of this reading, where none was before
abbrev pub begins : Option ℕ → ℕ → ℕ
begins None last = last
begins (Some above) last = above

-- the names that a payload asks for are subscribed; where it is no JSON nothing is
abbrev pub subscribe : Option Names → ℕ → Talk → Talk
subscribe None last t = t
subscribe (Some names) last t = record { since = subscribed t.since names last; above = begins (above_of t) last }

-- how many events had come by what was seen
abbrev pub events_by : Got → ℕ
events_by (got.View (view.State state)) = state.last_event
events_by other = 0

-- the talk after a message and its reply, by what its call gave
abbrev pub after_reply : Message → Got → Talk → Talk
after_reply m g t = if m.kind == 2 then subscribe (option_map names_in (value_of m.payload)) (events_by g) t else t

-- the number of the last of these events, n where there is none
abbrev pub last_number : ℕ → List EventView → ℕ
last_number n [] = n
last_number n (event ∷ events) = last_number event.number events

-- the talk after a reading of events
abbrev pub after_events : View → Talk → Talk
after_events (view.Events events) t = record { since = t.since; above = last_number t.above events }
after_events other t = t
