-- The messages and readings that the marks of a session are.
use Rattle.std.specs.Prelude.{ℕ, List, [], ◌∷◌, ◌++◌, Option, None, Some}
use Rattle.wm_history.specs.History.{History, Start}
use Rattle.wm_history.specs.Look.{look}
use Rattle.wm_core.specs.declared.asked.Asked.{Asked}
use Rattle.wm_core.specs.declared.asked.Asked.TheVariants as asked
use Rattle.wm_history.specs.declared.look.View.{View}
use Rattle.wm_frames.specs.declared.message.Message.{Message}
use Rattle.wm_talk.specs.Marks as talking
use Rattle.wm_talk.specs.declared.got.Got.{Got}
use Rattle.wm_talk.specs.declared.got.Got.TheVariants as got
use Rattle.wm_turn.specs.declared.view.Mark.{Mark}
use Rattle.wm_turn.specs.declared.view.Mark.TheVariants.{Wrote, Read}
use Rattle.wm_session.specs.Places.{at_length, entry_at}
use Rattle.wm_session.specs.Walk.{answer_at, events_above, walk}

-- the next message, with what its call gave
abbrev pub message_with : List Message → Option Got → List talking.Mark
message_with [] g = []
message_with (m ∷ ms) None = []
message_with (m ∷ ms) (Some g) = talking.asked m g ∷ []

abbrev pub seen_with : Option ℕ → List Message → View → List talking.Mark
seen_with None left v = message_with left (Some (got.View v))
seen_with (Some above) left v = talking.read v ∷ []

abbrev pub read_with : Start → ℕ → History → List Message → Asked → List talking.Mark
read_with start who history left asked.Stopped = []
read_with start who history left asked.Frame = []
read_with start who history left (asked.Query q) = seen_with (events_above q) left (look start history who q)

-- what a mark is where these messages are left: a message with what its call gave, a reading of events, or neither
abbrev pub part_of : Start → ℕ → History → List Message → Mark Asked → List talking.Mark
part_of start who seen left (Wrote place) = message_with left (answer_at start (at_length place seen) (entry_at place seen))
part_of start who seen left (Read question count) = read_with start who (at_length count seen) left question

-- the messages and readings of a session, in order; the newest mark comes first
abbrev pub parts_of : Start → ℕ → History → List Message → List (Mark Asked) → List talking.Mark
parts_of start who seen messages [] = []
parts_of start who seen messages (mark ∷ marks) =
    parts_of start who seen messages marks ++ part_of start who seen (walk start who seen messages marks).left mark
