-- How runs end, and why.
use Rattle.std.specs.Prelude.{◌≡◌, ℕ, zero, suc, ◌<◌, ◌≤◌, ◌⊎◌, List, [], Option, None, Some, Result, Ok, Err, length, ⊤}
use Rattle.wm_defs.specs.Counts.{Rose}
use Rattle.wm_criteria.specs.Building.{Log}
use Rattle.wm_frames.specs.Reading.{Ending, ending, messages, rest, magic, too_long}
use Rattle.wm_ports.specs.Told.{ReadsCount, ReadsPart, TakesAll, TakesPart}
use Rattle.wm_tool.specs.declared.replay.Stop.{Stop}
use Rattle.wm_tool.specs.declared.replay.Stop.TheVariants as stops
use Rattle.wm_tool.specs.declared.words.Command.{Command}
use Rattle.wm_tool.specs.declared.words.Command.TheVariants.{Replay, Ipc, Draw}
use Rattle.wm_tool.specs.declared.run.FramesEnd.{FramesEnd}
use Rattle.wm_tool.specs.declared.run.FramesEnd.TheVariants as end
use Rattle.wm_tool.specs.declared.status.Status.{Status}
use Rattle.wm_tool.specs.declared.status.Status.TheVariants.{Done, BadWords, BadScript, BadFrames, Truncated, TooLarge, ReadFault, WriteFault, NoMemory}
use Rattle.wm_tool.specs.Drawing.{out_draw}
use Rattle.wm_tool.specs.Ipc.{message_texts, out_ipc}
use Rattle.wm_script.specs.Out as scripts
use Rattle.wm_script.specs.Out.{out}
use Rattle.wm_script.specs.Refusals.{IsBacked}
use Rattle.wm_script.specs.Script.{script}
use Rattle.wm_script.specs.declared.refused.Refused.{Refused}
use Rattle.wm_script.specs.declared.script.Script.{Script}

-- a run was stopped by a fault of the sink, whose count of faults rose, or by want of memory
abbrev pub HasStopped : ℕ → ℕ → Stop → Type 0
HasStopped old new stops.WriteFault = Rose old new
HasStopped old new stops.NoMemory = ⊤

-- the status of a run
abbrev pub ending_of : Result (List Refused) Status → Status
ending_of (Ok refused) = Done refused
ending_of (Err status) = status

-- ---- what the bytes alone say

abbrev pub script_ending : Result Script ℕ → Status
script_ending (Ok s) = Done []
script_ending (Err line) = BadScript line

abbrev pub rest_ending : ℕ → Status
rest_ending zero = Done []
rest_ending (suc n) = Truncated (suc n)

abbrev pub frames_ending : Ending → Status
frames_ending (rest count) = rest_ending count
frames_ending (magic at) = BadFrames at
frames_ending (too_long at len) = BadFrames at

-- the status of a run on frames that end so
abbrev pub frames_status : FramesEnd → Status
frames_status end.Whole = Done []
frames_status (end.Bad at) = BadFrames at
frames_status (end.Cut bytes) = Truncated bytes

-- how a run on these bytes ends, unless a fault or want of memory stops it
abbrev pub ends : Command → List ℕ → Status
ends Replay bytes = script_ending (script bytes)
ends Ipc bytes = frames_ending (ending bytes)
ends Draw bytes = script_ending (script bytes)

-- all that a run on these bytes writes, given which patterns were refused
abbrev pub output : Command → List ℕ → List Refused → List ℕ
output Replay bytes refused = out bytes refused
output Ipc bytes refused = out_ipc bytes refused
output Draw bytes refused = out_draw bytes refused

-- the steps that a run on these bytes takes, given which patterns were refused, each with the text that it runs, where it runs one
abbrev pub texts_in : Command → List ℕ → List Refused → List (Option (List ℕ))
texts_in Replay bytes refused = scripts.texts_in bytes refused
texts_in Ipc bytes refused = message_texts (messages bytes)
texts_in Draw bytes refused = scripts.texts_in bytes refused

-- the bytes are refused before anything is run
abbrev pub IsRefused : Status → Type 0
IsRefused (BadScript line) = ⊤
IsRefused status = ⊥

-- ---- how a run on bytes that were read ends

-- a run on these bytes has ended so only where they say so, or where a fault or want of memory stopped it
abbrev pub EndsOn : Command → List ℕ → Status → Type 0
EndsOn c bytes (Done refused) = ends c bytes ≡ Done []
EndsOn c bytes (BadScript line) = ends c bytes ≡ BadScript line
EndsOn c bytes (BadFrames at) = ends c bytes ≡ BadFrames at
EndsOn c bytes (Truncated left) = ends c bytes ≡ Truncated left
EndsOn c bytes WriteFault = IsRefused (ends c bytes) → ⊥
EndsOn c bytes NoMemory = ⊤
EndsOn c bytes BadWords = ⊥
EndsOn c bytes (TooLarge read) = ⊥
EndsOn c bytes ReadFault = ⊥

-- a list of refusals is fair for these bytes, and backed by the run, in which the build's log grew so
abbrev pub IsBackedOn : Command → List ℕ → Log → Log → List Refused → Type 0
IsBackedOn c bytes first log refused = IsBacked (texts_in c bytes refused) refused first log

-- what a run on these bytes that ended so wrote
abbrev pub WritesOn : Command → List ℕ → Log → Log → Status → Option (List ℕ) → Option (List ℕ) → Type 0
WritesOn c bytes first log (Done refused) old new = IsBackedOn c bytes first log refused × TakesAll old new (output c bytes refused)
WritesOn c bytes first log (BadFrames at) old new = (refused : List Refused) × IsBackedOn c bytes first log refused × TakesAll old new (output c bytes refused)
WritesOn c bytes first log (Truncated left) old new = (refused : List Refused) × IsBackedOn c bytes first log refused × TakesAll old new (output c bytes refused)
WritesOn c bytes first log WriteFault old new = (refused : List Refused) × IsBackedOn c bytes first log refused × TakesPart old new (output c bytes refused)
WritesOn c bytes first log NoMemory old new = (refused : List Refused) × IsBackedOn c bytes first log refused × TakesPart old new (output c bytes refused)
WritesOn c bytes first log (BadScript line) old new = new ≡ old
WritesOn c bytes first log BadWords old new = new ≡ old
WritesOn c bytes first log (TooLarge read) old new = new ≡ old
WritesOn c bytes first log ReadFault old new = new ≡ old

-- ---- what a run read and wrote of what its source and its sink tell

-- all of an input within the size was read, and the run on it has ended so
pub record ReadsWhole (c : Command) (bytes : List ℕ) (new : Option (List ℕ)) (status : Status) : Type 0 where
  pub whole : new ≡ Some []
  pub within : length bytes ≤ 16777216
  pub ended : EndsOn c bytes status

-- what a run that ended so read of the bytes that its source told
abbrev pub HasRead : Command → Status → Option (List ℕ) → Option (List ℕ) → Type 0
HasRead c (TooLarge read) old new = (16777216 < read) × ReadsCount old new read
HasRead c ReadFault old new = ReadsPart old new
HasRead c NoMemory old new = ReadsPart old new
HasRead c status None new = ⊤
HasRead c (Done refused) (Some bytes) new = ReadsWhole c bytes new (Done refused)
HasRead c (BadScript line) (Some bytes) new = ReadsWhole c bytes new (BadScript line)
HasRead c (BadFrames at) (Some bytes) new = ReadsWhole c bytes new (BadFrames at)
HasRead c (Truncated left) (Some bytes) new = ReadsWhole c bytes new (Truncated left)
HasRead c WriteFault (Some bytes) new = ReadsWhole c bytes new WriteFault
HasRead c BadWords (Some bytes) new = new ≡ Some bytes

-- what a run that ended so wrote, where its source told these bytes
abbrev pub HasWritten : Command → Log → Log → Status → Option (List ℕ) → Option (List ℕ) → Option (List ℕ) → Type 0
HasWritten c first log status None old new = ⊤
HasWritten c first log status (Some bytes) old new = WritesOn c bytes first log status old new

-- ---- what stays as it was

-- nothing was written
abbrev pub OnUnwritten : Status → Type 0 → Type 0
OnUnwritten BadWords same = same
OnUnwritten (BadScript line) same = same
OnUnwritten (TooLarge read) same = same
OnUnwritten ReadFault same = same
OnUnwritten status same = ⊤

-- ---- faults

-- a fault that ends a run was counted by its source, or by its sink
abbrev pub HasRisen : Status → ℕ → ℕ → ℕ → ℕ → Type 0
HasRisen ReadFault source_old source_new sink_old sink_new = Rose source_old source_new
HasRisen WriteFault source_old source_new sink_old sink_new = Rose sink_old sink_new
HasRisen status source_old source_new sink_old sink_new = ⊤

-- ---- runs without a fault

-- the status, its list of refusals left out
abbrev pub without_list : Status → Status
without_list (Done refused) = Done []
without_list status = status

-- an input within the size ends as its bytes say, unless memory runs out
abbrev pub EndsAs : Command → Status → Option (List ℕ) → Type 0
EndsAs c status None = ⊤
EndsAs c status (Some bytes) = length bytes ≤ 16777216 → (status ≡ NoMemory) ⊎ (without_list status ≡ ends c bytes)
