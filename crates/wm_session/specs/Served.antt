-- What a session did, by how it ended.
use Rattle.std.specs.Prelude.{◌≡◌, ◌⊎◌, ℕ, suc, ◌^◌, Bool, true, false, List, [], ◌++◌, length, Option, None, Some, IfSome, ⊤}
use Rattle.wm_criteria.specs.Building.{Grew, Log}
use Rattle.wm_history.specs.History.{History, Start, opening_of}
use Rattle.wm_core.specs.Passes.{Begins, Pass}
use Rattle.wm_core.specs.declared.asked.Asked.{Asked}
use Rattle.wm_defs.specs.Counts.{Rose}
use Rattle.wm_frames.specs.Decoding.{fault_of}
use Rattle.wm_frames.specs.Reading.{ending, messages, rest}
use Rattle.wm_frames.specs.declared.message.FrameFault.TheVariants as fault
use Rattle.wm_ports.specs.Linking.{LinkTold}
use Rattle.wm_talk.specs.Frames.{frames}
use Rattle.wm_turn.specs.declared.view.Mark.{Mark}
use Rattle.wm_session.specs.Linked.{IsSpent, SinceBy}
use Rattle.wm_session.specs.Places.{refused_in}
use Rattle.wm_session.specs.Walk.{Fit, IsFree, Walk, stop_count, walk}
use Rattle.wm_session.specs.declared.ending.SessionEnd.{SessionEnd}
use Rattle.wm_session.specs.declared.ending.SessionEnd.TheVariants as end

-- what a session has to do with: its caller's pass, its link, the link's count of faults, and the log of its build
pub record Stage : Type 0 where
  pub pass : Pass
  pub link : Option LinkTold
  pub faults : ℕ
  pub log : Log

abbrev pub stage : Pass → Option LinkTold → ℕ → Log → Stage
stage pass link faults log = record { pass = pass; link = link; faults = faults; log = log }

-- all that is told was sent; after the other ends a first part was
abbrev pub is_whole : SessionEnd → Bool
is_whole end.LinkFault = false
is_whole end.Exhausted = false
is_whole end.NoMemory = false
is_whole other = true

-- every message was answered, and the events after it were told
pub record IsAnswered (w : Walk) : Type 0 where
  pub all : w.left ≡ []
  pub free : IsFree w

-- The cause of an end: by the bytes received, the link and its count of faults, the pass, and what follows from the marks.
abbrev pub IsCause : SessionEnd → List ℕ → Stage → Stage → Walk → Type 0
IsCause end.Closed received first now w = IsAnswered w × (ending received ≡ rest 0) × IsSpent first.link received
IsCause (end.Truncated count) received first now w = IsAnswered w × (ending received ≡ rest count) × ((count ≡ 0) → ⊥) × IsSpent first.link received
IsCause (end.Magic at) received first now w = IsAnswered w × (fault_of (ending received) ≡ Some (fault.Magic at))
IsCause (end.TooLong at len) received first now w = IsAnswered w × (fault_of (ending received) ≡ Some (fault.TooLong at len))
IsCause end.Stopped received first now w = (w.left ≡ []) × (w.due ≡ None) × (w.behind ≡ None) × (w.stopping ≡ true) × (fault_of (ending received) ≡ None)
IsCause (end.Lagged oldest) received first now w = w.behind ≡ Some oldest
IsCause end.LinkFault received first now w = Rose first.faults now.faults
IsCause end.Exhausted received first now w = length now.pass.seen ≡ 2 ^ 48
IsCause end.NoMemory received first now w = ⊤

-- how many receivings got bytes or were quiet, by how often it was asked whether the desk is to stop: one more where it was
-- not asked after the last of them
abbrev pub IsAsked : SessionEnd → ℕ → ℕ → Type 0
IsAsked end.Closed turns stops = turns ≡ stops
IsAsked (end.Truncated count) turns stops = turns ≡ stops
IsAsked end.Stopped turns stops = turns ≡ stops
IsAsked other turns stops = (turns ≡ stops) ⊎ (turns ≡ suc stops)

-- The marks fit the messages of the bytes received, whatever comes later; what they tell was sent, and the end has its cause.
pub record ServedFrom (start : Start) (first now : Stage) (marks : List (Mark Asked)) (received : List ℕ) (turns : ℕ) (e : SessionEnd) : Type 0 where
  pub fit : (later : History) → Begins now.pass.seen later → Fit start first.pass.caller later (messages received) marks
  pub sent : SinceBy (is_whole e) first.link now.link received (frames (walk start first.pass.caller now.pass.seen (messages received) marks).told) turns
  pub cause : IsCause e received first now (walk start first.pass.caller now.pass.seen (messages received) marks)

-- A session from the first stage to this one: the new marks of its pass, the newest first, the bytes received, how many
-- receivings got bytes or were quiet, and the patterns that were refused beside those of its entries.
pub record Served (first now : Stage) (e : SessionEnd) : Type 0 where
  pub marks : List (Mark Asked)
  pub received : List ℕ
  pub turns : ℕ
  pub beside : List (List ℕ)
  pub pass : now.pass ≡ record first.pass { seen = now.pass.seen; mine = marks ++ first.pass.mine }
  pub begins : Begins first.pass.seen now.pass.seen
  pub served : IfSome first.pass.opening (λ plan. ServedFrom (opening_of plan) first now marks received turns e)
  pub asked : IsAsked e turns (stop_count marks)
  pub backed : Grew first.log now.log (refused_in now.pass.seen marks ++ beside)
