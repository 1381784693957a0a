-- How far a session is.
use Rattle.std.specs.Prelude.{◌≡◌, ℕ, suc, ◌≤◌, Bool, true, false, List, [], ◌++◌, Option, None, Some, Result, Ok, Err}
use Rattle.wm_criteria.specs.Building.{Grew}
use Rattle.wm_history.specs.History.{History, Start, opening_of}
use Rattle.wm_core.specs.Passes.{Begins, Pass}
use Rattle.wm_core.specs.declared.asked.Asked.{Asked}
use Rattle.wm_frames.specs.Decoding.{Decoding, Stands}
use Rattle.wm_frames.specs.Reading.{AreBytes, messages}
use Rattle.wm_frames.specs.declared.message.Message.{Message}
use Rattle.wm_layouts.specs.declared.plan.Plan.{Plan}
use Rattle.wm_talk.specs.Frames.{frames}
use Rattle.wm_talk.specs.declared.talk.Talk.{Talk}
use Rattle.wm_turn.specs.declared.view.Mark.{Mark}
use Rattle.wm_session.specs.Linked.{SinceBy}
use Rattle.wm_session.specs.Places.{refused_in}
use Rattle.wm_session.specs.Served.{Served, Stage}
use Rattle.wm_session.specs.Walk.{Fit, Walk, stop_count, walk}
use Rattle.wm_session.specs.declared.ending.SessionEnd.{SessionEnd}
use Rattle.wm_session.specs.declared.ending.SessionEnd.TheVariants as end

-- The marks fit the messages that were answered, and this follows from them, whatever is seen and whatever comes later.
pub record Walks (start : Start) (who : ℕ) (seen : History) (given : List Message) (marks : List (Mark Asked)) (w : Walk) : Type 0 where
  pub is : (later : History) (more : List Message) → Begins seen later → walk start who later (given ++ more) marks ≡ record w { left = more }
  pub fit : (later : History) (more : List Message) → Begins seen later → Fit start who later (given ++ more) marks

-- Since the first pass these messages were answered, this follows from the marks of it, these patterns were refused, and it
-- was asked so often whether the desk is to stop.
pub record Goes (first now : Pass) (given : List Message) (w : Walk) (refused : List (List ℕ)) (stops : ℕ) : Type 0 where
  pub marks : List (Mark Asked)
  pub pass : now ≡ record first { seen = now.seen; mine = marks ++ first.mine }
  pub begins : Begins first.seen now.seen
  pub walks : (plan : Plan) → first.opening ≡ Some plan → Walks (opening_of plan) first.caller now.seen given marks w
  pub refused_is : (later : History) → Begins now.seen later → refused_in later marks ≡ refused
  pub stops_are : stop_count marks ≡ stops

-- where a session is: what is subscribed, the number above which events are to be read first, whether the desk is to stop,
-- the oldest event that is kept where some were missed, the bytes received, the messages ahead, how many receivings got
-- bytes or were quiet, and how often it was asked whether the desk is to stop
pub record Spot : Type 0 where
  pub talk : Talk
  pub due : Option ℕ
  pub stopping : Bool
  pub behind : Option ℕ
  pub received : List ℕ
  pub ahead : List Message
  pub turns : ℕ
  pub stops : ℕ

abbrev pub walk_at : Spot → List Message → Walk
walk_at s told = record { left = []; talk = s.talk; due = s.due; stopping = s.stopping; behind = s.behind; told = told }

-- The session has come to this spot: what its marks tell was sent, all or a first part of it, and the patterns that were
-- refused are those of its entries, and others beside them.
pub record Going (whole : Bool) (first now : Stage) (s : Spot) : Type 0 where
  pub given : List Message
  pub told : List Message
  pub refused : List (List ℕ)
  pub beside : List (List ℕ)
  pub goes : Goes first.pass now.pass given (walk_at s told) refused s.stops
  pub messages_are : messages s.received ≡ given ++ s.ahead
  pub sent : SinceBy whole first.link now.link s.received (frames told) s.turns
  pub risen : first.faults ≤ now.faults
  pub grew : Grew first.log now.log (refused ++ beside)
  pub none : whole ≡ true → beside ≡ []

-- nothing is to be done before the next message or question
abbrev pub free_spot : Talk → List ℕ → List Message → ℕ → ℕ → Spot
free_spot talk received ahead turns stops = record { talk = talk; due = None; stopping = false; behind = None; received = received; ahead = ahead; turns = turns; stops = stops }

-- what a feed of some bytes made of a decoder
abbrev pub IsFed : {A : Type 0} → Decoding → Decoding → List ℕ → List Message → List ℕ → Result A SessionEnd → Type 0
IsFed old new fed given piece (Ok x) = Stands (fed ++ piece) given new
IsFed old new fed given piece (Err e) = (e ≡ end.NoMemory) × (new ≡ old)

-- one receiving more than questions, where it was not asked after the last of them whether the desk is to stop
abbrev pub turns_of : Bool → ℕ → ℕ
turns_of false stops = stops
turns_of true stops = suc stops

-- The session is so far that all messages but those of the decoder's queue were answered, and whether the last receiving is
-- to be followed by the question whether the desk is to stop.
pub record Between (first now : Stage) (talk : Talk) (d : Decoding) (unasked : Bool) : Type 0 where
  pub received : List ℕ
  pub given : List Message
  pub stops : ℕ
  pub going : Going true first now (free_spot talk received d.queue (turns_of unasked stops) stops)
  pub stands : Stands received given d

-- the session goes on from a spot, or it has ended
abbrev pub GoesOn : {A : Type 0} → Stage → Stage → (A → Type 0) → Result A SessionEnd → Type 0
GoesOn first now ok (Ok x) = ok x
GoesOn first now ok (Err e) = Served first now e

-- what was heard: the decoder stands for bytes
pub record HasHeard (d : Decoding) : Type 0 where
  pub fed : List ℕ
  pub given : List Message
  pub stands : Stands fed given d
  pub bytes : AreBytes fed
