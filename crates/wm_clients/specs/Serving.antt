-- How far a client's session is.
use Rattle.std.specs.Prelude.{◌≡◌, ℕ, ◌+◌, ◌≤◌, Bool, true, false, List, [], ◌++◌, length, None, Some, Result, Ok, Err}
use Rattle.wm_history.specs.History.{History, Start, opening_of}
use Rattle.wm_core.specs.Passes.{Begins, Pass}
use Rattle.wm_core.specs.declared.asked.Asked.{Asked}
use Rattle.wm_cut.specs.Lines.{first_line, lines_in, rest_in}
use Rattle.wm_layouts.specs.declared.plan.Plan.{Plan}
use Rattle.wm_session.specs.Linked.{SinceBy}
use Rattle.wm_session.specs.Serving.{turns_of}
use Rattle.wm_session.specs.Walk.{stop_count}
use Rattle.wm_turn.specs.declared.view.Mark.{Mark}
use Rattle.wm_clients.specs.Lines.{LONGEST, bad_from}
use Rattle.wm_clients.specs.Served.{IsAsked, IsCause, Stage, is_whole}
use Rattle.wm_clients.specs.Walk.{FitsClient, Walk, walk}
use Rattle.wm_clients.specs.declared.ending.ClientEnd.{ClientEnd}
use Rattle.wm_clients.specs.declared.ending.ClientEnd.TheVariants as end
use Rattle.wm_clients.specs.declared.sent.Sent.{Sent}

-- The marks fit the lines that were answered, and this follows from them, whatever is seen and whatever comes later.
pub record Walks (start : Start) (who : ℕ) (seen : History) (given : List (List ℕ)) (marks : List (Mark Asked)) (w : Walk) : Type 0 where
  pub is : (later : History) (more : List (List ℕ)) → Begins seen later → walk start who later (given ++ more) marks ≡ record w { left = more }
  pub fit : (later : History) (more : List (List ℕ)) → Begins seen later → FitsClient start who later (given ++ more) marks

-- Since the first pass these lines were answered, this follows from the marks of it, and it was asked so often whether the
-- desk is to stop.
pub record Goes (first now : Pass) (given : List (List ℕ)) (w : Walk) (stops : ℕ) : Type 0 where
  pub marks : List (Mark Asked)
  pub pass : now ≡ record first { seen = now.seen; mine = marks ++ first.mine }
  pub begins : Begins first.seen now.seen
  pub walks : (plan : Plan) → first.opening ≡ Some plan → Walks (opening_of plan) first.caller now.seen given marks w
  pub stops_are : stop_count marks ≡ stops

-- Of the bytes received these lines were taken, and these bytes are pending, whatever comes later.
pub record Cuts (received : List ℕ) (given : List (List ℕ)) (pending : List ℕ) : Type 0 where
  pub lines : (later : List ℕ) → lines_in (received ++ later) ≡ given ++ lines_in (pending ++ later)
  pub rest : (later : List ℕ) → rest_in (received ++ later) ≡ rest_in (pending ++ later)

-- where a session is: the greatest numbers sent of what was asked, whether that is to be read first, whether the desk is to
-- stop, how many lines were answered, the bytes received, those that are pending, how many receivings got bytes or were
-- quiet, and how often it was asked whether the desk is to stop
pub record Spot : Type 0 where
  pub sent : Sent
  pub due : Bool
  pub stopping : Bool
  pub count : ℕ
  pub received : List ℕ
  pub pending : List ℕ
  pub turns : ℕ
  pub stops : ℕ

abbrev pub walk_at : Spot → List ℕ → Walk
walk_at s told = record { left = []; sent = s.sent; due = s.due; stopping = s.stopping; told = told }

-- The session has come to this spot: what its marks tell was sent, all or a first part of it, and none of the lines that
-- were answered is bad.
pub record Going (whole : Bool) (first now : Stage) (s : Spot) : Type 0 where
  pub given : List (List ℕ)
  pub told : List ℕ
  pub goes : Goes first.pass now.pass given (walk_at s told) s.stops
  pub cuts : Cuts s.received given s.pending
  pub counted : length given ≡ s.count
  pub good : (more : List (List ℕ)) (rest : List ℕ) → bad_from 1 (given ++ more) rest ≡ bad_from (s.count + 1) more rest
  pub bytes : SinceBy whole first.link now.link s.received told s.turns
  pub risen : first.faults ≤ now.faults

-- nothing is to be done before the next line or question
abbrev pub free_spot : Sent → ℕ → List ℕ → List ℕ → ℕ → ℕ → Spot
free_spot sent count received pending turns stops = record { sent = sent; due = false; stopping = false; count = count; received = received; pending = pending; turns = turns; stops = stops }

-- The session has ended in this way, and the step that closes the client's windows is still to be taken.
pub record Ends (first now : Stage) (e : ClientEnd) : Type 0 where
  pub spot : Spot
  pub going : Going (is_whole e) first now spot
  pub asks : IsAsked e spot.turns spot.stops
  pub cause : (told : List ℕ) → IsCause e spot.received first now (record (walk_at spot told) { left = lines_in spot.pending })

-- the session goes on from a spot, or it has ended
abbrev pub GoesOn : {A : Type 0} → Stage → Stage → (A → Type 0) → Result A ClientEnd → Type 0
GoesOn first now ok (Ok x) = ok x
GoesOn first now ok (Err e) = Ends first now e

-- The session is so far that all lines were answered but those of the pending bytes, and whether the last receiving is to be
-- followed by the question whether the desk is to stop.
pub record Between (first now : Stage) (sent : Sent) (count : ℕ) (pending : List ℕ) (unasked : Bool) : Type 0 where
  pub received : List ℕ
  pub stops : ℕ
  pub going : Going true first now (free_spot sent count received pending (turns_of unasked stops) stops)

-- no line is pending, and the bytes that are may still become a line
abbrev pub IsPart : List ℕ → Type 0
IsPart pending = (first_line pending ≡ None) × (length pending ≤ LONGEST)

-- what a feed of some bytes left pending
abbrev pub IsFed : {A : Type 0} → List ℕ → List ℕ → List ℕ → Result A ClientEnd → Type 0
IsFed old new piece (Ok x) = new ≡ old ++ piece
IsFed old new piece (Err e) = (e ≡ end.NoMemory) × (new ≡ old)
