-- What a client's session did, by how it ended.
use Rattle.std.specs.Prelude.{◌≡◌, ◌⊎◌, ℕ, ◌+◌, suc, ◌^◌, Bool, true, false, List, [], ◌∷◌, ◌++◌, length, Option, None, Some, IfSome, ⊤}
use Rattle.wm_history.specs.Act as act
use Rattle.wm_history.specs.History.{History, Start, opening_of}
use Rattle.wm_core.specs.Passes.{Begins, Pass}
use Rattle.wm_core.specs.declared.asked.Asked.{Asked}
use Rattle.wm_cut.specs.Lines.{lines_in, rest_in}
use Rattle.wm_defs.specs.Counts.{Rose}
use Rattle.wm_ports.specs.Linking.{LinkTold}
use Rattle.wm_session.specs.Linked.{IsSpent, SinceBy}
use Rattle.wm_session.specs.Places.{entry_at}
use Rattle.wm_session.specs.Walk.{stop_count}
use Rattle.wm_turn.specs.declared.view.Mark.{Mark}
use Rattle.wm_turn.specs.declared.view.Mark.TheVariants.{Wrote}
use Rattle.wm_clients.specs.Endings.{closes_windows}
use Rattle.wm_clients.specs.Lines.{bad_line}
use Rattle.wm_clients.specs.Walk.{FitsClient, IsFree, Walk, walk}
use Rattle.wm_clients.specs.declared.ending.ClientEnd.{ClientEnd}
use Rattle.wm_clients.specs.declared.ending.ClientEnd.TheVariants as end

-- what a client's session has to do with: its caller's pass, its link, and the link's count of faults
pub record Stage : Type 0 where
  pub pass : Pass
  pub link : Option LinkTold
  pub faults : ℕ

abbrev pub stage : Pass → Option LinkTold → ℕ → Stage
stage pass link faults = record { pass = pass; link = link; faults = faults }

-- all that is told was sent; after the other ends a first part was
abbrev pub is_whole : ClientEnd → Bool
is_whole end.LinkFault = false
is_whole end.Exhausted = false
is_whole end.NoMemory = false
is_whole other = true

-- all lines were answered, none of them being bad, and what was asked after the last one was told
pub record IsAnswered (received : List ℕ) (w : Walk) : Type 0 where
  pub all : w.left ≡ []
  pub good : bad_line received ≡ None
  pub read : w.due ≡ false

-- the line of this number is the first bad one, and all lines before it were answered
pub record IsBadAt (line : ℕ) (received : List ℕ) (w : Walk) : Type 0 where
  pub free : IsFree w
  pub first : bad_line received ≡ Some line
  pub before : line + length w.left ≡ length (lines_in received) + 1

-- The cause of an end: by the bytes received, the link and its count of faults, the pass, and what follows from the marks.
abbrev pub IsCause : ClientEnd → List ℕ → Stage → Stage → Walk → Type 0
IsCause end.Closed received first now w = IsAnswered received w × (w.stopping ≡ false) × (rest_in received ≡ []) × IsSpent first.link received
IsCause end.Truncated received first now w = IsAnswered received w × (w.stopping ≡ false) × (rest_in received ≡ [] → ⊥) × IsSpent first.link received
IsCause (end.BadLine line) received first now w = IsBadAt line received w
IsCause end.Stopped received first now w = IsAnswered received w × (w.stopping ≡ true)
IsCause end.LinkFault received first now w = Rose first.faults now.faults
IsCause end.Exhausted received first now w = length now.pass.seen ≡ 2 ^ 48
IsCause end.NoMemory received first now w = ⊤

-- how many receivings got bytes or were quiet, by how often it was asked whether the desk is to stop: one more where it was
-- not asked after the last of them
abbrev pub IsAsked : ClientEnd → ℕ → ℕ → Type 0
IsAsked end.Closed turns stops = turns ≡ stops
IsAsked end.Truncated turns stops = turns ≡ stops
IsAsked end.Stopped turns stops = turns ≡ stops
IsAsked other turns stops = (turns ≡ stops) ⊎ (turns ≡ suc stops)

-- the mark of the step that closes the caller's windows; that step stands there whatever comes later
pub record IsGone (pass : Pass) (gone : List (Mark Asked)) : Type 0 where
  pub place : ℕ
  pub mark : gone ≡ Wrote place ∷ []
  pub entry : (later : History) → Begins pass.seen later → entry_at place later ≡ Some (record { who = pass.caller; act = act.Gone })

-- that mark, or none where the windows stay open
abbrev pub Leaves : Bool → Pass → List (Mark Asked) → Type 0
Leaves true pass gone = IsGone pass gone
Leaves false pass gone = gone ≡ []

-- The marks fit the lines of the bytes received, whatever comes later; what they tell was sent, and the end has its cause.
pub record ServedFrom (start : Start) (first now : Stage) (marks : List (Mark Asked)) (received : List ℕ) (turns : ℕ) (e : ClientEnd) : Type 0 where
  pub fit : (later : History) → Begins now.pass.seen later → FitsClient start first.pass.caller later (lines_in received) marks
  pub sent : SinceBy (is_whole e) first.link now.link received (walk start first.pass.caller now.pass.seen (lines_in received) marks).told turns
  pub cause : IsCause e received first now (walk start first.pass.caller now.pass.seen (lines_in received) marks)

-- A client's session from the first stage to this one: the new marks of its pass, the newest first, the mark behind them of
-- the step that closes its windows, the bytes received, and how many receivings got bytes or were quiet.
pub record ServedClient (first now : Stage) (e : ClientEnd) : Type 0 where
  pub marks : List (Mark Asked)
  pub gone : List (Mark Asked)
  pub received : List ℕ
  pub turns : ℕ
  pub pass : now.pass ≡ record first.pass { seen = now.pass.seen; mine = gone ++ (marks ++ first.pass.mine) }
  pub begins : Begins first.pass.seen now.pass.seen
  pub served : IfSome first.pass.opening (λ plan. ServedFrom (opening_of plan) first now marks received turns e)
  pub asked : IsAsked e turns (stop_count marks)
  pub leaves : Leaves (closes_windows e) now.pass gone
