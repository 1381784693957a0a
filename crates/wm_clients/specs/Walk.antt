-- What a client's link is told by the marks of its session, and which marks fit the lines that came on it.
use Rattle.std.specs.Prelude.{◌≡◌, ℕ, Bool, true, false, not, List, [], ◌∷◌, ◌++◌, Option, None, Some}
use Rattle.std.specs.Option.{option_map}
use Rattle.wm_history.specs.History.{Entry, History, Start, answer, stopped}
use Rattle.wm_history.specs.Look.{look}
use Rattle.wm_core.specs.declared.asked.Asked.{Asked}
use Rattle.wm_core.specs.declared.asked.Asked.TheVariants as asked
use Rattle.wm_history.specs.declared.look.View.{View}
use Rattle.wm_history.specs.declared.step.Answer.{Answer}
use Rattle.wm_lines.specs.Told.{answer_text}
use Rattle.wm_session.specs.Places.{at_length, entry_at}
use Rattle.wm_turn.specs.declared.view.Mark.{Mark}
use Rattle.wm_turn.specs.declared.view.Mark.TheVariants.{Wrote, Read}
use Rattle.wm_clients.specs.Lines.{line_act}
use Rattle.wm_clients.specs.Wanted.{NONE_SENT, after_wants, wants_above, wants_in, wants_text}
use Rattle.wm_clients.specs.declared.sent.Sent.{Sent}

-- what follows from some lines and the marks so far
pub record Walk : Type 0 where
  -- the lines that no mark has taken yet
  pub left : List (List ℕ)
  -- the greatest numbers of what was asked that were sent
  pub sent : Sent
  -- what is asked of the client's windows is to be read before anything else
  pub due : Bool
  -- a reading said that the desk is to stop
  pub stopping : Bool
  -- what the link is told, in order
  pub told : List ℕ

-- nothing was called yet
abbrev pub unasked : List (List ℕ) → Walk
unasked lines = record { left = lines; sent = NONE_SENT; due = false; stopping = false; told = [] }

-- ---- what a mark does

-- a line was answered; what is asked of the client's windows is to be read
abbrev pub answered_by : Answer → Walk → Walk
answered_by said w = record w { due = true; told = w.told ++ answer_text said }

-- the next line was answered
abbrev pub answered : List (List ℕ) → Option Answer → Walk → Walk
answered [] said w = w
answered (line ∷ lines) None w = w
answered (line ∷ lines) (Some said) w = answered_by said (record w { left = lines })

-- what is asked of the client's windows was read
abbrev pub wants_read : View → Walk → Walk
wants_read v w = record w { sent = after_wants (wants_in v) w.sent; due = false; told = w.told ++ wants_text (wants_in v) }

-- it was asked whether the desk is to stop; where it is not, what is asked of the client's windows is to be read
abbrev pub asked_stop : Bool → Walk → Walk
asked_stop stops w = record w { due = not stops; stopping = stops }

-- what the step at a place was answered
abbrev pub answer_at : Start → History → Option Entry → Option Answer
answer_at start before entry = option_map (answer start before) entry

-- what a question does that the caller asked when the history was this
abbrev pub next_read : Start → ℕ → History → Asked → Walk → Walk
next_read start who history asked.Stopped w = asked_stop (stopped start history) w
next_read start who history asked.Frame w = w
next_read start who history (asked.Query q) w = wants_read (look start history who q) w

abbrev pub next : Start → ℕ → History → Mark Asked → Walk → Walk
next start who seen (Wrote place) w = answered w.left (answer_at start (at_length place seen) (entry_at place seen)) w
next start who seen (Read question count) w = next_read start who (at_length count seen) question w

-- the walk over the marks, of which the newest comes first
abbrev pub walk : Start → ℕ → History → List (List ℕ) → List (Mark Asked) → Walk
walk start who seen lines [] = unasked lines
walk start who seen lines (mark ∷ marks) = next start who seen mark (walk start who seen lines marks)

-- ---- which marks fit

-- nothing is to be read first, and the desk goes on
pub record IsFree (w : Walk) : Type 0 where
  pub read : w.due ≡ false
  pub going : w.stopping ≡ false

-- the entry is the step of the next line
abbrev pub IsNextStep : List (List ℕ) → Option Entry → Type 0
IsNextStep [] entry = ⊥
IsNextStep (line ∷ lines) None = ⊥
IsNextStep (line ∷ lines) (Some entry) = line_act line ≡ Some entry.act

-- what is asked of the client's windows is read where that is due, above the numbers that were sent
abbrev pub FitsRead : Asked → Walk → Type 0
FitsRead asked.Stopped w = IsFree w
FitsRead asked.Frame w = ⊥
FitsRead (asked.Query q) w = (w.due ≡ true) × (q ≡ wants_above w.sent)

-- the mark fits behind this walk
abbrev pub FitsNext : History → Mark Asked → Walk → Type 0
FitsNext seen (Wrote place) w = IsFree w × IsNextStep w.left (entry_at place seen)
FitsNext seen (Read question count) w = FitsRead question w

-- Each mark is the step of the next line, a reading of what is asked of the client's windows after each step and each
-- question that said no, or a question whether the desk is to stop.
abbrev pub FitsClient : Start → ℕ → History → List (List ℕ) → List (Mark Asked) → Type 0
FitsClient start who seen lines [] = Unit {0}
FitsClient start who seen lines (mark ∷ marks) = FitsClient start who seen lines marks × FitsNext seen mark (walk start who seen lines marks)
