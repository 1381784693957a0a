-- A listener and a clock in memory: what they hold, what they answer, and what a call does to them.
use Rattle.std.specs.Prelude.{◌≡◌, ℕ, ◌+◌, ◌<◌, ◌≤◌, min, suc, zero, Bool, true, false, List, [], ◌∷◌, ◌++◌, drop, Option, Some}
use Rattle.wm_defs.specs.Counts.{LAST_COUNT}
use Rattle.wm_ports.specs.LinkMemory.{LinkState}
use Rattle.wm_ports.specs.Listening.{ListenTold}
use Rattle.wm_ports.specs.Memory.{is_listed, next}
use Rattle.wm_ports.specs.declared.listens.Accepted.{Accepted}
use Rattle.wm_ports.specs.declared.listens.Accepted.TheVariants as accepted

-- the links that it was made with, and those that wait; the links given back, and whether one is out that may be; the
-- numbers of the calls that fail and of those that are quiet; how many calls and faults there were
pub record ListenState : Type 0 where
  pub links : List LinkState
  pub waiting : List LinkState
  pub returned : List LinkState
  pub is_out : Bool
  pub fails : List ℕ
  pub quiet : List ℕ
  pub calls : ℕ
  pub faults : ℕ

-- what an accepting answers that is listed as failing, or else as quiet, or else gives the first link that waits
abbrev pub chosen_link : Bool → Bool → List LinkState → Accepted LinkState
chosen_link true quiet waiting = accepted.Failed
chosen_link false true waiting = accepted.Quiet
chosen_link false false [] = accepted.Quiet
chosen_link false false (link ∷ rest) = accepted.Link link

-- the links that still wait after an accepting with this answer
abbrev pub waiting_by : Accepted LinkState → List LinkState → List LinkState
waiting_by (accepted.Link link) waiting = drop 1 waiting
waiting_by accepted.Quiet waiting = waiting
waiting_by accepted.Failed waiting = waiting

-- what the accepting of this number answers, where these links wait
abbrev pub accepted_at : List ℕ → List ℕ → ℕ → List LinkState → Accepted LinkState
accepted_at fails quiet call waiting = chosen_link (is_listed fails call) (is_listed quiet call) waiting

-- the links that wait after the first so many acceptings
unfoldable pub waiting_after : List LinkState → List ℕ → List ℕ → ℕ → List LinkState
waiting_after links fails quiet zero = links
waiting_after links fails quiet (suc n) =
    waiting_by (accepted_at fails quiet (suc n) (waiting_after links fails quiet n)) (waiting_after links fails quiet n)

-- what the first so many acceptings answered
unfoldable pub answers : List LinkState → List ℕ → List ℕ → ℕ → List (Accepted LinkState)
answers links fails quiet zero = []
answers links fails quiet (suc n) =
    answers links fails quiet n ++ accepted_at fails quiet (suc n) (waiting_after links fails quiet n) ∷ []

-- these links wait after so many acceptings, as long as the count of them tells how many there were
pub record IsWaiting (links : List LinkState) (fails quiet : List ℕ) (calls : ℕ) (waiting : List LinkState) : Type 0 where
  pub within : calls ≤ LAST_COUNT
  pub is : calls < LAST_COUNT → waiting ≡ waiting_after links fails quiet calls

-- it tells everything
abbrev pub listen_told : ListenState → Option (ListenTold LinkState)
listen_told s = Some (record { answers = answers s.links s.fails s.quiet s.calls; returned = s.returned })

-- what the next accepting answers
abbrev pub accept_of : ListenState → Accepted LinkState
accept_of s = accepted_at s.fails s.quiet (next s.calls) s.waiting

-- after an accepting with this answer
abbrev pub after_accept : ListenState → Accepted LinkState → ListenState
after_accept s (accepted.Link link) = record s { waiting = drop 1 s.waiting; is_out = true; calls = next s.calls }
after_accept s accepted.Quiet = record s { is_out = false; calls = next s.calls }
after_accept s accepted.Failed = record s { is_out = false; calls = next s.calls; faults = next s.faults }

-- after this link was given back
abbrev pub after_return : ListenState → LinkState → ListenState
after_return s link = record s { returned = s.returned ++ link ∷ []; is_out = false }

-- the first number that a clock gives, what it adds at each call, the number that it gives next, and how many it gave
pub record ClockState : Type 0 where
  pub first : ℕ
  pub add : ℕ
  pub now : ℕ
  pub calls : ℕ

-- the number that a clock gives after so many: it stands still at the last number of 64 bits
unfoldable pub number_after : ℕ → ℕ → ℕ → ℕ
number_after first add zero = first
number_after first add (suc n) = min (number_after first add n + add) LAST_COUNT

-- the first so many numbers
unfoldable pub numbers : ℕ → ℕ → ℕ → List ℕ
numbers first add zero = []
numbers first add (suc n) = numbers first add n ++ number_after first add n ∷ []

-- this number comes after so many, as long as the count of them tells how many there were
pub record IsNow (first add calls now : ℕ) : Type 0 where
  pub within : calls ≤ LAST_COUNT
  pub is : calls < LAST_COUNT → now ≡ number_after first add calls

-- after a number was given
abbrev pub after_tick : ClockState → ClockState
after_tick s = record s { now = min (s.now + s.add) LAST_COUNT; calls = next s.calls }
