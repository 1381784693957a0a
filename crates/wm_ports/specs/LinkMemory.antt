-- A link in memory: what it holds, what a receiving answers, and what a call does to it.
use Rattle.std.specs.Prelude.{ℕ, min, Bool, true, false, List, [], ◌∷◌, ◌++◌, length, take, drop, Option, Some}
use Rattle.wm_ports.specs.Linking.{LinkTold}
use Rattle.wm_ports.specs.Memory.{is_listed, next}
use Rattle.wm_ports.specs.declared.links.Received.{Received}
use Rattle.wm_ports.specs.declared.links.Received.TheVariants as received

-- the bytes left to receive; the bytes sent, and the room for them in all; the numbers of the calls that fail and of
-- those that are quiet; how many calls, turns and faults there were
pub record LinkState : Type 0 where
  pub left : List ℕ
  pub sent : List ℕ
  pub room : ℕ
  pub fails : List ℕ
  pub quiet : List ℕ
  pub calls : ℕ
  pub turns : ℕ
  pub faults : ℕ

-- it tells everything
abbrev pub link_told : LinkState → Option LinkTold
link_told s = Some (record { left = s.left; sent = s.sent; turns = s.turns })

-- what a receiving into room for so many bytes answers where nothing but the bytes left decides
abbrev pub given : List ℕ → ℕ → Received
given [] room = received.End
given (first ∷ rest) room = received.Got (min room (length (first ∷ rest)))

-- what a receiving answers that is listed as failing, or else as quiet, or else answers so
abbrev pub chosen : Bool → Bool → Received → Received
chosen true quiet other = received.Failed
chosen false true other = received.Quiet
chosen false false other = other

-- what the next call answers, where it is a receiving into room for so many bytes
abbrev pub answer_of : LinkState → ℕ → Received
answer_of s room = chosen (is_listed s.fails (next s.calls)) (is_listed s.quiet (next s.calls)) (given s.left room)

-- after a receiving with this answer
abbrev pub after_receiving : LinkState → Received → LinkState
after_receiving s (received.Got n) = record s { left = drop n s.left; calls = next s.calls; turns = next s.turns }
after_receiving s received.Quiet = record s { calls = next s.calls; turns = next s.turns }
after_receiving s received.End = record s { calls = next s.calls }
after_receiving s received.Failed = record s { calls = next s.calls; faults = next s.faults }
after_receiving s received.NoMemory = s

-- the room after a receiving with this answer
abbrev pub filled : List ℕ → Received → List ℕ → List ℕ
filled left (received.Got n) room = take n left ++ drop n room
filled left _ room = room

-- after a sending that took these bytes
abbrev pub after_send : LinkState → List ℕ → LinkState
after_send s bytes = record s { sent = s.sent ++ bytes; calls = next s.calls }

-- after a sending that failed
abbrev pub after_failed_send : LinkState → LinkState
after_failed_send s = record s { calls = next s.calls; faults = next s.faults }
