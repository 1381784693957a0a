-- What receivings and sendings do to what a link tells, where it tells it.
use Rattle.std.specs.Prelude.{◌≡◌, ℕ, ◌<◌, ◌≤◌, List, [], ◌++◌, length, take, drop, Option, None, Some, Result, MatchResult, ⊤}
use Rattle.wm_defs.specs.Counts.{Rose}
use Rattle.wm_ports.specs.Memory.{next}
use Rattle.wm_ports.specs.declared.links.Received.{Received}
use Rattle.wm_ports.specs.declared.links.Received.TheVariants as received
use Rattle.wm_ports.specs.declared.links.SendFault.{SendFault}
use Rattle.wm_ports.specs.declared.links.SendFault.TheVariants as faults

-- the bytes left to receive, the bytes sent so far, and how many receivings answered Got or Quiet, a count of 64 bits
pub record LinkTold : Type 0 where
  pub left : List ℕ
  pub sent : List ℕ
  pub turns : ℕ

-- after a receiving that got n bytes; one that was quiet got none
abbrev pub after_turn : LinkTold → ℕ → LinkTold
after_turn t n = record t { left = drop n t.left; turns = next t.turns }

-- after a sending that took these bytes
abbrev pub after_sending : LinkTold → List ℕ → LinkTold
after_sending t bytes = record t { sent = t.sent ++ bytes }

-- the first n bytes that were left came to the front of the room
pub record GivesFirst (t : LinkTold) (new : Option LinkTold) (n : ℕ) (room : List ℕ) : Type 0 where
  pub within : n ≤ length t.left
  pub bytes : take n room ≡ take n t.left
  pub told : new ≡ Some (after_turn t n)

-- what a receiving with this answer left in the room, and what the link tells then
abbrev pub IsReceived : Option LinkTold → Option LinkTold → Received → List ℕ → Type 0
IsReceived None new answer room = ⊤
IsReceived (Some t) new (received.Got n) room = GivesFirst t new n room
IsReceived (Some t) new received.Quiet room = new ≡ Some (after_turn t 0)
IsReceived (Some t) new received.End room = (t.left ≡ []) × (new ≡ Some t)
IsReceived (Some t) new received.Failed room = new ≡ Some t
IsReceived (Some t) new received.NoMemory room = new ≡ Some t

-- at least one byte was got, and no more than the room has
abbrev pub IsWithin : Received → List ℕ → Type 0
IsWithin (received.Got n) room = (0 < n) × (n ≤ length room)
IsWithin _ room = ⊤

-- how a link's count of faults went over a receiving with this answer
abbrev pub IsCounted : Received → ℕ → ℕ → Type 0
IsCounted received.Failed old new = Rose old new
IsCounted received.NoMemory old new = new ≡ old
IsCounted _ old new = ⊤

-- what a link tells after a sending: it took the first n bytes, or none and refused
abbrev pub IsSent : Option LinkTold → Option LinkTold → Result ℕ SendFault → List ℕ → Type 0
IsSent None new answer bytes = ⊤
IsSent (Some t) new answer bytes = MatchResult answer (λ n. new ≡ Some (after_sending t (take n bytes))) (λ _. new ≡ Some t)

-- how a link's count of faults went over a sending that was refused so
abbrev pub IsBlamed : SendFault → ℕ → ℕ → Type 0
IsBlamed faults.Failed old new = Rose old new
IsBlamed faults.NoMemory old new = new ≡ old

-- all of these bytes were sent
abbrev pub SendsAll : Option LinkTold → Option LinkTold → List ℕ → Type 0
SendsAll None new bytes = ⊤
SendsAll (Some t) new bytes = new ≡ Some (after_sending t bytes)

-- a first part of these bytes was sent
pub record SendsPart (old new : Option LinkTold) (bytes : List ℕ) : Type 0 where
  pub count : ℕ
  pub sent : SendsAll old new (take count bytes)
