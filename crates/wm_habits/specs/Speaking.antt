-- A client that is spoken to in bytes.
use Rattle.std.specs.Prelude.{◌≡◌, ℕ, ◌≤◌, ◌⊎◌, min, List, [], ◌∷◌, ◌++◌, length, drop}
use Rattle.wm_cut.specs.Lines.{lines_in, rest_in}
use Rattle.wm_habits.specs.Acting.{Acting, after_lines, said_over}
use Rattle.wm_ports.specs.declared.links.Received.{Received}
use Rattle.wm_ports.specs.declared.links.Received.TheVariants as received

-- the client, the bytes of a line that is not yet ended, and the bytes that the client has to say
pub record Speaking : Type 0 where
  pub acting : Acting
  pub heard : List ℕ
  pub say : List ℕ

-- a client that begins with a line
abbrev pub beginning : Acting → List ℕ → Speaking
beginning a first = record { acting = a; heard = []; say = first ++ (10 ∷ []) }

-- a client that has these bytes to say and answers the whole lines of those
abbrev pub answering : Acting → List ℕ → List ℕ → Speaking
answering a bytes say = record { acting = after_lines a (lines_in bytes); heard = rest_in bytes; say = say ++ said_over a (lines_in bytes) }

-- after these bytes were sent to it
abbrev pub hears : Speaking → List ℕ → Speaking
hears s bytes = answering s.acting (s.heard ++ bytes) s.say

-- what a receiving into room for so many bytes answers where there is memory
abbrev pub given : List ℕ → ℕ → Received
given [] room = received.Quiet
given (first ∷ rest) room = received.Got (min room (length (first ∷ rest)))

-- after a receiving with this answer
abbrev pub after_receiving : Speaking → Received → Speaking
after_receiving s (received.Got n) = record s { say = drop n s.say }
after_receiving s received.Quiet = s
after_receiving s received.End = s
after_receiving s received.Failed = s
after_receiving s received.NoMemory = s

-- there are so many bytes to say, or no whole line is left to be answered
abbrev pub IsFilled : List ℕ → List ℕ → ℕ → Type 0
IsFilled bytes say room = (room ≤ length say) ⊎ (lines_in bytes ≡ [])
