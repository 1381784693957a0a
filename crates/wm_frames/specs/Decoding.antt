-- What a decoder is after the bytes that it was fed.
use Rattle.std.specs.Prelude.{◌≡◌, ℕ, ◌++◌, min, Option, Some, None, List, []}
use Rattle.wm_frames.specs.Reading.{messages, tail, place, Ending, rest, magic, too_long, ending}
use Rattle.wm_frames.specs.declared.message.Message.{Message}
use Rattle.wm_frames.specs.declared.message.FrameFault.{FrameFault}
use Rattle.wm_frames.specs.declared.message.FrameFault.TheVariants.{Magic, TooLong}

-- the queue of messages, the rest, the place at which the rest or the fault stands, and the fault
pub record Decoding : Type 0 where
  pub queue : List Message
  pub rest : List ℕ
  pub place : ℕ
  pub fault : Option FrameFault

-- a place in 64 bits: the last one stands for all above it
abbrev pub capped : ℕ → ℕ
capped place = min place 18446744073709551615

-- the fault that bytes end with
abbrev pub fault_of : Ending → Option FrameFault
fault_of (rest count) = None
fault_of (magic at) = Some (Magic (capped at))
fault_of (too_long at len) = Some (TooLong (capped at) len)

-- the rest that is kept of a tail: none after a fault
abbrev pub rest_of : Ending → List ℕ → List ℕ
rest_of (rest count) bytes = bytes
rest_of (magic at) bytes = []
rest_of (too_long at len) bytes = []

-- After these bytes, of which these messages were given, the decoder has the other messages of the one
-- reading, its rest and its fault.
pub record Stands (fed : List ℕ) (given : List Message) (d : Decoding) : Type 0 where
  pub each : messages fed ≡ given ++ d.queue
  pub left : d.rest ≡ rest_of (ending fed) (tail fed)
  pub at : d.place ≡ capped (place fed)
  pub fault : d.fault ≡ fault_of (ending fed)
