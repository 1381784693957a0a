-- Frames: six bytes, the payload's length, the type, and the payload.
use Rattle.std.specs.Prelude.{◌<◌, ◌≤◌, ◌^◌, ◌++◌, ℕ, List, length, codes}
use Rattle.std.specs.Int.{w32, to_le_bytes}
use Rattle.wm_frames.specs.declared.message.Message.{Message}

-- what each frame begins with
abbrev pub MAGIC : List ℕ
MAGIC = codes "i3-ipc"

-- the most bytes that a payload has
abbrev pub MAX_PAYLOAD : ℕ
MAX_PAYLOAD = 262144

-- the bytes of a message: the magic, the length and the type in 32 bits each, the lowest byte first, and the payload
abbrev pub frame : Message → List ℕ
frame m = MAGIC ++ to_le_bytes w32 (length m.payload) ++ to_le_bytes w32 m.kind ++ m.payload

-- a message that has a frame: its type and its payload's length fit 32 bits
pub record IsFramed (m : Message) : Type 0 where
  pub kind : m.kind < 2 ^ 32
  pub payload : length m.payload < 2 ^ 32

-- a message whose frame is read: its type fits 32 bits, and its payload is within the limit
pub record IsShort (m : Message) : Type 0 where
  pub kind : m.kind < 2 ^ 32
  pub payload : length m.payload ≤ MAX_PAYLOAD
