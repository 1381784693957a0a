-- The bytes of messages.
use Rattle.std.specs.Prelude.{ℕ, List}
use Rattle.std.specs.List.{flat_map}
use Rattle.wm_frames.specs.declared.message.Message.{Message}
use Rattle.wm_frames.specs.Frame.{frame}

-- the frames of messages, one after another
abbrev pub frames : List Message → List ℕ
frames ms = flat_map frame ms
