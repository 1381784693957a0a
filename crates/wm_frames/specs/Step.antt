-- One piece of bytes, for a decoder with no fault.
use Rattle.std.specs.Prelude.{◌≡◌, ℕ, ◌+◌, ◌++◌, Option, Some, None, List, []}
use Rattle.wm_frames.specs.Front.{front_of}
use Rattle.wm_frames.specs.Reading.{messages, tail, place}
use Rattle.wm_frames.specs.Decoding.{Decoding, capped}
use Rattle.wm_frames.specs.declared.message.FrameFault.{FrameFault}
use Rattle.wm_frames.specs.declared.message.FrameFault.TheVariants.{Magic, TooLong}
use Rattle.wm_frames.specs.declared.front.Front.{Front}
use Rattle.wm_frames.specs.declared.front.Front.TheVariants.{Whole, Part, Wrong, Long}

-- the fault of bytes at a place, by what stands at their front
abbrev pub fault_at : ℕ → Front → Option FrameFault
fault_at at (Whole len) = None
fault_at at Part = None
fault_at at Wrong = Some (Magic (capped at))
fault_at at (Long len) = Some (TooLong (capped at) len)

-- the bytes that are kept, by what stands at their front: none after a fault
abbrev pub kept : List ℕ → Front → List ℕ
kept bytes (Whole len) = bytes
kept bytes Part = bytes
kept bytes Wrong = []
kept bytes (Long len) = []

-- A decoder with no fault that took a piece read its rest and the piece together.
pub record Takes (old : Decoding) (piece : List ℕ) (new : Decoding) : Type 0 where
  pub queue : new.queue ≡ old.queue ++ messages (old.rest ++ piece)
  pub rest : new.rest ≡ kept (tail (old.rest ++ piece)) (front_of (tail (old.rest ++ piece)))
  pub at : new.place ≡ capped (old.place + place (old.rest ++ piece))
  pub fault : new.fault ≡ fault_at (old.place + place (old.rest ++ piece)) (front_of (tail (old.rest ++ piece)))
