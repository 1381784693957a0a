-- How far a painter is, and what it did.
use Rattle.std.specs.Prelude.{◌≡◌, ◌⊎◌, ℕ, ◌≤◌, List, ◌++◌, Option, Result, Ok, Err, ⊤}
use Rattle.wm_history.specs.Frame.{frame}
use Rattle.wm_core.specs.Passes.{Looked, Pass, Saw}
use Rattle.wm_core.specs.declared.asked.Asked.TheVariants as asked
use Rattle.wm_defs.specs.Counts.{Rose}
use Rattle.wm_paint.specs.FrameText.{frame_text}
use Rattle.wm_ports.specs.Told.{TakesAll, TakesPart}
use Rattle.wm_actors.specs.Exits.{Exits}
use Rattle.wm_actors.specs.Paints.{AreRounds, IsLast, Last, Round, all_marks, last_marks}
use Rattle.wm_actors.specs.Pictures.{joined, newest, pictures, texts, unless_same}
use Rattle.wm_actors.specs.Since.{Since}
use Rattle.wm_actors.specs.declared.ending.ActorEnd.{ActorEnd}
use Rattle.wm_actors.specs.declared.ending.ActorEnd.TheVariants as end

-- all of the bytes, or a first part of them where it was not stopped
abbrev pub IsWritten : ActorEnd → Option (List ℕ) → Option (List ℕ) → List ℕ → Type 0
IsWritten end.Stopped old new bytes = TakesAll old new bytes
IsWritten other old new bytes = TakesPart old new bytes

-- an end that the sink brings about: its count of faults rose
abbrev pub IsCause : ActorEnd → ℕ → ℕ → Type 0
IsCause end.WriteFault old new = Rose old new
IsCause other old new = ⊤

-- a sink: what it told that was taken, and its count of faults
pub record Screen : Type 0 where
  pub taken : Option (List ℕ)
  pub faults : ℕ

abbrev pub screen : Option (List ℕ) → ℕ → Screen
screen taken faults = record { taken = taken; faults = faults }

-- a text was written where it differs from the last that was written, which it is then; or a first part of it was, and the
-- sink's count rose
abbrev pub Shows : {A : Type 0} → Screen → Screen → List ℕ → List ℕ → List ℕ → Result A ActorEnd → Type 0
Shows from to last now text (Ok x) = TakesAll from.taken to.taken (unless_same text last) × (now ≡ text) × (from.faults ≤ to.faults)
Shows from to last now text (Err e) = (e ≡ end.WriteFault) × TakesPart from.taken to.taken (unless_same text last) × Rose from.faults to.faults

-- the frame was read, and this is its text
abbrev pub ReadsFrame : Pass → Pass → List ℕ → Type 0
ReadsFrame old new text = Looked old new asked.Frame (λ start seen. text ≡ frame_text (frame start seen))

-- there was no memory for the frame, or for its text
abbrev pub Unread : Pass → Pass → Type 0
Unread old new = Saw old new ⊎ ((text : List ℕ) × ReadsFrame old new text)

-- The painter has made these rounds since its first pass, and has written what their marks say; this is the text that it
-- wrote last.
pub record Painting (first now : Pass) (from to : Screen) (last : List ℕ) : Type 0 where
  pub rounds : List Round
  pub read : List (List ℕ)
  pub since : Since first now (all_marks rounds) (λ start seen. AreRounds start seen rounds × (texts start seen (all_marks rounds) ≡ read))
  pub written : TakesAll from.taken to.taken (joined read)
  pub last_is : last ≡ newest read
  pub risen : from.faults ≤ to.faults

-- The painter made these rounds, and ended so in another one.
pub record Ended (first now : Pass) (from to : Screen) (e : ActorEnd) : Type 0 where
  pub rounds : List Round
  pub last : Last
  pub bytes : List ℕ
  pub since : Since first now (last_marks last ++ all_marks rounds) (λ start seen.
      AreRounds start seen rounds × IsLast e start seen last × (pictures start seen (last_marks last ++ all_marks rounds) ≡ bytes))
  pub written : IsWritten e from.taken to.taken bytes
  pub cause : IsCause e from.faults to.faults

-- the painter goes on, or it has ended
abbrev pub GoesOn : {A : Type 0} → Pass → Pass → Screen → Screen → List ℕ → Result A ActorEnd → Type 0
GoesOn first now from to last (Ok x) = Painting first now from to last
GoesOn first now from to last (Err e) = Ended first now from to e

-- A painter's rounds, the one in which it ended, and the step `exit` where it was not stopped.
pub record Pictured (first now : Pass) (from to : Screen) (e : ActorEnd) : Type 0 where
  pub before : Pass
  pub ended : Ended first before from to e
  pub exits : Exits e before now
