-- What a painter writes.
use Rattle.std.specs.Prelude.{ℕ, List, [], ◌∷◌, ◌++◌, if◌then◌else◌}
use Rattle.std.specs.Str.{bytes_eq}
use Rattle.wm_history.specs.Frame.{frame}
use Rattle.wm_history.specs.History.{History, Start}
use Rattle.wm_core.specs.declared.asked.Asked.{Asked}
use Rattle.wm_core.specs.declared.asked.Asked.TheVariants as asked
use Rattle.wm_paint.specs.FrameText.{frame_text}
use Rattle.wm_session.specs.Places.{at_length}
use Rattle.wm_turn.specs.declared.view.Mark.{Mark}
use Rattle.wm_turn.specs.declared.view.Mark.TheVariants.{Wrote, Read}

-- ---- the frames that were read, the newest first

-- the text of a frame that was read when the history was this, before these
abbrev pub texts_with : Start → Asked → History → List (List ℕ) → List (List ℕ)
texts_with start asked.Frame history texts = frame_text (frame start history) ∷ texts
texts_with start asked.Stopped history texts = texts
texts_with start (asked.Query q) history texts = texts

-- the texts of the frames that were read
abbrev pub texts : Start → History → List (Mark Asked) → List (List ℕ)
texts start seen [] = []
texts start seen (Wrote place ∷ marks) = texts start seen marks
texts start seen (Read question count ∷ marks) = texts_with start question (at_length count seen) (texts start seen marks)

-- ---- what is written of them

-- the newest text; where there is none it is empty, which no frame's text is
abbrev pub newest : List (List ℕ) → List ℕ
newest [] = []
newest (text ∷ texts) = text

-- a text, but nothing where it equals the one before it
abbrev pub unless_same : List ℕ → List ℕ → List ℕ
unless_same text before = if bytes_eq text before then [] else text

-- the texts joined, the oldest first, without each that equals the one before it
abbrev pub joined : List (List ℕ) → List ℕ
joined [] = []
joined (text ∷ texts) = joined texts ++ unless_same text (newest texts)

-- The texts of the frames that were read, joined, without each frame that equals the one before it. The newest mark comes
-- first.
abbrev pub pictures : Start → History → List (Mark Asked) → List ℕ
pictures start seen marks = joined (texts start seen marks)
