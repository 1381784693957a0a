-- The text of a frame.
use Rattle.std.specs.Prelude.{ℕ, List, [], ◌∷◌, ◌++◌, codes}
use Rattle.std.specs.Fmt.{decimal, signed_decimal}
use Rattle.wm_defs.specs.Hex.{six_hex}
use Rattle.wm_base.specs.declared.geometry.Rect.{Rect}
use Rattle.wm_base.specs.declared.geometry.Size.{Size}
use Rattle.wm_base.specs.declared.ids.Buffer.{Buffer}
use Rattle.wm_base.specs.declared.ids.Ink.{Ink}
use Rattle.wm_paint.specs.declared.frame.Frame.{Frame}
use Rattle.wm_paint.specs.declared.frame.Quad.{Quad}
use Rattle.wm_paint.specs.declared.frame.What.{What}
use Rattle.wm_paint.specs.declared.frame.What.TheVariants.{Back, Title, Border, Window}
use Rattle.wm_paint.specs.Escapes.{escaped}

abbrev pub new_line : List ℕ
new_line = 10 ∷ []

-- a width and a height, as 640x480
abbrev pub size_text : Size → List ℕ
size_text s = decimal s.w ++ (codes "x" ++ decimal s.h)

-- a place and a size, as 0,0 640x480
abbrev pub rect_text : Rect → List ℕ
rect_text r = signed_decimal r.x ++ (codes "," ++ (signed_decimal r.y ++ (codes " " ++ size_text (record { w = r.w; h = r.h }))))

abbrev pub what_word : What → List ℕ
what_word Back = codes "back "
what_word (Title ink text) = codes "title "
what_word (Border ink) = codes "border "
what_word (Window buffer) = codes "window "

-- a blank and the six digits of an ink
abbrev pub ink_text : Ink → List ℕ
ink_text ink = 32 ∷ six_hex ink.0

-- the ink, and the text in quotation marks
abbrev pub title_text : Ink → List ℕ → List ℕ
title_text ink text = ink_text ink ++ (codes " \"" ++ (escaped text ++ codes "\""))

-- the ink and the size of a buffer
abbrev pub buffer_text : Buffer → List ℕ
buffer_text b = ink_text b.ink ++ (codes " " ++ size_text b.size)

-- what stands behind a quad's rectangle
abbrev pub what_text : What → List ℕ
what_text Back = []
what_text (Title ink text) = title_text ink text
what_text (Border ink) = ink_text ink
what_text (Window buffer) = buffer_text buffer

-- a line for a quad
abbrev pub quad_text : Quad → List ℕ
quad_text q = what_word q.what ++ (decimal q.con.0 ++ (codes " " ++ (rect_text q.rect ++ (what_text q.what ++ new_line))))

abbrev pub quads_text : List Quad → List ℕ
quads_text [] = []
quads_text (q ∷ qs) = quad_text q ++ quads_text qs

-- the number and the prefix, the quads, and an end
abbrev pub frame_text : Frame → List ℕ
frame_text f =
    (codes "frame " ++ (decimal f.number ++ (codes " " ++ (decimal f.prefix ++ new_line)))) ++ (quads_text f.quads ++ (codes "end" ++ new_line))
