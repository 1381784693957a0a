-- Laws of painting: the last quad over a pixel gives its ink.
use Rattle.std.specs.Prelude.{◌≡◌, ◌↔◌, true, false, ℤ, List, ◌∷◌, ◌++◌, All}
use Rattle.wm_base.specs.declared.geometry.Rect.{Rect}
use Rattle.wm_base.specs.declared.ids.Ink.{Ink}
use Rattle.wm_base.specs.Rect.{HasPixel}
use Rattle.wm_paint.specs.declared.frame.Quad.{Quad}
use Rattle.wm_paint.specs.CanvasValue.{CanvasValue, IsWhole, pixel}
use Rattle.wm_paint.specs.Picture.{after_quads, covers, ink_of}

-- a rectangle covers exactly the pixels that it has
abbrev pub CoversItsPixels : Type 0
CoversItsPixels = (r : Rect) (x y : ℤ) → covers r x y ≡ true ↔ HasPixel r x y

-- none of the quads covers the pixel
abbrev pub IsClear : List Quad → ℤ → ℤ → Type 0
IsClear quads x y = All (λ q. covers q.rect x y ≡ false) quads

-- a pixel that no quad covers stays as it was
abbrev pub ClearStays : Type 0
ClearStays = (quads : List Quad) (x y : ℤ) (before : Ink) → IsClear quads x y → after_quads quads x y before ≡ before

-- a quad that covers a pixel gives its ink if no later quad covers it, whatever came before
abbrev pub LastGives : Type 0
LastGives = (below : List Quad) (q : Quad) (above : List Quad) (x y : ℤ) (before : Ink) →
    covers q.rect x y ≡ true → IsClear above x y → after_quads (below ++ q ∷ above) x y before ≡ ink_of q.what q.rect x y

-- two canvases of one area with the same pixels are the same
abbrev pub PixelsTell : Type 0
PixelsTell = (a b : CanvasValue) → IsWhole a → IsWhole b → a.area ≡ b.area → ((x y : ℤ) → pixel a x y ≡ pixel b x y) → a ≡ b
