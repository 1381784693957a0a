-- What painting makes of a pixel, and where a pixel of a picture stands.
use Rattle.std.proofs.Common.{◌≡◌, ℕ, ◌<◌, ◌≤◌, min, true, false, Bool, ℤ, pos, ◌+ℤ◌, ◌-ℤ◌, List, length, get_or, refl, ap, ◌∙◌, arith, inl, inr, replicate}
use Rattle.std.specs.Prelude.{if◌then◌else◌, ◌&&◌, Some, unsigned_abs}
use Rattle.std.proofs.lemmas.Bool.{and_parts, cases_Bool}
use Rattle.std.proofs.lemmas.Int.{ints}
use Rattle.std.proofs.lemmas.List.{get_or-replicate}
use Rattle.std.proofs.lemmas.List.FromFn.{fill_by_all, get_or-map-range_with_len}
use Rattle.std.proofs.lemmas.Nat.{div-mul-add, mod-mul-add, mul-add-lt}
use Rattle.wm_base.specs.declared.geometry.Rect.{Rect}
use Rattle.wm_base.specs.declared.geometry.Size.{Size}
use Rattle.wm_base.specs.declared.ids.Buffer.{Buffer}
use Rattle.wm_base.specs.declared.ids.Ink.{Ink}
use Rattle.wm_paint.specs.declared.frame.Quad.{Quad}
use Rattle.wm_paint.specs.declared.frame.What.TheVariants.{Window}
use Rattle.wm_paint.specs.CanvasValue.{CanvasValue, IsRepainted, count, drawn, drawn_inks, index, picture, pixel, x_at, y_at}
use Rattle.wm_paint.specs.Picture.{after_fill, after_part, after_quads, black, covers, in_span}
use Rattle.wm_paint.proofs.SpanLemmas.{span_bounds, span_longer, span_min}

-- ---- a window's content

-- a buffer at least as large as its content hides it
whole_bits : (a b p q : Bool) (ink before : Ink) → (a && p) ≡ a → (b && q) ≡ b → (if a && b then ink else before) ≡ (if a && b then (if p && q then ink else black) else before)
whole_bits true true true true ink before e f = refl
whole_bits true true true false ink before e f = cc
whole_bits true true false q ink before e f = cc
whole_bits true false p q ink before e f = refl
whole_bits false b p q ink before e f = refl

pub window_whole : (r : Rect) (b : Buffer) (x y : ℤ) (before : Ink) → r.w ≤ b.size.w → r.h ≤ b.size.h → after_fill r b.ink x y before ≡ after_part r (Window b) x y before
window_whole r b x y before wide high =
    whole_bits (in_span r.x r.w x) (in_span r.y r.h y) (in_span r.x b.size.w x) (in_span r.y b.size.h y) b.ink before (span_longer r.x r.w b.size.w x wide) (span_longer r.y r.h b.size.h y high)

clipped_bits : (a b p q : Bool) (ink before : Ink) → (if (a && p) && (b && q) then ink else (if a && b then black else before)) ≡ (if a && b then (if p && q then ink else black) else before)
clipped_bits true true true true ink before = refl
clipped_bits true true true false ink before = refl
clipped_bits true true false q ink before = refl
clipped_bits true false true q ink before = refl
clipped_bits true false false q ink before = refl
clipped_bits false b p q ink before = refl

-- the part of a content that a buffer of this size covers
abbrev pub clipped : Rect → Size → Rect
clipped r s = record { x = r.x; y = r.y; w = min r.w s.w; h = min r.h s.h }

-- black over the content, and then the buffer as far as the content goes
pub window_clipped : (r : Rect) (b : Buffer) (x y : ℤ) (before : Ink) → after_fill (clipped r b.size) b.ink x y (after_fill r black x y before) ≡ after_part r (Window b) x y before
window_clipped r b x y before =
    rw (span_min r.x r.w b.size.w x, span_min r.y r.h b.size.h y)
    (clipped_bits (in_span r.x r.w x) (in_span r.y r.h y) (in_span r.x b.size.w x) (in_span r.y b.size.h y) b.ink before)

-- ---- an ink over a rectangle

pub same_fill : (a b p q : Bool) (ink before : Ink) → a ≡ p → b ≡ q → (if p && q then ink else before) ≡ (if a && b then ink else before)
same_fill a b p q ink before e f = rw (e, f) refl

-- ---- the pixels of a picture

abbrev pub canvas : Rect → List Ink → CanvasValue
canvas area inks = record { area = area; inks = inks }

there : (area : Rect) (quads : List Quad) (x y : ℤ) → in_span area.x area.w x ≡ true → in_span area.y area.h y ≡ true → get_or (drawn_inks area quads) (index area x y) black ≡ after_quads quads x y black
there area quads x y across down =
    let cx = span_bounds area.x area.w x across in
    let cy = span_bounds area.y area.h y down in
    let column : unsigned_abs (x -ℤ area.x) < area.w = omega (arith, ints, cx.0, cx.1) in
    let row : unsigned_abs (y -ℤ area.y) < area.h = omega (arith, ints, cy.0, cy.1) in
    let inside : index area x y < count area = mul-add-lt (unsigned_abs (y -ℤ area.y)) area.w (unsigned_abs (x -ℤ area.x)) area.h row column in
    let is_x : x_at area (index area x y) ≡ x = ap (λ (n : ℕ). area.x +ℤ pos n) (mod-mul-add (unsigned_abs (y -ℤ area.y)) area.w (unsigned_abs (x -ℤ area.x)) column) ∙ omega (arith, ints, cx.0) in
    let is_y : y_at area (index area x y) ≡ y = ap (λ (n : ℕ). area.y +ℤ pos n) (div-mul-add (unsigned_abs (y -ℤ area.y)) area.w (unsigned_abs (x -ℤ area.x)) column) ∙ omega (arith, ints, cy.0) in
    get_or-map-range_with_len (λ k. after_quads quads (x_at area k) (y_at area k) black) 0 (count area) (index area x y) (index area x y) black inside (omega arith)
    ∙ (ap (λ (u : ℤ). after_quads quads u (y_at area (index area x y)) black) is_x ∙ ap (λ (v : ℤ). after_quads quads x v black) is_y)

pub picture_pixel : (area : Rect) (quads : List Quad) (x y : ℤ) → pixel (drawn area quads) x y ≡ picture area quads x y
picture_pixel area quads x y = elim (cases_Bool (covers area x y)) [
  | inl on ↦
      let parts = and_parts (in_span area.x area.w x) (in_span area.y area.h y) on in
      rw on (ap Some (there area quads x y parts.0 parts.1))
  | inr off ↦ rw off refl
]

-- painting the quads over black makes the picture
pub drawn_from : (area : Rect) (quads : List Quad) (n : ℕ) (filled painted : List Ink) → n ≡ count area → filled ≡ replicate n black → length painted ≡ count area → IsRepainted area (after_quads quads) filled painted → painted ≡ drawn_inks area quads
drawn_from area quads n filled painted all is size each =
    fill_by_all (λ k. after_quads quads (x_at area k) (y_at area k) black) painted (count area) black size
    (λ k lt.
    let before : get_or filled k black ≡ black = ap (λ (l : List Ink). get_or l k black) is ∙ get_or-replicate n k black black (omega (arith, all)) in
    each k lt ∙ ap (λ (i : Ink). after_quads quads (x_at area k) (y_at area k) i) before)

pub canvas_of : (area : Rect) (quads : List Quad) (inks : List Ink) → inks ≡ drawn_inks area quads → canvas area inks ≡ drawn area quads
canvas_of area quads inks e = ap (λ (l : List Ink). canvas area l) e
