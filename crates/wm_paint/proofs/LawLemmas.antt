-- Laws of painting, over plain values.
use Rattle.std.proofs.Common.{◌≡◌, ℕ, zero, suc, ◌*◌, ◌/◌, ◌%◌, ◌+◌, ◌<◌, ◌≤◌, false, [], ◌∷◌, length, get_or, refl, sym, ap, ◌∙◌, arith}
use Rattle.std.proofs.Math.Nat.{zero-mul}
use Rattle.std.specs.Prelude.{Some}
use Rattle.std.proofs.Math.Nat.{mod-add-div}
use Rattle.std.proofs.lemmas.Bool.{and_from, and_parts}
use Rattle.std.proofs.lemmas.Int.{ints}
use Rattle.std.proofs.lemmas.List.{ext_get_or}
use Rattle.std.proofs.lemmas.List.Elements.{All-head, All-tail}
use Rattle.std.proofs.lemmas.Nat.{div_below, mod_below}
use Rattle.wm_base.specs.declared.geometry.Rect.{Rect}
use Rattle.wm_base.specs.declared.ids.Ink.{Ink}
use Rattle.wm_paint.specs.CanvasValue.{CanvasValue, count, pixel, x_at, y_at}
use Rattle.wm_paint.specs.Laws.{ClearStays, CoversItsPixels, LastGives, PixelsTell}
use Rattle.wm_paint.specs.Picture.{after_quad, after_quads, black, covers, in_span, ink_of}
use Rattle.wm_paint.proofs.PictureLemmas.{canvas}
use Rattle.wm_paint.proofs.PixelLemmas.{on}
use Rattle.wm_paint.proofs.SpanLemmas.{span_bounds, span_has}

some_same : {p q : Ink} → Some p ≡ Some q → p ≡ q
some_same e = cc

pub covers_pixels : CoversItsPixels
covers_pixels r x y = (
  λ on.
      let parts = and_parts (in_span r.x r.w x) (in_span r.y r.h y) on in
      (span_bounds r.x r.w x parts.0, span_bounds r.y r.h y parts.1),
  λ has. and_from (in_span r.x r.w x) (in_span r.y r.h y) (span_has r.x r.w x has.0.0 has.0.1) (span_has r.y r.h y has.1.0 has.1.1),
)

pub clear_stays : ClearStays
clear_stays [] x y before clear = refl
clear_stays (q ∷ qs) x y before clear =
    let off : covers q.rect x y ≡ false = All-head (λ p. covers p.rect x y ≡ false) q qs clear in
    rw off (clear_stays qs x y before (All-tail (λ p. covers p.rect x y ≡ false) q qs clear))

pub last_gives : LastGives
last_gives [] q above x y before hit clear =
    let first : after_quad q x y before ≡ ink_of q.what q.rect x y = rw hit refl in
    ap (after_quads above x y) first ∙ clear_stays above x y (ink_of q.what q.rect x y) clear
last_gives (p ∷ below) q above x y before hit clear = last_gives below q above x y (after_quad p x y before) hit clear

-- the k-th pixel stands in its column and its row
pixel_of : (c : CanvasValue) (k : ℕ) → 1 ≤ c.area.w → k < count c.area → pixel c (x_at c.area k) (y_at c.area k) ≡ Some (get_or c.inks k black)
pixel_of c k some lt =
    let column : k % c.area.w < c.area.w = mod_below k c.area.w (omega arith) in
    let row : k / c.area.w < c.area.h = div_below k c.area.w c.area.h (omega arith) (omega arith) in
    let across = span_has c.area.x c.area.w (x_at c.area k) (omega (arith, ints)) (omega (arith, ints, column)) in
    let down = span_has c.area.y c.area.h (y_at c.area k) (omega (arith, ints)) (omega (arith, ints, row)) in
    let parts : k % c.area.w + c.area.w * (k / c.area.w) ≡ k = mod-add-div k c.area.w in
    let at : k / c.area.w * c.area.w + k % c.area.w ≡ k = omega (arith, parts) in
    on c (x_at c.area k) (y_at c.area k) (k % c.area.w) (k / c.area.w) across down (omega (arith, ints)) (omega (arith, ints))
    ∙ ap (λ (i : ℕ). Some (get_or c.inks i black)) at

-- what has a pixel is one pixel wide at least
some_wide : (w h k : ℕ) → k < w * h → 1 ≤ w
some_wide zero h k lt = omega (arith, zero-mul h)
some_wide (suc w) h k lt = omega arith

pub pixels_tell : PixelsTell
pixels_tell a b whole_a whole_b e same =
    let size : length a.inks ≡ length b.inks = whole_a.1 ∙ (ap count e ∙ sym whole_b.1) in
    let inks : a.inks ≡ b.inks = ext_get_or black a.inks b.inks size (λ k lt.
    let one : pixel a (x_at a.area k) (y_at a.area k) ≡ Some (get_or a.inks k black) = pixel_of a k (some_wide a.area.w a.area.h k (omega (arith, whole_a.1))) (omega (arith, whole_a.1)) in
    let two : pixel b (x_at b.area k) (y_at b.area k) ≡ Some (get_or b.inks k black) = pixel_of b k (some_wide b.area.w b.area.h k (omega (arith, whole_b.1, size))) (omega (arith, whole_b.1, size)) in
    let moved : pixel b (x_at a.area k) (y_at a.area k) ≡ Some (get_or b.inks k black) = rw e two in
    some_same (sym one ∙ (same (x_at a.area k) (y_at a.area k) ∙ moved))) in
    ap (λ (area : Rect). canvas area a.inks) e ∙ ap (canvas b.area) inks
