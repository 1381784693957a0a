-- Lemmas on spans of one axis, and on the overlap of two rectangles.
use Rattle.std.proofs.Common.{◌≡◌, ℕ, ◌-◌, ◌<◌, min, ℤ, pos, ◌+ℤ◌, ◌-ℤ◌, ◌≤ℤ◌, ◌<ℤ◌, refl, arith}
use Rattle.std.proofs.lemmas.Int.{ints}
use Rattle.std.specs.Int.RustNames.{unsigned_abs}
use Rattle.wm_base.specs.declared.geometry.Rect.{Rect}
use Rattle.wm_base.specs.Rect.{InSpan, IsApart, IsCommon, IsOverlap, empty_at}

-- the second span begins no earlier
pub common-second_later : (a : ℤ) (n : ℕ) (b : ℤ) (m gap : ℕ) (first : ℤ) (count : ℕ) → b ≡ a +ℤ pos gap → first ≡ b → count ≡ min (n - gap) m → 0 < count → IsCommon a n b m first count
common-second_later a n b m gap first count later at is some = record {
  some = some;
  in_both = λ z h. ((omega (arith, ints, h.0, h.1), omega (arith, ints, h.0, h.1)), (omega (arith, ints, h.0, h.1), omega (arith, ints, h.0, h.1)));
  all = λ z h k. (omega (arith, ints, h.0, h.1, k.0, k.1), omega (arith, ints, h.0, h.1, k.0, k.1));
}

-- the first span begins no earlier
pub common-first_later : (a : ℤ) (n : ℕ) (b : ℤ) (m gap : ℕ) (first : ℤ) (count : ℕ) → a ≡ b +ℤ pos gap → first ≡ a → count ≡ min (m - gap) n → 0 < count → IsCommon a n b m first count
common-first_later a n b m gap first count later at is some = record {
  some = some;
  in_both = λ z h. ((omega (arith, ints, h.0, h.1), omega (arith, ints, h.0, h.1)), (omega (arith, ints, h.0, h.1), omega (arith, ints, h.0, h.1)));
  all = λ z h k. (omega (arith, ints, h.0, h.1, k.0, k.1), omega (arith, ints, h.0, h.1, k.0, k.1));
}

-- how far apart two places are
pub gap-up : (a b : ℤ) → a ≤ℤ b → b ≡ a +ℤ pos (unsigned_abs (a -ℤ b))
gap-up a b h = omega (arith, ints)

pub gap-down : (a b : ℤ) → b <ℤ a → a ≡ b +ℤ pos (unsigned_abs (a -ℤ b))
gap-down a b h = omega (arith, ints)

-- a span of some places has its first one
pub has_first : (a : ℤ) (n : ℕ) → 0 < n → InSpan a n a
has_first a n h = (omega (arith, ints), omega (arith, ints))

-- a span of no places has none
pub has_none : (a z : ℤ) → InSpan a 0 z → ⊥
has_none a z h = omega (arith, ints, h.0, h.1)

-- both axes have a common place
pub overlap-both : (a b : Rect) (x y : ℤ) (w h : ℕ) → IsCommon a.x a.w b.x b.w x w → IsCommon a.y a.h b.y b.h y h → IsOverlap a b (record { x = x; y = y; w = w; h = h })
overlap-both a b x y w h across down = record {
  in_both = λ u v p. let i = across.in_both u p.0 in let j = down.in_both v p.1 in ((i.0, j.0), (i.1, j.1));
  all = λ u v p q. (across.all u p.0 q.0, down.all v p.1 q.1);
  none = λ apart.
      let i = across.in_both x (has_first x w across.some) in
      let j = down.in_both y (has_first y h down.some) in
      absurd (apart x y (i.0, j.0) (i.1, j.1));
}

-- no pixel is common
pub overlap-none : (a b : Rect) → ((x y : ℤ) → InSpan a.x a.w x × InSpan a.y a.h y → InSpan b.x b.w x × InSpan b.y b.h y → ⊥) → IsOverlap a b (empty_at a)
overlap-none a b apart = record {
  in_both = λ u v p. absurd (has_none a.x u p.0);
  all = λ u v p q. absurd (apart u v p q);
  none = λ _. refl;
}

pub overlap-across_apart : (a b : Rect) → IsApart a.x a.w b.x b.w → IsOverlap a b (empty_at a)
overlap-across_apart a b apart = overlap-none a b (λ u v p q. apart u p.0 q.0)

pub overlap-down_apart : (a b : Rect) → IsApart a.y a.h b.y b.h → IsOverlap a b (empty_at a)
overlap-down_apart a b apart = overlap-none a b (λ u v p q. apart v p.1 q.1)
