-- The test of two arrangements tells whether they are one.
use Rattle.std.proofs.Common.{◌≡◌, ℕ, ℤ, Bool, List, [], eqb, refl, ap, ◌∙◌}
use Rattle.std.proofs.lemmas.Bool.Decides.{Decides-and, Decides-int_eq, Decides-eqb}
use Rattle.std.proofs.lemmas.Slice.Eq.{bytes_eq-Decides, slice_eq-Decides}
use Rattle.std.specs.Bool.{Decides}
use Rattle.std.specs.Ordering.{int_eq}
use Rattle.wm_base.specs.declared.geometry.Rect.{Rect}
use Rattle.wm_base.specs.declared.ids.Ink.{Ink}
use Rattle.wm_arrange.specs.declared.parts.Placed.{Placed}
use Rattle.wm_arrange.specs.declared.parts.PlacedPart.{PlacedPart}
use Rattle.wm_arrange.specs.declared.parts.PlacedPart.TheVariants.{Back, Area, Title, Border, Content}
use Rattle.wm_arrange.specs.Same.{same_part, same_rect, same_placed, same_parts}

-- a test decides a fact that another fact is the same as
through : {P Q : Type 0} (b : Bool) → (P → Q) → (Q → P) → Decides b P → Decides b Q
through b to from d = (λ h. to (d.0 h), λ q. d.1 (from q))

abbrev ink_of : ℕ → Ink
ink_of n = record { 0 = n }

abbrev number_of : PlacedPart → ℕ
number_of Back = 0
number_of Area = 0
number_of (Title ink text) = ink.0
number_of (Border ink) = ink.0
number_of Content = 0

abbrev text_of : PlacedPart → List ℕ
text_of (Title ink text) = text
text_of other = []

part-decides : (a b : PlacedPart) → Decides (same_part a b) (a ≡ b)
part-decides Back Back = (λ h. refl, λ h. refl)
part-decides Back Area = (λ h. cc, λ h. cc)
part-decides Back (Title ink text) = (λ h. cc, λ h. cc)
part-decides Back (Border ink) = (λ h. cc, λ h. cc)
part-decides Back Content = (λ h. cc, λ h. cc)
part-decides Area Back = (λ h. cc, λ h. cc)
part-decides Area Area = (λ h. refl, λ h. refl)
part-decides Area (Title ink text) = (λ h. cc, λ h. cc)
part-decides Area (Border ink) = (λ h. cc, λ h. cc)
part-decides Area Content = (λ h. cc, λ h. cc)
part-decides (Title ink text) Back = (λ h. cc, λ h. cc)
part-decides (Title ink text) Area = (λ h. cc, λ h. cc)
part-decides (Title ink text) (Title other words) =
    through (same_part (Title ink text) (Title other words))
    (λ e. ap (λ n. Title (ink_of n) text) e.0 ∙ ap (λ t. Title other t) e.1)
    (λ e. (ap number_of e, ap text_of e))
    (Decides-and (eqb ink.0 other.0) _ (Decides-eqb ink.0 other.0) (bytes_eq-Decides text words))
part-decides (Title ink text) (Border other) = (λ h. cc, λ h. cc)
part-decides (Title ink text) Content = (λ h. cc, λ h. cc)
part-decides (Border ink) Back = (λ h. cc, λ h. cc)
part-decides (Border ink) Area = (λ h. cc, λ h. cc)
part-decides (Border ink) (Title other words) = (λ h. cc, λ h. cc)
part-decides (Border ink) (Border other) =
    through (same_part (Border ink) (Border other)) (λ e. ap (λ n. Border (ink_of n)) e) (λ e. ap number_of e) (Decides-eqb ink.0 other.0)
part-decides (Border ink) Content = (λ h. cc, λ h. cc)
part-decides Content Back = (λ h. cc, λ h. cc)
part-decides Content Area = (λ h. cc, λ h. cc)
part-decides Content (Title ink text) = (λ h. cc, λ h. cc)
part-decides Content (Border ink) = (λ h. cc, λ h. cc)
part-decides Content Content = (λ h. refl, λ h. refl)

abbrev rect_of : ℤ → ℤ → ℕ → ℕ → Rect
rect_of x y w h = record { x = x; y = y; w = w; h = h }

rect-decides : (a b : Rect) → Decides (same_rect a b) (a ≡ b)
rect-decides a b =
    through (same_rect a b)
    (λ e. ap (λ x. rect_of x a.y a.w a.h) e.0 ∙ (ap (λ y. rect_of b.x y a.w a.h) e.1.0 ∙ (ap (λ w. rect_of b.x b.y w a.h) e.1.1.0 ∙ ap (λ h. rect_of b.x b.y b.w h) e.1.1.1)))
    (λ e. (ap (λ (r : Rect). r.x) e, (ap (λ (r : Rect). r.y) e, (ap (λ (r : Rect). r.w) e, ap (λ (r : Rect). r.h) e))))
    (Decides-and (int_eq a.x b.x) _ (Decides-int_eq a.x b.x) (Decides-and (int_eq a.y b.y) _ (Decides-int_eq a.y b.y) (Decides-and (eqb a.w b.w) _ (Decides-eqb a.w b.w) (Decides-eqb a.h b.h))))

abbrev placed_of : ℕ → PlacedPart → Rect → Placed
placed_of id part rect = record { con = record { 0 = id }; part = part; rect = rect }

placed-decides : (a b : Placed) → Decides (same_placed a b) (a ≡ b)
placed-decides a b =
    through (same_placed a b)
    (λ e. ap (λ id. placed_of id a.part a.rect) e.0 ∙ (ap (λ part. placed_of b.con.0 part a.rect) e.1.0 ∙ ap (λ rect. placed_of b.con.0 b.part rect) e.1.1))
    (λ e. (ap (λ (p : Placed). p.con.0) e, (ap (λ (p : Placed). p.part) e, ap (λ (p : Placed). p.rect) e)))
    (Decides-and (eqb a.con.0 b.con.0) _ (Decides-eqb a.con.0 b.con.0) (Decides-and (same_part a.part b.part) _ (part-decides a.part b.part) (rect-decides a.rect b.rect)))

-- the test of two lists of parts tells whether they are one
pub parts-decide : (xs ys : List Placed) → Decides (same_parts xs ys) (xs ≡ ys)
parts-decide xs ys = slice_eq-Decides placed-decides xs ys (same_parts xs ys) refl
