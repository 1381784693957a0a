-- The areas of children told by sums of shares are those told by the shares.
use Rattle.std.proofs.Common.{◌≡◌, Bool, false, cond, ℕ, suc, ◌+◌, Option, Some, sum, take, drop, refl, ap, ap₂, sym, ◌∙◌, arith}
use Rattle.std.specs.Option.{option_or}
use Rattle.wm_base.specs.declared.geometry.Axis.{Axis}
use Rattle.wm_base.specs.declared.geometry.Rect.{Rect}
use Rattle.wm_base.specs.declared.ids.ConId.{ConId}
use Rattle.wm_base.specs.declared.plan.Layout.{Layout}
use Rattle.wm_base.specs.Rect.{inset}
use Rattle.wm_forest.specs.declared.part.Part.{Part}
use Rattle.wm_forest.specs.Counts.{share_of, share_sum}
use Rattle.wm_forest.specs.Forest.{Forest, end, con}
use Rattle.wm_forest.specs.Look.{first_kids, rest_of, same}
use Rattle.wm_arrange.specs.declared.lots.Lots.{Lots}
use Rattle.wm_arrange.specs.declared.lots.Lots.TheVariants.{Beside, Below}
use Rattle.wm_arrange.specs.AreaOf.{area_among, as_area, child_area, cut_area, layout_of}
use Rattle.wm_arrange.specs.Areas.{shares}
use Rattle.wm_arrange.specs.Gaps.{gaps, is_first, is_last}
use Rattle.wm_arrange.specs.Lots.{area_from, lot_between}
use Rattle.wm_arrange.proofs.RowLemmas.{Turn, child, next_item}

-- the area of c, from those of the first node, of what is below it and of what is behind it
abbrev one_of : ℕ → ConId → Part → Forest → Rect → Option Rect → Option Rect
one_of inner c part below lot behind = cond (same part.id c) (Some lot) (option_or (area_among inner c (layout_of part.kind) lot below 0 below) behind)

module _ (inner : ℕ) (c : ConId) (layout : Layout) (area : Rect) (kids : Forest) where
  pub beside_area : (axis : Axis) → ((i : ℕ) (rest : Forest) → child_area inner layout area kids i rest ≡ cut_area inner axis area kids i rest) → (i : ℕ) (row : Forest) → shares row ≡ drop i (shares kids)
      → area_from inner c (Beside axis area (share_sum kids)) (is_first i) (sum (take i (shares kids))) row ≡ area_among inner c layout area kids i row
  beside_area axis cuts i end left = refl
  beside_area axis cuts i (con part below floats rest) left =
      let item = next_item (shares kids) i (share_of part.kind) (shares rest) (sym left) in
      let next : i + 1 ≡ suc i = omega arith in
      let lots = Beside axis area (share_sum kids) in
      let lot : lot_between inner lots (is_first i) (is_last rest) (sum (take i (shares kids))) (sum (take i (shares kids)) + share_of part.kind) ≡ child_area inner layout area kids i rest
      = ap (λ r. as_area (inset r (gaps axis inner (is_first i) (is_last rest)))) (sym (child axis area kids i _ item.1)) ∙ sym (cuts i rest) in
      let behind : area_from inner c lots false (sum (take i (shares kids)) + share_of part.kind) rest ≡ area_among inner c layout area kids (i + 1) rest
      = ap (λ b. area_from inner c lots false b rest) (sym item.1) ∙ (beside_area axis cuts (suc i) rest (sym item.0) ∙ ap (λ n. area_among inner c layout area kids n rest) (sym next)) in
      ap₂ (one_of inner c part below) lot behind

  pub below_area : (lot : Rect) → ((i : ℕ) (rest : Forest) → child_area inner layout area kids i rest ≡ lot) → (first : Bool) (before i : ℕ) (row : Forest)
      → area_from inner c (Below lot) first before row ≡ area_among inner c layout area kids i row
  below_area lot alike first before i end = refl
  below_area lot alike first before i (con part below floats rest) =
      ap₂ (one_of inner c part below) (sym (alike i rest)) (below_area lot alike false (before + share_of part.kind) (i + 1) rest)

-- what one turn finds, told by what it looked at
pub turn_area : (inner : ℕ) (c : ConId) (lots : Lots) (first : Bool) (before : ℕ) (row : Forest) (part : Part) → Turn row part
    → (last : Bool) (after : ℕ) (kids rest : Forest) (lot : Rect) → last ≡ is_last rest → after ≡ before + share_of part.kind → kids ≡ first_kids row → rest ≡ rest_of row
    → lot ≡ lot_between inner lots first last before after → area_from inner c lots first before row ≡ one_of inner c part kids lot (area_from inner c lots false after rest)
turn_area inner c lots first before row part t last after kids rest lot e1 e2 e3 e4 e5 = rw (e5, e1, e2, e3, e4) (ap (area_from inner c lots first before) t.whole)
