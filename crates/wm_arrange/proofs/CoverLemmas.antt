-- The areas of windows and placeholders cover the area of the container around them once.
use Rattle.std.proofs.Common.{◌≡◌, ℕ, ◌+◌, ◌*◌, ◌/◌, ◌≤◌, eqb, Bool, true, false, cond, ◌&&◌, ◌||◌, ℤ, List, [], ◌∷◌, ◌++◌, None, Some, refl, ap, ap₂, sym, ◌∙◌, arith}
use Rattle.std.proofs.Math.Nat.{zero-div, mul-div_cancel, mul-le-mul_left}
use Rattle.std.proofs.lemmas.Bool.{eqb-true}
use Rattle.wm_defs.proofs.CutLemmas.{div_rises}
use Rattle.wm_base.specs.declared.geometry.Axis.{Axis}
use Rattle.wm_base.specs.declared.geometry.Axis.TheVariants.{Across, Down}
use Rattle.wm_base.specs.declared.geometry.Rect.{Rect}
use Rattle.wm_base.specs.declared.ids.ConId.{ConId}
use Rattle.wm_base.specs.declared.plan.Border.{Border}
use Rattle.wm_base.specs.declared.plan.Border.TheVariants as borders
use Rattle.wm_base.specs.declared.plan.Layout.{Layout}
use Rattle.wm_base.specs.declared.plan.Layout.TheVariants.{SplitH, SplitV, Tabbed, Stacked}
use Rattle.wm_base.specs.Rect.{inset}
use Rattle.wm_forest.specs.declared.part.ConKind.{ConKind}
use Rattle.wm_forest.specs.declared.part.ConKind.TheVariants.{Split, Window, Placeholder}
use Rattle.wm_forest.specs.declared.part.ConPart.{ConPart}
use Rattle.wm_forest.specs.declared.part.NodeKind.{NodeKind}
use Rattle.wm_forest.specs.declared.part.NodeKind.TheVariants.{Root, Output, Space, Con}
use Rattle.wm_forest.specs.declared.part.Part.{Part}
use Rattle.wm_forest.specs.Change.{is_end}
use Rattle.wm_forest.specs.Counts.{share_of, share_sum}
use Rattle.wm_forest.specs.Forest.{Forest, end, con}
use Rattle.wm_forest.specs.SoundRow.{IsNode, IsSoundRow, containers}
use Rattle.wm_forest.specs.Spot.{room_below}
use Rattle.wm_arrange.specs.declared.children.Slots.TheVariants.{Beside}
use Rattle.wm_arrange.specs.declared.parts.Placed.{Placed}
use Rattle.wm_arrange.specs.declared.parts.PlacedPart.{PlacedPart}
use Rattle.wm_arrange.specs.declared.parts.PlacedPart.TheVariants as parts
use Rattle.wm_arrange.specs.Areas.{side_of, some_area}
use Rattle.wm_arrange.specs.Arranged.{con_parts, kids_parts, node_parts, shown_parts}
use Rattle.wm_arrange.specs.Borders.{below_title, border_part, bordered, width, within_border}
use Rattle.wm_arrange.specs.Cover.{AreSplits, CoversOnce, SplitsCon, SplitsNode, covered, has_pixel, is_area, is_leaf, is_leaf_con, is_split, leaf_in, one_if}
use Rattle.wm_arrange.specs.Gaps.{gaps, is_last}
use Rattle.wm_arrange.specs.Parts.{placed}
use Rattle.wm_arrange.specs.Scene.{Seen, ink}
use Rattle.wm_arrange.specs.Slots.{parts_from}
use Rattle.wm_arrange.specs.Titles.{own_title, title_part, upper}
use Rattle.wm_arrange.specs.TitleText.{title_text}
use Rattle.wm_arrange.proofs.RowLemmas.{beside_is}
use Rattle.wm_arrange.proofs.LeafLemmas.{Tells, tells_leaves}
use Rattle.wm_arrange.proofs.StripLemmas.{and_false, no_gaps, no_place, no_strip, strip, two_strips, whole_strip}

-- ---- counting

module _ (leaf : ConId → Bool) (x y : ℤ) where
  pub covered_append : (ps qs : List Placed) → covered leaf x y (ps ++ qs) ≡ covered leaf x y ps + covered leaf x y qs
  covered_append [] qs = omega arith
  covered_append (p ∷ ps) qs = omega (arith, covered_append ps qs)

  either_none : (b : Bool) (ps qs : List Placed) → covered leaf x y ps ≡ 0 → covered leaf x y qs ≡ 0 → covered leaf x y (cond b ps qs) ≡ 0
  either_none true ps qs p q = p
  either_none false ps qs p q = q

  one_part : (p : Placed) → is_area p.part ≡ false → covered leaf x y (p ∷ []) ≡ 0
  one_part p e = rw e refl

  -- a part that is no area does not count
  no_area : (id : ConId) (part : PlacedPart) (rect : Rect) → is_area part ≡ false → covered leaf x y (placed id part rect) ≡ 0
  no_area id part rect e =
      let p : Placed = record { con = id; part = part; rect = rect } in
      either_none (eqb rect.w 0 || eqb rect.h 0) [] (p ∷ []) refl (one_part p e)

  -- an area without pixels has none
  empty_by : (a b : Bool) (r : Rect) → eqb r.w 0 ≡ a → eqb r.h 0 ≡ b → (a || b) ≡ true → has_pixel x y r ≡ false
  empty_by true b r p q h = let none : r.w ≡ 0 = eqb-true r.w 0 p in rw (none, no_place) refl
  empty_by false true r p q h = let none : r.h ≡ 0 = eqb-true r.h 0 q in rw (none, no_place, and_false) refl
  empty_by false false r p q h = cc

  pub empty_area : (r : Rect) → (eqb r.w 0 || eqb r.h 0) ≡ true → has_pixel x y r ≡ false
  empty_area r h = empty_by (eqb r.w 0) (eqb r.h 0) r refl refl h

  area_by : (b : Bool) (id : ConId) (r : Rect) → (eqb r.w 0 || eqb r.h 0) ≡ b → covered leaf x y (cond b [] (record { con = id; part = parts.Area; rect = r } ∷ [])) ≡ one_if (leaf id && has_pixel x y r)
  area_by true id r e = rw (empty_area r e, and_false) refl
  area_by false id r e = omega arith

  pub an_area : (id : ConId) (r : Rect) → covered leaf x y (placed id parts.Area r) ≡ one_if (leaf id && has_pixel x y r)
  an_area id r = area_by (eqb r.w 0 || eqb r.h 0) id r refl

  own_none : (s : Seen) (own : Bool) (part : Part) (kids : Forest) (border : Border) (area : Rect) → covered leaf x y (own_title s own part kids border area) ≡ 0
  own_none s own part kids (borders.Normal n) area =
      either_none own (title_part s part kids (upper 20 area)) [] (no_area part.id (parts.Title (ink s part.id) (title_text part kids)) (upper 20 area) refl) refl
  own_none s own part kids (borders.Pixel n) area = refl
  own_none s own part kids borders.Bare area = refl

  border_none : (s : Seen) (part : Part) (border : Border) (rect : Rect) → covered leaf x y (border_part s part border rect) ≡ 0
  border_none s part border rect =
      either_none (eqb (width border) 0) [] (placed part.id (parts.Border (ink s part.id)) rect) refl (no_area part.id (parts.Border (ink s part.id)) rect refl)

  bordered_none : (s : Seen) (own : Bool) (part : Part) (kids : Forest) (border : Border) (area rect content : Rect) → covered leaf x y (bordered s own part kids border area rect content) ≡ 0
  bordered_none s own part kids border area rect content =
      let title = own_title s own part kids border area in
      let frame = border_part s part border rect in
      let inside = placed part.id parts.Content content in
      either_none (eqb content.w 0 || eqb content.h 0) [] (title ++ (frame ++ inside)) refl
      (omega (arith, covered_append title (frame ++ inside), covered_append frame inside, own_none s own part kids border area, border_none s part border rect, no_area part.id parts.Content content refl))

  -- ---- what a node has in its area

  module _ (s : Seen) (own : Bool) (part : Part) (kids : Forest) (r : Rect) (children : Layout → List Placed)
      (split_covers : (layout : Layout) → is_split layout ≡ true → is_end kids ≡ false → AreSplits kids → covered leaf x y (children layout) ≡ one_if (has_pixel x y r))
    where
      pub con_covers : (c : ConPart) (kind : ConKind) → leaf part.id ≡ is_leaf_con kind → SplitsCon kind kids (AreSplits kids)
          → one_if (leaf part.id && has_pixel x y r) + covered leaf x y (con_parts s own part c kind kids r children) ≡ one_if (has_pixel x y r)
      con_covers c (Split layout last) tells splits = let inside = split_covers layout splits.0 splits.1 splits.2 in rw tells (omega (arith, inside))
      con_covers c (Window props owner natural) tells splits =
          let border = c.state.border in
          let rect = below_title own border r in
          rw tells (omega (arith, bordered_none s own part kids border r rect (within_border border rect)))
      con_covers c (Placeholder props swallows) tells splits = rw tells (omega (arith, own_none s own part kids c.state.border r))

      pub node_covers : (kind : NodeKind) (room : ℕ) → IsNode containers true room part.id kind part.marks kids → leaf part.id ≡ is_leaf kind → SplitsNode kind kids (AreSplits kids)
          → one_if (leaf part.id && has_pixel x y r) + covered leaf x y (node_parts s own part kind kids r children) ≡ one_if (has_pixel x y r)
      node_covers (Root c) room node tells splits = absurd node
      node_covers (Output o) room node tells splits = absurd node
      node_covers (Space w) room node tells splits = absurd node
      node_covers (Con c) room node tells splits = con_covers c c.kind tells splits

  module _ (s : Seen) (own : Bool) (part : Part) (kids : Forest) (children : Rect → Layout → List Placed) where
    shown_by : (b : Bool) (r : Rect) (room : ℕ) → (eqb r.w 0 || eqb r.h 0) ≡ b → IsNode containers true room part.id part.kind part.marks kids → leaf part.id ≡ is_leaf part.kind → SplitsNode part.kind kids (AreSplits kids)
        → ((layout : Layout) → is_split layout ≡ true → is_end kids ≡ false → AreSplits kids → covered leaf x y (children r layout) ≡ one_if (has_pixel x y r))
        → covered leaf x y (shown_parts s own part kids children (cond b None (Some r))) ≡ one_if (has_pixel x y r)
    shown_by true r room e node tells splits inside = rw (empty_area r e) refl
    shown_by false r room e node tells splits inside =
        let here = an_area part.id r in
        let below = node_covers s own part kids r (children r) inside part.kind room node tells splits in
        omega (arith, covered_append (placed part.id parts.Area r) (node_parts s own part part.kind kids r (children r)), here, below)

    -- a shown child covers its area
    shown_covers : (r : Rect) (room : ℕ) → IsNode containers true room part.id part.kind part.marks kids → leaf part.id ≡ is_leaf part.kind → SplitsNode part.kind kids (AreSplits kids)
        → ((layout : Layout) → is_split layout ≡ true → is_end kids ≡ false → AreSplits kids → covered leaf x y (children r layout) ≡ one_if (has_pixel x y r))
        → covered leaf x y (shown_parts s own part kids children (some_area r)) ≡ one_if (has_pixel x y r)
    shown_covers r room node tells splits inside = shown_by (eqb r.w 0 || eqb r.h 0) r room refl node tells splits inside

-- ---- rows

share_some : (room : ℕ) (id : ConId) (kind : NodeKind) (marks : List (List ℕ)) (kids : Forest) → IsNode containers true room id kind marks kids → 1 ≤ share_of kind
share_some room id (Root c) marks kids node = absurd node
share_some room id (Output o) marks kids node = absurd node
share_some room id (Space w) marks kids node = absurd node
share_some room id (Con c) marks kids node = node.1.0

-- a row with a child has a share
pub shares_some : (room : ℕ) (kids : Forest) → IsSoundRow containers true room kids → is_end kids ≡ false → 1 ≤ share_sum kids
shares_some room end sound some = cc
shares_some room (con part kids floats rest) sound some = omega (arith, share_some room part.id part.kind part.marks kids sound.0)

-- from no shares to all shares is the whole
full_strip : (axis : Axis) (r : Rect) (n : ℕ) → 1 ≤ n → strip axis r (side_of axis r * 0 / n) (side_of axis r * (0 + n) / n) ≡ r
full_strip axis r n some =
    let start : side_of axis r * 0 / n ≡ 0 = ap (λ k. k / n) (omega arith) ∙ zero-div n in
    let all : 0 + n ≡ n = omega arith in
    rw (start, all, mul-div_cancel (side_of axis r) some) (whole_strip axis r)

module _ (leaf : ConId → Bool) (x y : ℤ) (s : Seen) (inner : s.inner ≡ 0) where
  -- the children of a container cover its area, where they cover strip by strip
  pub kids_cover : (kids : Forest) (r : Rect) (layout : Layout) → is_split layout ≡ true → 1 ≤ share_sum kids
      → ((axis : Axis) → covered leaf x y (parts_from s (Beside axis r (share_sum kids)) true 0 kids) ≡ one_if (has_pixel x y (strip axis r (side_of axis r * 0 / share_sum kids) (side_of axis r * (0 + share_sum kids) / share_sum kids))))
      → covered leaf x y (kids_parts s kids r layout) ≡ one_if (has_pixel x y r)
  kids_cover kids r SplitH split some strips =
      ap (covered leaf x y) (sym (beside_is s Across r kids 0 kids refl)) ∙ (strips Across ∙ ap (λ q. one_if (has_pixel x y q)) (full_strip Across r (share_sum kids) some))
  kids_cover kids r SplitV split some strips =
      ap (covered leaf x y) (sym (beside_is s Down r kids 0 kids refl)) ∙ (strips Down ∙ ap (λ q. one_if (has_pixel x y q)) (full_strip Down r (share_sum kids) some))
  kids_cover kids r Tabbed split some strips = cc
  kids_cover kids r Stacked split some strips = cc

  no_inner : (axis : Axis) (r : Rect) (first last : Bool) → inset r (gaps axis s.inner first last) ≡ r
  no_inner axis r first last = ap (λ n. inset r (gaps axis n first last)) inner ∙ no_gaps axis r first last

  -- a row covers the strip from where its first child begins to where its last one ends
  pub row_covers : (axis : Axis) (area : Rect) (total : ℕ) (first : Bool) (before room : ℕ) (row : Forest) → IsSoundRow containers true room row → AreSplits row → Tells leaf row
      → covered leaf x y (parts_from s (Beside axis area total) first before row) ≡ one_if (has_pixel x y (strip axis area (side_of axis area * before / total) (side_of axis area * (before + share_sum row) / total)))
  row_covers axis area total first before room end sound splits tells =
      let same_end : before + 0 ≡ before = omega arith in
      rw (same_end, no_strip axis area (side_of axis area * before / total) x y) refl
  row_covers axis area total first before room (con part kids floats rest) sound splits tells =
      let side = side_of axis area in
      let after = before + share_of part.kind in
      let lot = strip axis area (side * before / total) (side * after / total) in
      let slot = inset lot (gaps axis s.inner first (is_last rest)) in
      let same_slot : slot ≡ lot = no_inner axis lot first (is_last rest) in
      let inside : (layout : Layout) → is_split layout ≡ true → is_end kids ≡ false → AreSplits kids → covered leaf x y (kids_parts s kids slot layout) ≡ one_if (has_pixel x y slot)
      = λ layout split some below. kids_cover kids slot layout split (shares_some (room_below room part.kind) kids sound.2 some)
      (λ axis. row_covers axis slot (share_sum kids) true 0 (room_below room part.kind) kids sound.2 below tells.1) in
      let here = shown_covers leaf x y s true part kids (kids_parts s kids) slot room sound.0 tells.0 splits.0 inside ∙ ap (λ q. one_if (has_pixel x y q)) same_slot in
      let behind = row_covers axis area total false after room rest sound.4 splits.1 tells.2 in
      let split = covered_append leaf x y (shown_parts s true part kids (kids_parts s kids) (some_area slot)) (parts_from s (Beside axis area total) false after rest) in
      let ends : before + share_sum (con part kids floats rest) ≡ after + share_sum rest = omega arith in
      let joined = two_strips axis area (side * before / total) (side * after / total) (side * (after + share_sum rest) / total) x y
      (div_rises _ _ total (mul-le-mul_left side (omega arith))) (div_rises _ _ total (mul-le-mul_left side (omega arith))) in
      split ∙ (ap₂ (λ m n. m + n) here behind ∙ (joined ∙ ap (λ n. one_if (has_pixel x y (strip axis area (side * before / total) (side * n / total)))) (sym ends)))

-- the areas of the windows and placeholders below a container cover its area once
pub covers_once : CoversOnce
covers_once s kids layout area x y inner split some splits (room, sound) once =
    kids_cover (leaf_in kids) x y s inner kids area layout split (shares_some room kids sound some)
    (λ axis. row_covers (leaf_in kids) x y s inner axis area (share_sum kids) true 0 room kids sound splits (tells_leaves kids once))
