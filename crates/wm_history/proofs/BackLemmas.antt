-- An arrangement has the ground of each output's workspace first, and no other part is a ground.
use Rattle.std.proofs.Common.{◌≡◌, ℕ, ◌+◌, eqb, Bool, true, false, cond, ◌||◌, List, [], ◌∷◌, ◌++◌, append_assoc, Option, Some, None, option_and_then, refl, ap, ◌∙◌, arith}
use Rattle.std.specs.Option.{option_or}
use Rattle.wm_base.specs.declared.geometry.Rect.{Rect}
use Rattle.wm_base.specs.declared.ids.ConId.{ConId}
use Rattle.wm_base.specs.declared.plan.Border.{Border}
use Rattle.wm_base.specs.declared.plan.Border.TheVariants as borders
use Rattle.wm_base.specs.declared.plan.Layout.{Layout}
use Rattle.wm_base.specs.declared.plan.Layout.TheVariants.{SplitH, SplitV, Tabbed, Stacked}
use Rattle.wm_forest.specs.declared.part.ConKind.{ConKind}
use Rattle.wm_forest.specs.declared.part.ConKind.TheVariants.{Split, Window, Placeholder}
use Rattle.wm_forest.specs.declared.part.ConPart.{ConPart}
use Rattle.wm_forest.specs.declared.part.NodeKind.{NodeKind}
use Rattle.wm_forest.specs.declared.part.NodeKind.TheVariants.{Root, Output, Space, Con}
use Rattle.wm_forest.specs.declared.part.OutputPart.{OutputPart}
use Rattle.wm_forest.specs.declared.part.Part.{Part}
use Rattle.wm_forest.specs.declared.part.SpacePart.{SpacePart}
use Rattle.wm_forest.specs.Counts.{row_length}
use Rattle.wm_forest.specs.Forest.{Forest, end, con}
use Rattle.wm_forest.specs.Look.{first_kids, in_row, same, node_in, output_kind, space_kind}
use Rattle.wm_forest.specs.SoundRow.{IsNode, IsOutputRect, IsSoundRow, outputs, roots, spaces}
use Rattle.wm_tree.specs.Sound.{IsSound}
use Rattle.wm_forest.specs.Spot.{room_below}
use Rattle.wm_tree.specs.TreeValue.{TreeValue, focused}
use Rattle.wm_arrange.specs.declared.parts.Placed.{Placed}
use Rattle.wm_arrange.specs.declared.parts.PlacedPart.{PlacedPart}
use Rattle.wm_arrange.specs.declared.parts.PlacedPart.TheVariants.{Back, Area, Title, Content}
use Rattle.wm_arrange.specs.declared.parts.PlacedPart.TheVariants as parts
use Rattle.wm_arrange.specs.Areas.{near_area, some_area}
use Rattle.wm_arrange.specs.Arranged.{Standing, standing, has_own_title, slot, con_parts, node_parts, shown_parts, row_parts, rect_of, floats_parts, fullscreen_in, tiled_parts, on_space, space_parts, first_space, output_parts, outputs_parts, arranged}
use Rattle.wm_arrange.specs.Borders.{below_title, border_part, bordered, width, within_border}
use Rattle.wm_arrange.specs.Gaps.{ground}
use Rattle.wm_arrange.specs.Parts.{placed}
use Rattle.wm_arrange.specs.Scene.{Seen, ink, seen_in}
use Rattle.wm_arrange.specs.Titles.{kids_titles, line, own_title, tab, title_part, titles, upper}
use Rattle.wm_arrange.specs.TitleText.{title_text}
use Rattle.wm_paint.specs.CanvasValue.{IsArea}
use Rattle.wm_history.specs.Screen.{first_back, first_rect, if_back, nowhere, rect_in, rect_or}

-- ---- parts that are no grounds

-- none of the parts is a ground
abbrev Skips : List Placed → Type 0
Skips xs = (ys : List Placed) → first_back (xs ++ ys) ≡ first_back ys

skips_none : Skips []
skips_none ys = refl

skips_append : (xs zs : List Placed) → Skips xs → Skips zs → Skips (xs ++ zs)
skips_append xs zs p q ys = ap first_back (append_assoc xs zs ys) ∙ (p (zs ++ ys) ∙ q ys)

skips_either : (b : Bool) (xs zs : List Placed) → Skips xs → Skips zs → Skips (cond b xs zs)
skips_either true xs zs p q = p
skips_either false xs zs p q = q

skips_one : (p : Placed) → ((a b : Rect) → if_back p.part a b ≡ b) → Skips (p ∷ [])
skips_one p h ys = h p.rect (first_back ys)

skips_placed : (id : ConId) (part : PlacedPart) (rect : Rect) → ((a b : Rect) → if_back part a b ≡ b) → Skips (placed id part rect)
skips_placed id part rect h =
    let p : Placed = record { con = id; part = part; rect = rect } in
    skips_either (eqb rect.w 0 || eqb rect.h 0) [] (p ∷ []) skips_none (skips_one p h)

module _ (s : Seen) where
  title_skips : (part : Part) (kids : Forest) (rect : Rect) → Skips (title_part s part kids rect)
  title_skips part kids rect = skips_placed part.id (Title (ink s part.id) (title_text part kids)) rect (λ a b. refl)

  titles_skip : (at : ℕ → Rect) (i : ℕ) (row : Forest) → Skips (titles s at i row)
  titles_skip at i end = skips_none
  titles_skip at i (con part kids floats rest) =
      skips_append (title_part s part kids (at i)) (titles s at (i + 1) rest) (title_skips part kids (at i)) (titles_skip at (i + 1) rest)

  kids_titles_skip : (layout : Layout) (area : Rect) (kids : Forest) → Skips (kids_titles s layout area kids)
  kids_titles_skip SplitH area kids = skips_none
  kids_titles_skip SplitV area kids = skips_none
  kids_titles_skip Tabbed area kids = titles_skip (tab (row_length kids) area) 0 kids
  kids_titles_skip Stacked area kids = titles_skip (line area) 0 kids

  own_skips : (own : Bool) (part : Part) (kids : Forest) (border : Border) (area : Rect) → Skips (own_title s own part kids border area)
  own_skips own part kids (borders.Normal n) area = skips_either own (title_part s part kids (upper 20 area)) [] (title_skips part kids (upper 20 area)) skips_none
  own_skips own part kids (borders.Pixel n) area = skips_none
  own_skips own part kids borders.Bare area = skips_none

  border_skips : (part : Part) (border : Border) (rect : Rect) → Skips (border_part s part border rect)
  border_skips part border rect =
      skips_either (eqb (width border) 0) [] (placed part.id (parts.Border (ink s part.id)) rect) skips_none (skips_placed part.id (parts.Border (ink s part.id)) rect (λ a b. refl))

  bordered_skips : (own : Bool) (part : Part) (kids : Forest) (border : Border) (area rect content : Rect) → Skips (bordered s own part kids border area rect content)
  bordered_skips own part kids border area rect content =
      let frame = border_part s part border rect in
      let inside = placed part.id Content content in
      skips_either (eqb content.w 0 || eqb content.h 0) [] (own_title s own part kids border area ++ (frame ++ inside)) skips_none
      (skips_append (own_title s own part kids border area) (frame ++ inside) (own_skips own part kids border area)
      (skips_append frame inside (border_skips part border rect) (skips_placed part.id Content content (λ a b. refl))))

  con_skips : (own : Bool) (part : Part) (c : ConPart) (kind : ConKind) (kids : Forest) (area : Rect) (children : Layout → List Placed) → ((layout : Layout) → Skips (children layout)) → Skips (con_parts s own part c kind kids area children)
  con_skips own part c (Split layout last) kids area children below = below layout
  con_skips own part c (Window props owner natural) kids area children below =
      let rect = below_title own c.state.border area in
      bordered_skips own part kids c.state.border area rect (within_border c.state.border rect)
  con_skips own part c (Placeholder props swallows) kids area children below = own_skips own part kids c.state.border area

  node_skips : (own : Bool) (part : Part) (kind : NodeKind) (kids : Forest) (area : Rect) (children : Layout → List Placed) → ((layout : Layout) → Skips (children layout)) → Skips (node_parts s own part kind kids area children)
  node_skips own part (Root c) kids area children below = skips_none
  node_skips own part (Output o) kids area children below = skips_none
  node_skips own part (Space w) kids area children below = skips_none
  node_skips own part (Con c) kids area children below = con_skips own part c c.kind kids area children below

  shown_skips : (own : Bool) (part : Part) (kids : Forest) (children : Rect → Layout → List Placed) (here : Option Rect) → ((area : Rect) (layout : Layout) → Skips (children area layout)) → Skips (shown_parts s own part kids children here)
  shown_skips own part kids children None below = skips_none
  shown_skips own part kids children (Some area) below =
      skips_append (placed part.id Area area) (node_parts s own part part.kind kids area (children area)) (skips_placed part.id Area area (λ a b. refl)) (node_skips own part part.kind kids area (children area) (below area))

row_skips : (s : Seen) (st : Standing) (i : ℕ) (row : Forest) → Skips (row_parts s st i row)
row_skips s st i end = skips_none
row_skips s st i (con part kids floats rest) =
    let below : Rect → Layout → List Placed = λ area layout. kids_titles s layout area kids ++ row_parts s (standing s.recency layout area kids) 0 kids in
    let here = slot s.inner st i part.id rest in
    skips_append (shown_parts s (has_own_title st) part kids below here) (row_parts s st (i + 1) rest)
    (shown_skips s (has_own_title st) part kids below here
    (λ area layout. skips_append (kids_titles s layout area kids) (row_parts s (standing s.recency layout area kids) 0 kids) (kids_titles_skip s layout area kids) (row_skips s (standing s.recency layout area kids) 0 kids)))
    (row_skips s st (i + 1) rest)

floats_skip : (s : Seen) (row : Forest) → Skips (floats_parts s row)
floats_skip s end = skips_none
floats_skip s (con part kids floats rest) =
    let below : Rect → Layout → List Placed = λ area layout. [] in
    let here = option_and_then near_area (rect_of part.kind) in
    skips_append (shown_parts s true part kids below here) (floats_parts s rest) (shown_skips s true part kids below here (λ area layout. skips_none)) (floats_skip s rest)

tiled_skips : (s : Seen) (id : ConId) (space : SpacePart) (kids : Forest) (area : Option Rect) → Skips (tiled_parts s id space kids area)
tiled_skips s id space kids None = skips_none
tiled_skips s id space kids (Some area) =
    let titles_of = kids_titles s space.layout area kids in
    let row = row_parts s (standing s.recency space.layout area kids) 0 kids in
    skips_append (placed id Area area) (titles_of ++ row) (skips_placed id Area area (λ a b. refl))
    (skips_append titles_of row (kids_titles_skip s space.layout area kids) (row_skips s (standing s.recency space.layout area kids) 0 kids))

-- what stands on a workspace is no ground
on_space_skips : (s : Seen) (output : OutputPart) (id : ConId) (space : SpacePart) (kids floats : Forest) (found : Option ConId) → Skips (on_space s output id space kids floats found)
on_space_skips s output id space kids floats None =
    let area = some_area (ground output.rect output.reserved space.outer space.inner) in
    skips_append (tiled_parts s id space kids area) (floats_parts s floats) (tiled_skips s id space kids area) (floats_skip s floats)
on_space_skips s output id space kids floats (Some c) = skips_placed c Content output.rect (λ a b. refl)

-- ---- grounds

-- a ground is found first, unless it has no pixels
back_step : (b : Bool) (id : ConId) (rect : Rect) (ys : List Placed) → first_back (cond b [] (record { con = id; part = Back; rect = rect } ∷ []) ++ ys) ≡ cond b (first_back ys) rect
back_step true id rect ys = refl
back_step false id rect ys = refl

-- the row's outputs or workspaces are sound
module _ (t : TreeValue) (c : ConId) where
  -- the shown workspace of an output has its ground at the output's rectangle
  space_first : (o : OutputPart) (id : ConId) (kind : NodeKind) (room : ℕ) (marks : List (List ℕ)) (kids floats : Forest) (ys : List Placed) → IsNode spaces true room id kind marks kids
      → first_back (space_parts t c o id (space_kind kind) kids floats ++ ys) ≡ rect_or (Some o) (first_back ys)
  space_first o id (Root r) room marks kids floats ys h = absurd h
  space_first o id (Output p) room marks kids floats ys h = absurd h
  space_first o id (Space w) room marks kids floats ys h =
      let found = option_or (fullscreen_in kids) (fullscreen_in floats) in
      let s = seen_in t c w.inner in
      let on = on_space s o id w kids floats found in
      let b = eqb o.rect.w 0 || eqb o.rect.h 0 in
      ap first_back (append_assoc (placed id Back o.rect) on ys) ∙ (back_step b id o.rect (on ++ ys) ∙ ap (λ z. cond b z o.rect) (on_space_skips s o id w kids floats found ys))
  space_first o id (Con p) room marks kids floats ys h = absurd h

  row_first : (o : OutputPart) (room : ℕ) (row : Forest) (ys : List Placed) → IsSoundRow spaces true room row → in_row o.shown row ≡ true → first_back (first_space t c o (node_in o.shown row) ++ ys) ≡ rect_or (Some o) (first_back ys)
  row_first o room end ys h there = cc
  row_first o room (con part kids floats rest) ys h there = by_test (same part.id o.shown) there (row_first o room rest ys h.4)
    where
      by_test : (b : Bool) → (b || in_row o.shown rest) ≡ true → (in_row o.shown rest ≡ true → first_back (first_space t c o (node_in o.shown rest) ++ ys) ≡ rect_or (Some o) (first_back ys))
          → first_back (first_space t c o (cond b (con part kids floats rest) (node_in o.shown rest)) ++ ys) ≡ rect_or (Some o) (first_back ys)
      by_test true k later = space_first o part.id part.kind room part.marks kids floats ys h.0
      by_test false k later = later k

  output_first : (id : ConId) (kind : NodeKind) (tiled : Bool) (room : ℕ) (marks : List (List ℕ)) (kids : Forest) (ys : List Placed) → IsNode outputs tiled room id kind marks kids → IsSoundRow spaces true (room_below room kind) kids
      → first_back (output_parts t c (output_kind kind) kids ++ ys) ≡ rect_or (output_kind kind) (first_back ys)
  output_first id (Root r) tiled room marks kids ys h below = absurd h
  output_first id (Output o) tiled room marks kids ys h below = row_first o (room_below room (Output o)) kids ys below h.1
  output_first id (Space w) tiled room marks kids ys h below = absurd h
  output_first id (Con p) tiled room marks kids ys h below = absurd h

  outputs_first : (tiled : Bool) (room : ℕ) (row : Forest) → IsSoundRow outputs tiled room row → first_back (outputs_parts t c row) ≡ rect_in row
  outputs_first tiled room end h = refl
  outputs_first tiled room (con part kids floats rest) h =
      output_first part.id part.kind tiled room part.marks kids (outputs_parts t c rest) h.0 h.2 ∙ ap (rect_or (output_kind part.kind)) (outputs_first tiled room rest h.4)

  below_root : (f : Forest) → IsSoundRow roots false 0 f → first_back (outputs_parts t c (first_kids f)) ≡ rect_in (first_kids f)
  below_root end h = refl
  below_root (con part kids floats rest) h = outputs_first true (room_below 0 part.kind) kids h.2

-- the first ground of a sound tree's arrangement is at the first output's rectangle
pub arranged_first : (t : TreeValue) → IsSound t → first_back (arranged t) ≡ first_rect t
arranged_first t s = below_root t (focused t) t.nodes s.shaped

-- ---- limits

nowhere_area : IsArea nowhere
nowhere_area = record { left = omega arith; right = omega arith; top = omega arith; bottom = omega arith; width = omega arith; height = omega arith }

output_area : (r : Rect) → IsOutputRect r → IsArea r
output_area r h = record { left = h.x_low; right = h.x_high; top = h.y_low; bottom = h.y_high; width = h.width; height = h.height }

either_area : (b : Bool) (r other : Rect) → IsArea r → IsArea other → IsArea (cond b other r)
either_area true r other p q = q
either_area false r other p q = p

output_within : (id : ConId) (kind : NodeKind) (tiled : Bool) (room : ℕ) (marks : List (List ℕ)) (kids : Forest) (other : Rect) → IsNode outputs tiled room id kind marks kids → IsArea other → IsArea (rect_or (output_kind kind) other)
output_within id (Root r) tiled room marks kids other h k = absurd h
output_within id (Output o) tiled room marks kids other h k = either_area (eqb o.rect.w 0 || eqb o.rect.h 0) o.rect other (output_area o.rect h.0) k
output_within id (Space w) tiled room marks kids other h k = absurd h
output_within id (Con p) tiled room marks kids other h k = absurd h

outputs_within : (tiled : Bool) (room : ℕ) (row : Forest) → IsSoundRow outputs tiled room row → IsArea (rect_in row)
outputs_within tiled room end h = nowhere_area
outputs_within tiled room (con part kids floats rest) h = output_within part.id part.kind tiled room part.marks kids (rect_in rest) h.0 (outputs_within tiled room rest h.4)

root_within : (f : Forest) → IsSoundRow roots false 0 f → IsArea (rect_in (first_kids f))
root_within end h = nowhere_area
root_within (con part kids floats rest) h = outputs_within true (room_below 0 part.kind) kids h.2

-- the first output of a sound tree is within the limits of an area
pub first_within : (t : TreeValue) → IsSound t → IsArea (first_rect t)
first_within t s = root_within t.nodes s.shaped
