-- Parts of a window that are no areas, and the area of a container among parts.
use Rattle.std.proofs.Common.{◌≡◌, ℕ, ◌+◌, eqb, Bool, true, false, cond, ◌&&◌, ◌||◌, List, [], ◌∷◌, ◌++◌, Option, None, Some, refl, ap, ◌∙◌}
use Rattle.std.specs.Option.{option_or}
use Rattle.wm_base.specs.declared.geometry.Rect.{Rect}
use Rattle.wm_base.specs.declared.ids.ConId.{ConId}
use Rattle.wm_base.specs.declared.plan.Border.{Border}
use Rattle.wm_base.specs.declared.plan.Border.TheVariants as borders
use Rattle.wm_base.specs.declared.plan.Layout.{Layout}
use Rattle.wm_base.specs.declared.plan.Layout.TheVariants.{SplitH, SplitV, Tabbed, Stacked}
use Rattle.wm_forest.specs.declared.part.Part.{Part}
use Rattle.wm_forest.specs.Counts.{row_length}
use Rattle.wm_forest.specs.Forest.{Forest, end, con}
use Rattle.wm_forest.specs.Look.{same}
use Rattle.wm_arrange.specs.declared.parts.Placed.{Placed}
use Rattle.wm_arrange.specs.declared.parts.PlacedPart.{PlacedPart}
use Rattle.wm_arrange.specs.declared.parts.PlacedPart.TheVariants as parts
use Rattle.wm_arrange.specs.Borders.{below_title, border_part, bordered, width, window_parts, within_border}
use Rattle.wm_arrange.specs.Cover.{is_area}
use Rattle.wm_arrange.specs.CoverTree.{area_in}
use Rattle.wm_arrange.specs.Parts.{placed}
use Rattle.wm_arrange.specs.Scene.{Seen, ink}
use Rattle.wm_arrange.specs.Titles.{kids_titles, line, own_title, tab, title_part, titles, upper}
use Rattle.wm_arrange.specs.TitleText.{title_text}

-- ---- parts without areas

abbrev pub Bare : List Placed → Type 0
Bare [] = Unit {0}
Bare (p ∷ ps) = (is_area p.part ≡ false) × Bare ps

pub bare_append : (ps qs : List Placed) → Bare ps → Bare qs → Bare (ps ++ qs)
bare_append [] qs p q = q
bare_append (r ∷ ps) qs p q = (p.0, bare_append ps qs p.1 q)

bare_either : (b : Bool) (ps qs : List Placed) → Bare ps → Bare qs → Bare (cond b ps qs)
bare_either true ps qs p q = p
bare_either false ps qs p q = q

pub bare_placed : (id : ConId) (part : PlacedPart) (rect : Rect) → is_area part ≡ false → Bare (placed id part rect)
bare_placed id part rect e =
    let p : Placed = record { con = id; part = part; rect = rect } in
    bare_either (eqb rect.w 0 || eqb rect.h 0) [] (p ∷ []) tt (e, tt)

bare_title : (s : Seen) (part : Part) (kids : Forest) (rect : Rect) → Bare (title_part s part kids rect)
bare_title s part kids rect = bare_placed part.id (parts.Title (ink s part.id) (title_text part kids)) rect refl

pub bare_own : (s : Seen) (own : Bool) (part : Part) (kids : Forest) (border : Border) (area : Rect) → Bare (own_title s own part kids border area)
bare_own s own part kids (borders.Normal n) area = bare_either own (title_part s part kids (upper 20 area)) [] (bare_title s part kids (upper 20 area)) tt
bare_own s own part kids (borders.Pixel n) area = tt
bare_own s own part kids borders.Bare area = tt

bare_bordered : (s : Seen) (own : Bool) (part : Part) (kids : Forest) (border : Border) (area rect content : Rect) → Bare (bordered s own part kids border area rect content)
bare_bordered s own part kids border area rect content =
    let title = own_title s own part kids border area in
    let frame = border_part s part border rect in
    let inside = placed part.id parts.Content content in
    let edge = parts.Border (ink s part.id) in
    bare_either (eqb content.w 0 || eqb content.h 0) [] (title ++ (frame ++ inside)) tt
    (bare_append title (frame ++ inside) (bare_own s own part kids border area)
    (bare_append frame inside (bare_either (eqb (width border) 0) [] (placed part.id edge rect) tt (bare_placed part.id edge rect refl)) (bare_placed part.id parts.Content content refl)))

-- what a window has in its area
pub bare_window : (s : Seen) (own : Bool) (part : Part) (kids : Forest) (border : Border) (area : Rect) → Bare (window_parts s own part kids border area)
bare_window s own part kids border area =
    let rect = below_title own border area in
    bare_bordered s own part kids border area rect (within_border border rect)

bare_row : (s : Seen) (at : ℕ → Rect) (i : ℕ) (row : Forest) → Bare (titles s at i row)
bare_row s at i end = tt
bare_row s at i (con part kids floats rest) = bare_append (title_part s part kids (at i)) (titles s at (i + 1) rest) (bare_title s part kids (at i)) (bare_row s at (i + 1) rest)

-- the titles above the children of a container
pub bare_titles : (s : Seen) (layout : Layout) (area : Rect) (kids : Forest) → Bare (kids_titles s layout area kids)
bare_titles s SplitH area kids = tt
bare_titles s SplitV area kids = tt
bare_titles s Tabbed area kids = bare_row s (tab (row_length kids) area) 0 kids
bare_titles s Stacked area kids = bare_row s (line area) 0 kids

-- ---- the area of a container among parts

or_cond : (b : Bool) (r : Rect) (m n : Option Rect) → cond b (Some r) (option_or m n) ≡ option_or (cond b (Some r) m) n
or_cond true r m n = refl
or_cond false r m n = refl

pub area_in_append : (c : ConId) (ps qs : List Placed) → area_in c (ps ++ qs) ≡ option_or (area_in c ps) (area_in c qs)
area_in_append c [] qs = refl
area_in_append c (p ∷ ps) qs =
    let here : Bool = is_area p.part && same p.con c in
    ap (λ m. cond here (Some p.rect) m) (area_in_append c ps qs) ∙ or_cond here p.rect (area_in c ps) (area_in c qs)

or_none : (m : Option Rect) → option_or m None ≡ m
or_none None = refl
or_none (Some r) = refl

pub area_in_first : (c : ConId) (ps qs : List Placed) → area_in c qs ≡ None → area_in c (ps ++ qs) ≡ area_in c ps
area_in_first c ps qs none = area_in_append c ps qs ∙ (ap (option_or (area_in c ps)) none ∙ or_none (area_in c ps))

pub area_in_second : (c : ConId) (ps qs : List Placed) → area_in c ps ≡ None → area_in c (ps ++ qs) ≡ area_in c qs
area_in_second c ps qs none = area_in_append c ps qs ∙ ap (λ m. option_or m (area_in c qs)) none

-- an area that is placed, unless it has no pixels
pub area_in_placed : (c id : ConId) (r : Rect) → same id c ≡ true → area_in c (placed id parts.Area r) ≡ cond (eqb r.w 0 || eqb r.h 0) None (Some r)
area_in_placed c id r e = by_empty (eqb r.w 0 || eqb r.h 0)
  where
    by_empty : (b : Bool) → area_in c (cond b [] (record { con = id; part = parts.Area; rect = r } ∷ [])) ≡ cond b None (Some r)
    by_empty true = refl
    by_empty false = rw e refl

pub area_in_other : (c id : ConId) (part : PlacedPart) (r : Rect) → same id c ≡ false → area_in c (placed id part r) ≡ None
area_in_other c id part r e = by_empty (eqb r.w 0 || eqb r.h 0)
  where
    by_area : (b : Bool) → (b && same id c) ≡ false
    by_area true = e
    by_area false = refl

    by_empty : (b : Bool) → area_in c (cond b [] (record { con = id; part = part; rect = r } ∷ [])) ≡ None
    by_empty true = refl
    by_empty false = rw (by_area (is_area part)) refl
