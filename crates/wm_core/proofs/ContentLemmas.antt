-- The contents of an arrangement are windows of its tree.
use Rattle.std.proofs.Common.{◌≡◌, ℕ, ◌+◌, ◌≤◌, eqb, Bool, true, false, cond, ◌&&◌, ◌||◌, List, [], ◌∷◌, ◌++◌, Option, Some, None, is_some, option_and_then, refl, ap, subst, arith}
use Rattle.std.proofs.lemmas.Bool.{and_parts, eq-eqb}
use Rattle.std.specs.Option.{option_or}
use Rattle.wm_base.specs.declared.geometry.Rect.{Rect}
use Rattle.wm_base.specs.declared.ids.ConId.{ConId}
use Rattle.wm_base.specs.declared.plan.Border.{Border}
use Rattle.wm_base.specs.declared.plan.Border.TheVariants as borders
use Rattle.wm_base.specs.declared.plan.Layout.{Layout}
use Rattle.wm_base.specs.declared.plan.Layout.TheVariants.{SplitH, SplitV, Tabbed, Stacked}
use Rattle.wm_forest.specs.declared.part.ConKind.{ConKind}
use Rattle.wm_forest.specs.declared.part.ConKind.TheVariants.{Split, Window, Placeholder}
use Rattle.wm_forest.specs.declared.part.ConPart.{ConPart}
use Rattle.wm_forest.specs.declared.part.NodeKind.{NodeKind}
use Rattle.wm_forest.specs.declared.part.NodeKind.TheVariants.{Root, Output, Space, Con}
use Rattle.wm_forest.specs.declared.part.OutputPart.{OutputPart}
use Rattle.wm_forest.specs.declared.part.Part.{Part}
use Rattle.wm_forest.specs.declared.part.SpacePart.{SpacePart}
use Rattle.wm_forest.specs.Counts.{count, row_length}
use Rattle.wm_forest.specs.Forest.{Forest, end, con}
use Rattle.wm_forest.specs.Look.{first_kids, same, node_in, output_kind, space_kind}
use Rattle.wm_tree.specs.TreeValue.{TreeValue, focused}
use Rattle.wm_arrange.specs.declared.parts.Placed.{Placed}
use Rattle.wm_arrange.specs.declared.parts.PlacedPart.{PlacedPart}
use Rattle.wm_arrange.specs.declared.parts.PlacedPart.TheVariants.{Back, Area, Title, Content}
use Rattle.wm_arrange.specs.declared.parts.PlacedPart.TheVariants as parts
use Rattle.wm_arrange.specs.Areas.{near_area, some_area}
use Rattle.wm_arrange.specs.Arranged.{Standing, standing, has_own_title, slot, con_parts, node_parts, shown_parts, row_parts, kids_parts, rect_of, floats_parts, is_fullscreen, fullscreen_in, tiled_parts, on_space, space_parts, first_space, output_parts, outputs_parts, arranged}
use Rattle.wm_arrange.specs.Borders.{below_title, border_part, bordered, width, within_border}
use Rattle.wm_arrange.specs.Gaps.{ground}
use Rattle.wm_arrange.specs.Parts.{placed}
use Rattle.wm_arrange.specs.Scene.{Seen, ink, seen_in}
use Rattle.wm_arrange.specs.Titles.{kids_titles, line, own_title, tab, title_part, titles, upper}
use Rattle.wm_arrange.specs.TitleText.{title_text}
use Rattle.wm_arrange.specs.Sizes.{content_size, is_content}
use Rattle.wm_forest.specs.Change.{is_window_kind}
use Rattle.wm_opens.specs.Opens.{window_at, windows, windows_at}
use Rattle.wm_forest.proofs.RecencyLemmas.{same_is}

-- the fact holds of a content
abbrev OfContent : PlacedPart → Type 0 → Type 0
OfContent Back P = Unit {0}
OfContent Area P = Unit {0}
OfContent (Title ink text) P = Unit {0}
OfContent (parts.Border ink) P = Unit {0}
OfContent Content P = P

-- the fact holds of each window with a content among the parts
abbrev pub AllContents : (ConId → Type 0) → List Placed → Type 0
AllContents P [] = Unit {0}
AllContents P (p ∷ parts) = OfContent p.part (P p.con) × AllContents P parts

of_weaker : (part : PlacedPart) (P Q : Type 0) → (P → Q) → OfContent part P → OfContent part Q
of_weaker Back P Q f h = tt
of_weaker Area P Q f h = tt
of_weaker (Title ink text) P Q f h = tt
of_weaker (parts.Border ink) P Q f h = tt
of_weaker Content P Q f h = f h

pub all_weaker : (P Q : ConId → Type 0) (parts : List Placed) → ((v : ConId) → P v → Q v) → AllContents P parts → AllContents Q parts
all_weaker P Q [] f h = tt
all_weaker P Q (p ∷ parts) f h = (of_weaker p.part (P p.con) (Q p.con) (f p.con) h.0, all_weaker P Q parts f h.1)

all_append : (P : ConId → Type 0) (xs ys : List Placed) → AllContents P xs → AllContents P ys → AllContents P (xs ++ ys)
all_append P [] ys p q = q
all_append P (x ∷ xs) ys p q = (p.0, all_append P xs ys p.1 q)

placed_step : (P : ConId → Type 0) (b : Bool) (p : Placed) → OfContent p.part (P p.con) → AllContents P (cond b [] (p ∷ []))
placed_step P true p h = tt
placed_step P false p h = (h, tt)

all_placed : (P : ConId → Type 0) (id : ConId) (part : PlacedPart) (rect : Rect) → OfContent part (P id) → AllContents P (placed id part rect)
all_placed P id part rect h = placed_step P (eqb rect.w 0 || eqb rect.h 0) (record { con = id; part = part; rect = rect }) h

-- v is a window of the forest
abbrev Holds : Forest → ConId → Type 0
Holds f v = 1 ≤ count (window_at v) f

rank_step : (b : Bool) (n k l r : ℕ) → b ≡ true → n ≡ 1 → 1 ≤ cond b n 0 + k + l + r
rank_step true n k l r h e = omega (arith, e)
rank_step false n k l r h e = cc

-- a window of a row, and those below it and behind it, are in the row
here : (part : Part) (kids floats rest : Forest) → windows part.kind ≡ 1 → Holds (con part kids floats rest) part.id
here part kids floats rest h =
    rank_step (same part.id part.id) (windows part.kind) (count (window_at part.id) kids) (count (window_at part.id) floats) (count (window_at part.id) rest) (eq-eqb part.id.0 part.id.0 refl) h

in_kids : (part : Part) (kids floats rest : Forest) (v : ConId) → Holds kids v → Holds (con part kids floats rest) v
in_kids part kids floats rest v h = omega (arith, h)

in_floats : (part : Part) (kids floats rest : Forest) (v : ConId) → Holds floats v → Holds (con part kids floats rest) v
in_floats part kids floats rest v h = omega (arith, h)

in_rest : (part : Part) (kids floats rest : Forest) (v : ConId) → Holds rest v → Holds (con part kids floats rest) v
in_rest part kids floats rest v h = omega (arith, h)

-- ---- titles and borders have no content

either_all : (P : ConId → Type 0) (b : Bool) (xs ys : List Placed) → AllContents P xs → AllContents P ys → AllContents P (cond b xs ys)
either_all P true xs ys p q = p
either_all P false xs ys p q = q

module _ (P : ConId → Type 0) (s : Seen) where
  title_all : (part : Part) (kids : Forest) (rect : Rect) → AllContents P (title_part s part kids rect)
  title_all part kids rect = all_placed P part.id (Title (ink s part.id) (title_text part kids)) rect tt

  titles_all : (at : ℕ → Rect) (i : ℕ) (row : Forest) → AllContents P (titles s at i row)
  titles_all at i end = tt
  titles_all at i (con part kids floats rest) = all_append P (title_part s part kids (at i)) (titles s at (i + 1) rest) (title_all part kids (at i)) (titles_all at (i + 1) rest)

  kids_titles_all : (layout : Layout) (area : Rect) (kids : Forest) → AllContents P (kids_titles s layout area kids)
  kids_titles_all SplitH area kids = tt
  kids_titles_all SplitV area kids = tt
  kids_titles_all Tabbed area kids = titles_all (tab (row_length kids) area) 0 kids
  kids_titles_all Stacked area kids = titles_all (line area) 0 kids

  own_all : (own : Bool) (part : Part) (kids : Forest) (border : Border) (area : Rect) → AllContents P (own_title s own part kids border area)
  own_all own part kids (borders.Normal n) area = either_all P own (title_part s part kids (upper 20 area)) [] (title_all part kids (upper 20 area)) tt
  own_all own part kids (borders.Pixel n) area = tt
  own_all own part kids borders.Bare area = tt

  border_all : (part : Part) (border : Border) (rect : Rect) → AllContents P (border_part s part border rect)
  border_all part border rect =
      either_all P (eqb (width border) 0) [] (placed part.id (parts.Border (ink s part.id)) rect) tt (all_placed P part.id (parts.Border (ink s part.id)) rect tt)

  bordered_all : (own : Bool) (part : Part) (kids : Forest) (border : Border) (area rect content : Rect) → P part.id → AllContents P (bordered s own part kids border area rect content)
  bordered_all own part kids border area rect content p =
      let frame = border_part s part border rect in
      let inside = placed part.id Content content in
      either_all P (eqb content.w 0 || eqb content.h 0) [] (own_title s own part kids border area ++ (frame ++ inside)) tt
      (all_append P (own_title s own part kids border area) (frame ++ inside) (own_all own part kids border area) (all_append P frame inside (border_all part border rect) (all_placed P part.id Content content p)))

  con_all : (own : Bool) (part : Part) (c : ConPart) (kind : ConKind) (kids : Forest) (area : Rect) (children : Layout → List Placed) → (is_window_kind kind ≡ true → P part.id) → ((layout : Layout) → AllContents P (children layout))
      → AllContents P (con_parts s own part c kind kids area children)
  con_all own part c (Split layout last) kids area children p below = below layout
  con_all own part c (Window props owner natural) kids area children p below =
      let rect = below_title own c.state.border area in
      bordered_all own part kids c.state.border area rect (within_border c.state.border rect) (p refl)
  con_all own part c (Placeholder props swallows) kids area children p below = own_all own part kids c.state.border area

  node_all : (own : Bool) (part : Part) (kind : NodeKind) (kids : Forest) (area : Rect) (children : Layout → List Placed) → (windows kind ≡ 1 → P part.id) → ((layout : Layout) → AllContents P (children layout))
      → AllContents P (node_parts s own part kind kids area children)
  node_all own part (Root c) kids area children p below = tt
  node_all own part (Output o) kids area children p below = tt
  node_all own part (Space w) kids area children p below = tt
  node_all own part (Con c) kids area children p below = con_all own part c c.kind kids area children (λ e. p (ap (λ b. cond b 1 0) e)) below

  shown_all : (own : Bool) (part : Part) (kids : Forest) (children : Rect → Layout → List Placed) (slot : Option Rect) → (windows part.kind ≡ 1 → P part.id) → ((area : Rect) (layout : Layout) → AllContents P (children area layout))
      → AllContents P (shown_parts s own part kids children slot)
  shown_all own part kids children None p below = tt
  shown_all own part kids children (Some area) p below =
      all_append P (placed part.id Area area) (node_parts s own part part.kind kids area (children area)) (all_placed P part.id Area area tt) (node_all own part part.kind kids area (children area) p (below area))

row_all : (s : Seen) (st : Standing) (i : ℕ) (row : Forest) → AllContents (Holds row) (row_parts s st i row)
row_all s st i end = tt
row_all s st i (con part kids floats rest) =
    let row = con part kids floats rest in
    let below : Rect → Layout → List Placed = λ area layout. kids_titles s layout area kids ++ row_parts s (standing s.recency layout area kids) 0 kids in
    let here_at = slot s.inner st i part.id rest in
    all_append (Holds row) (shown_parts s (has_own_title st) part kids below here_at) (row_parts s st (i + 1) rest)
    (shown_all (Holds row) s (has_own_title st) part kids below here_at (here part kids floats rest)
    (λ area layout. all_append (Holds row) (kids_titles s layout area kids) (row_parts s (standing s.recency layout area kids) 0 kids) (kids_titles_all (Holds row) s layout area kids)
    (all_weaker (Holds kids) (Holds row) (row_parts s (standing s.recency layout area kids) 0 kids) (in_kids part kids floats rest) (row_all s (standing s.recency layout area kids) 0 kids))))
    (all_weaker (Holds rest) (Holds row) (row_parts s st (i + 1) rest) (in_rest part kids floats rest) (row_all s st (i + 1) rest))

kids_all : (s : Seen) (kids : Forest) (area : Rect) (layout : Layout) → AllContents (Holds kids) (kids_parts s kids area layout)
kids_all s kids area layout =
    all_append (Holds kids) (kids_titles s layout area kids) (row_parts s (standing s.recency layout area kids) 0 kids) (kids_titles_all (Holds kids) s layout area kids) (row_all s (standing s.recency layout area kids) 0 kids)

floats_all : (s : Seen) (row : Forest) → AllContents (Holds row) (floats_parts s row)
floats_all s end = tt
floats_all s (con part kids floats rest) =
    let row = con part kids floats rest in
    let below : Rect → Layout → List Placed = λ area layout. [] in
    let here_at = option_and_then near_area (rect_of part.kind) in
    all_append (Holds row) (shown_parts s true part kids below here_at) (floats_parts s rest)
    (shown_all (Holds row) s true part kids below here_at (here part kids floats rest) (λ area layout. tt))
    (all_weaker (Holds rest) (Holds row) (floats_parts s rest) (in_rest part kids floats rest) (floats_all s rest))

-- the fact holds of the one that was found
abbrev OfFound : (ConId → Type 0) → Option ConId → Type 0
OfFound P None = Unit {0}
OfFound P (Some c) = P c

found_weaker : (P Q : ConId → Type 0) (o : Option ConId) → ((v : ConId) → P v → Q v) → OfFound P o → OfFound Q o
found_weaker P Q None f p = tt
found_weaker P Q (Some c) f p = f c p

or_found : (P : ConId → Type 0) (a b : Option ConId) → OfFound P a → OfFound P b → OfFound P (option_or a b)
or_found P None b p q = q
or_found P (Some c) b p q = p

found_by : (P : ConId → Type 0) (b : Bool) (id : ConId) (a c d : Option ConId) → (b ≡ true → P id) → OfFound P a → OfFound P c → OfFound P d → OfFound P (cond b (Some id) (option_or a (option_or c d)))
found_by P true id a c d p q r s = p refl
found_by P false id a c d p q r s = or_found P a (option_or c d) q (or_found P c d r s)

-- a fullscreen window is a window
fullscreen_rank : (kind : NodeKind) → is_fullscreen kind ≡ true → windows kind ≡ 1
fullscreen_rank (Root c) h = cc
fullscreen_rank (Output o) h = cc
fullscreen_rank (Space s) h = cc
fullscreen_rank (Con c) h = ap (λ b. cond b 1 0) (and_parts c.state.fullscreen (is_window_kind c.kind) h).1

fullscreen_all : (row : Forest) → OfFound (Holds row) (fullscreen_in row)
fullscreen_all end = tt
fullscreen_all (con part kids floats rest) =
    let row = con part kids floats rest in
    found_by (Holds row) (is_fullscreen part.kind) part.id (fullscreen_in kids) (fullscreen_in floats) (fullscreen_in rest) (λ e. here part kids floats rest (fullscreen_rank part.kind e))
    (found_weaker (Holds kids) (Holds row) (fullscreen_in kids) (in_kids part kids floats rest) (fullscreen_all kids))
    (found_weaker (Holds floats) (Holds row) (fullscreen_in floats) (in_floats part kids floats rest) (fullscreen_all floats))
    (found_weaker (Holds rest) (Holds row) (fullscreen_in rest) (in_rest part kids floats rest) (fullscreen_all rest))

tiled_all : (P : ConId → Type 0) (s : Seen) (id : ConId) (space : SpacePart) (kids : Forest) (area : Option Rect) → ((v : ConId) → Holds kids v → P v) → AllContents P (tiled_parts s id space kids area)
tiled_all P s id space kids None f = tt
tiled_all P s id space kids (Some area) f =
    all_append P (placed id Area area) (kids_parts s kids area space.layout) (all_placed P id Area area tt) (all_weaker (Holds kids) P (kids_parts s kids area space.layout) f (kids_all s kids area space.layout))

on_space_all : (P : ConId → Type 0) (s : Seen) (output : OutputPart) (id : ConId) (space : SpacePart) (kids floats : Forest) (found : Option ConId)
    → OfFound P found → ((v : ConId) → Holds kids v → P v) → ((v : ConId) → Holds floats v → P v) → AllContents P (on_space s output id space kids floats found)
on_space_all P s output id space kids floats None p f g =
    let area = some_area (ground output.rect output.reserved space.outer space.inner) in
    all_append P (tiled_parts s id space kids area) (floats_parts s floats) (tiled_all P s id space kids area f) (all_weaker (Holds floats) P (floats_parts s floats) g (floats_all s floats))
on_space_all P s output id space kids floats (Some c) p f g = all_placed P c Content output.rect p

space_all : (P : ConId → Type 0) (t : TreeValue) (c : ConId) (output : OutputPart) (id : ConId) (space : Option SpacePart) (kids floats : Forest)
    → ((v : ConId) → Holds kids v → P v) → ((v : ConId) → Holds floats v → P v) → AllContents P (space_parts t c output id space kids floats)
space_all P t c output id None kids floats f g = tt
space_all P t c output id (Some space) kids floats f g =
    let found = option_or (fullscreen_in kids) (fullscreen_in floats) in
    let s = seen_in t c space.inner in
    all_append P (placed id Back output.rect) (on_space s output id space kids floats found) (all_placed P id Back output.rect tt)
    (on_space_all P s output id space kids floats found
    (or_found P (fullscreen_in kids) (fullscreen_in floats) (found_weaker (Holds kids) P (fullscreen_in kids) f (fullscreen_all kids)) (found_weaker (Holds floats) P (fullscreen_in floats) g (fullscreen_all floats)))
    f g)

first_all : (t : TreeValue) (c : ConId) (output : OutputPart) (row : Forest) → AllContents (Holds row) (first_space t c output row)
first_all t c output end = tt
first_all t c output (con part kids floats rest) =
    space_all (Holds (con part kids floats rest)) t c output part.id (space_kind part.kind) kids floats (in_kids part kids floats rest) (in_floats part kids floats rest)

node_step : (b : Bool) (x y z : Forest) (v : ConId) → (Holds x v → Holds z v) → (Holds y v → Holds z v) → Holds (cond b x y) v → Holds z v
node_step true x y z v f g h = f h
node_step false x y z v f g h = g h

in_row : (id : ConId) (f : Forest) (v : ConId) → Holds (node_in id f) v → Holds f v
in_row id end v h = h
in_row id (con part kids floats rest) v h =
    node_step (same part.id id) (con part kids floats rest) (node_in id rest) (con part kids floats rest) v (λ x. x) (λ x. in_rest part kids floats rest v (in_row id rest v x)) h

output_all : (t : TreeValue) (c : ConId) (output : Option OutputPart) (spaces : Forest) → AllContents (Holds spaces) (output_parts t c output spaces)
output_all t c None spaces = tt
output_all t c (Some o) spaces =
    all_weaker (Holds (node_in o.shown spaces)) (Holds spaces) (first_space t c o (node_in o.shown spaces)) (in_row o.shown spaces) (first_all t c o (node_in o.shown spaces))

outputs_all : (t : TreeValue) (c : ConId) (f : Forest) → AllContents (Holds f) (outputs_parts t c f)
outputs_all t c end = tt
outputs_all t c (con part kids floats rest) =
    let row = con part kids floats rest in
    let first = output_parts t c (output_kind part.kind) kids in
    all_append (Holds row) first (outputs_parts t c rest)
    (all_weaker (Holds kids) (Holds row) first (in_kids part kids floats rest) (output_all t c (output_kind part.kind) kids))
    (all_weaker (Holds rest) (Holds row) (outputs_parts t c rest) (in_rest part kids floats rest) (outputs_all t c rest))

below_first : (v : ConId) (f : Forest) → Holds (first_kids f) v → Holds f v
below_first v end h = h
below_first v (con part kids floats rest) h = in_kids part kids floats rest v h

-- each content is of a window
pub contents_held : (t : TreeValue) → AllContents (λ v. 1 ≤ windows_at v t) (arranged t)
contents_held t = all_weaker (Holds (first_kids t.nodes)) (λ v. 1 ≤ windows_at v t) (arranged t) (λ v h. below_first v t.nodes h) (outputs_all t (focused t) (first_kids t.nodes))

of_content : (part : PlacedPart) (P : Type 0) → is_content part ≡ true → OfContent part P → P
of_content Back P e h = cc
of_content Area P e h = cc
of_content (Title ink text) P e h = cc
of_content (parts.Border ink) P e h = cc
of_content Content P e h = h

-- what holds of all contents holds of a window that has a size among them
pub content_held : (P : ConId → Type 0) (v : ConId) (parts : List Placed) → AllContents P parts → is_some (content_size v parts) ≡ true → P v
content_held P v [] h e = cc
content_held P v (p ∷ parts) h e = step (same p.con v && is_content p.part) refl (content_held P v parts h.1) e
  where
    step : (b : Bool) → (same p.con v && is_content p.part) ≡ b → (is_some (content_size v parts) ≡ true → P v) → is_some (cond b (Some (record { w = p.rect.w; h = p.rect.h })) (content_size v parts)) ≡ true → P v
    step true both others e =
        let tests = and_parts (same p.con v) (is_content p.part) both in
        subst P (same_is p.con v tests.0) (of_content p.part (P p.con) tests.1 h.0)
    step false both others e = others e
