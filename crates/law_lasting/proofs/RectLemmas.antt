-- Outer rectangles within the limits: those of windows that float, move and get other sizes.
use Rattle.std.proofs.Common.{◌≡◌, ℕ, ◌+◌, ◌≤◌, ℤ, pos, negsuc, ◌≤ℤ◌, Bool, true, false, cond, ◌&&◌, not, Option, None, Some, refl, arith}
use Rattle.std.proofs.lemmas.Bool.Decides.{nat_tests}
use Rattle.std.proofs.lemmas.Int.{ints}
use Rattle.std.specs.Prelude.{◌+ℤ◌, ◌-ℤ◌, int_le, int_lt, nat_abs, nat_le, option_and_then}
use Rattle.wm_base.specs.declared.errors.ErrorText.TheVariants as texts
use Rattle.wm_base.specs.declared.geometry.Rect.{Rect}
use Rattle.wm_base.specs.declared.geometry.Size.{Size}
use Rattle.wm_base.specs.declared.ids.ConId.{ConId}
use Rattle.wm_base.specs.declared.plan.Border.{Border}
use Rattle.law_lasting.proofs.EachLemmas.{each_only}
use Rattle.law_lasting.specs.Each.{Each}
use Rattle.law_lasting.specs.Rects.{FitsKind, FitsRect, RectsFit}
use Rattle.wm_floats.specs.Floating.{floating_by, floating_rect, new_rect, rect_or}
use Rattle.wm_floats.specs.Places.{held_middle, is_in_range, middle_of, outer_size}
use Rattle.wm_floats.specs.Placing.{place_at_refusal}
use Rattle.wm_floats.specs.Scratchpad.{middle_on}
use Rattle.wm_floats.specs.Windows.{natural_by}
use Rattle.wm_language.specs.declared.arguments.Side.{Side}
use Rattle.wm_opens.proofs.SureCommands.{unless}
use Rattle.wm_shared.specs.Outputs.{output_of}
use Rattle.wm_shared.specs.Rects.{held, or_nowhere, output_part_of, rect_of, state_rect}
use Rattle.wm_shared.specs.Subject.{is_hidden, is_space}
use Rattle.wm_sizes.specs.Floating.{as_rect, fits, grow_refusal, grown, has_place, has_sides, is_side, is_size, resize_set_refusal}
use Rattle.wm_spaces.specs.Sending.{shifted}
use Rattle.wm_forest.specs.declared.part.ConPart.{ConPart}
use Rattle.wm_forest.specs.declared.part.NodeKind.{NodeKind}
use Rattle.wm_forest.specs.declared.part.NodeKind.TheVariants.{Root, Output, Space, Con}
use Rattle.wm_forest.specs.declared.part.OutputPart.{OutputPart}
use Rattle.wm_forest.specs.declared.part.Part.{Part}
use Rattle.wm_forest.specs.Forest.{Forest, end, con}
use Rattle.wm_forest.specs.Look.{con_kind, first_part, kind_by, kind_of, only, output_kind}
use Rattle.wm_forest.specs.SoundRow.{IsNode, IsOutputRect, IsSoundRow, Level, below, containers, outputs, roots, spaces}
use Rattle.wm_forest.specs.Spot.{room_below}
use Rattle.wm_tree.specs.Along.{nowhere}
use Rattle.wm_tree.specs.Sound.{IsSound}
use Rattle.wm_tree.specs.TreeValue.{TreeValue, is_tiled_con}

-- ---- numbers

is_le : (a b : ℤ) → int_le a b ≡ true → a ≤ℤ b
is_le a b h = grind (arith, ints)

not_lt : (a b : ℤ) → int_lt a b ≡ false → b ≤ℤ a
not_lt a b h = grind (arith, ints)

both : (a b : Bool) → (a && b) ≡ true → (a ≡ true) × (b ≡ true)
both true b h = (refl, h)
both false b h = cc

not_not : (b : Bool) → not b ≡ false → b ≡ true
not_not true h = refl
not_not false h = cc

-- from -131,072 to 131,071
abbrev InRange : ℤ → Type 0
InRange z = (negsuc 131071 ≤ℤ z) × (z ≤ℤ pos 131071)

in_range : (z : ℤ) → is_in_range z ≡ true → InRange z
in_range z h = let b = both (int_le (negsuc 131071) z) (int_le z (pos 131071)) h in (is_le (negsuc 131071) z b.0, is_le z (pos 131071) b.1)

held_in : (z : ℤ) → InRange (held z)
held_in z = step (int_lt z (negsuc 131071)) refl (int_lt (pos 131071) z) refl
  where
    step : (a : Bool) → int_lt z (negsuc 131071) ≡ a → (b : Bool) → int_lt (pos 131071) z ≡ b → InRange (cond a (negsuc 131071) (cond b (pos 131071) z))
    step true e b f = (is_le (negsuc 131071) (negsuc 131071) refl, is_le (negsuc 131071) (pos 131071) refl)
    step false e true f = (is_le (negsuc 131071) (pos 131071) refl, is_le (pos 131071) (pos 131071) refl)
    step false e false f = (not_lt z (negsuc 131071) e, not_lt (pos 131071) z f)

rect_in : (x y : ℤ) (w h : ℕ) → InRange x → InRange y → w ≤ 16384 → h ≤ 16384 → IsOutputRect (record { x = x; y = y; w = w; h = h })
rect_in x y w h a b c d = record { x_low = a.0; x_high = a.1; y_low = b.0; y_high = b.1; width = c; height = d }

zero_in : InRange (pos 0)
zero_in = (is_le (negsuc 131071) (pos 0) refl, is_le (pos 0) (pos 131071) refl)

nowhere_fits : IsOutputRect nowhere
nowhere_fits = rect_in (pos 0) (pos 0) 0 0 zero_in zero_in (omega arith) (omega arith)

-- ---- rectangles of nodes

found_fits : (f : Forest) → Each (λ part. FitsKind part.kind) f → (p : ConPart) → kind_by con_kind (first_part f) ≡ Some p → FitsRect p.state.rect
found_fits end e p h = cc
found_fits (con part kids floats rest) e p h = by part.kind e.0 h
  where
    by : (kind : NodeKind) → FitsKind kind → con_kind kind ≡ Some p → FitsRect p.state.rect
    by (Root c) k g = cc
    by (Output o) k g = cc
    by (Space s) k g = cc
    by (Con c) k g = let one : c ≡ p = cc in rw (← one) k

con_fits : (c : ConId) (t : TreeValue) → RectsFit t → (p : ConPart) → kind_of con_kind c t.nodes ≡ Some p → FitsRect p.state.rect
con_fits c t r p h = found_fits (only c t.nodes) (each_only (λ part. FitsKind part.kind) c t.nodes r) p h

-- the rectangle of a container, or none
pub rect_fits : (c : ConId) (t : TreeValue) → RectsFit t → IsOutputRect (rect_of c t)
rect_fits c t r = by (kind_of con_kind c t.nodes) (con_fits c t r)
  where
    state : (o : Option Rect) → FitsRect o → IsOutputRect (or_nowhere o)
    state None h = nowhere_fits
    state (Some q) h = h

    by : (o : Option ConPart) → ((p : ConPart) → o ≡ Some p → FitsRect p.state.rect) → IsOutputRect (state_rect o)
    by None h = nowhere_fits
    by (Some p) h = state p.state.rect (h p refl)

-- the rectangle of an output
abbrev OutputFits : NodeKind → Type 0
OutputFits (Root c) = Unit {0}
OutputFits (Output o) = IsOutputRect o.rect
OutputFits (Space s) = Unit {0}
OutputFits (Con c) = Unit {0}

node_fits : (l : Level) (tiled : Bool) (room : ℕ) (id : ConId) (kind : NodeKind) (part : Part) (kids : Forest) → IsNode l tiled room id kind part.marks kids → OutputFits kind
node_fits l tiled room id (Root c) part kids n = tt
node_fits outputs tiled room id (Output o) part kids n = n.0
node_fits roots tiled room id (Output o) part kids n = absurd n
node_fits spaces tiled room id (Output o) part kids n = absurd n
node_fits containers tiled room id (Output o) part kids n = absurd n
node_fits l tiled room id (Space s) part kids n = tt
node_fits l tiled room id (Con c) part kids n = tt

outputs_fit : (l : Level) (tiled : Bool) (room : ℕ) (f : Forest) → IsSoundRow l tiled room f → Each (λ part. OutputFits part.kind) f
outputs_fit l tiled room end p = tt
outputs_fit l tiled room (con part kids floats rest) p =
    (node_fits l tiled room part.id part.kind part kids p.0, outputs_fit (below l) true (room_below room part.kind) kids p.2, outputs_fit containers false (room_below room part.kind) floats p.3, outputs_fit l tiled room rest p.4)

output_by : (f : Forest) → Each (λ part. OutputFits part.kind) f → (o : OutputPart) → kind_by output_kind (first_part f) ≡ Some o → IsOutputRect o.rect
output_by end e o h = cc
output_by (con part kids floats rest) e o h = by part.kind e.0 h
  where
    by : (kind : NodeKind) → OutputFits kind → output_kind kind ≡ Some o → IsOutputRect o.rect
    by (Root c) k g = cc
    by (Output q) k g = let one : q ≡ o = cc in rw (← one) k
    by (Space s) k g = cc
    by (Con c) k g = cc

output_fits : (i : ConId) (t : TreeValue) → IsSound t → (o : OutputPart) → kind_of output_kind i t.nodes ≡ Some o → IsOutputRect o.rect
output_fits i t s o h = output_by (only i t.nodes) (each_only (λ part. OutputFits part.kind) i t.nodes (outputs_fit roots false 0 t.nodes s.shaped)) o h

part_fits : (c : ConId) (t : TreeValue) → IsSound t → (o : OutputPart) → output_part_of c t ≡ Some o → IsOutputRect o.rect
part_fits c t s o h = by (output_of c t) h
  where
    by : (i : Option ConId) → option_and_then (λ (o : ConId). kind_of output_kind o t.nodes) i ≡ Some o → IsOutputRect o.rect
    by None g = cc
    by (Some i) g = output_fits i t s o g

-- ---- windows that float, come and are sent

middle_fits : (o : Rect) (n : Size) → n.w ≤ 16384 → n.h ≤ 16384 → IsOutputRect (held_middle o n)
middle_fits o n a b = rect_in (held (middle_of o.x o.w n.w)) (held (middle_of o.y o.h n.h)) n.w n.h (held_in (middle_of o.x o.w n.w)) (held_in (middle_of o.y o.h n.h)) a b

new_fits : (o : Option OutputPart) (b : Border) (n : Option Size) → ((p : OutputPart) → o ≡ Some p → IsOutputRect p.rect) → IsOutputRect (new_rect o b n)
new_fits None b n h = nowhere_fits
new_fits (Some p) b None h = nowhere_fits
new_fits (Some p) b (Some n) h =
    let fine : IsOutputRect p.rect = h p refl in
    middle_fits p.rect (outer_size b n p.rect) (omega (arith, fine.width)) (omega (arith, fine.height))

pub floating_fits : (c : ConId) (t : TreeValue) → IsSound t → RectsFit t → IsOutputRect (floating_rect c t)
floating_fits c t s r = by (kind_of con_kind c t.nodes) (con_fits c t r)
  where
    earlier : (b : Border) (k : Option Size) (o : Option Rect) → FitsRect o → IsOutputRect (rect_or o (new_rect (output_part_of c t) b k))
    earlier b k None h = new_fits (output_part_of c t) b k (part_fits c t s)
    earlier b k (Some q) h = h

    by : (o : Option ConPart) → ((p : ConPart) → o ≡ Some p → FitsRect p.state.rect) → IsOutputRect (floating_by (output_part_of c t) o)
    by None h = nowhere_fits
    by (Some p) h = earlier p.state.border (natural_by p.kind) p.state.rect (h p refl)

pub middle_on_fits : (o : Option OutputPart) (r : Rect) → IsOutputRect r → IsOutputRect (middle_on o r)
middle_on_fits None r h = h
middle_on_fits (Some o) r h = middle_fits o.rect (record { w = r.w; h = r.h }) h.width h.height

pub coming_fits : (c : ConId) (o : Option OutputPart) (t : TreeValue) → RectsFit t → IsOutputRect (middle_on o (rect_of c t))
coming_fits c o t r = middle_on_fits o (rect_of c t) (rect_fits c t r)

pub sent_fits : (c w : ConId) (t : TreeValue) → RectsFit t → IsOutputRect (shifted (output_part_of c t) (output_part_of w t) (rect_of c t))
sent_fits c w t r = by (output_part_of c t) (output_part_of w t)
  where
    own : IsOutputRect (rect_of c t)
    own = rect_fits c t r

    by : (a b : Option OutputPart) → IsOutputRect (shifted a b (rect_of c t))
    by None b = own
    by (Some a) None = own
    by (Some a) (Some b) =
        let x : ℤ = (rect_of c t).x +ℤ (b.rect.x -ℤ a.rect.x) in
        let y : ℤ = (rect_of c t).y +ℤ (b.rect.y -ℤ a.rect.y) in
        rect_in (held x) (held y) (rect_of c t).w (rect_of c t).h (held_in x) (held_in y) own.width own.height

-- ---- other places and sizes

pub placed_fits : (c : ConId) (x y : ℤ) (t : TreeValue) → place_at_refusal c x y t ≡ None → RectsFit t → IsOutputRect (record { x = x; y = y; w = (rect_of c t).w; h = (rect_of c t).h })
placed_fits c x y t h r =
    let a = unless (is_hidden t c) texts.NoWorkspace _ h in
    let b = unless (is_space t c) texts.AtWorkspace _ a.1 in
    let d = unless (is_tiled_con t c) texts.NotFloating _ b.1 in
    let e = unless (not (is_in_range x && is_in_range y)) texts.OutOfRange None d.1 in
    let ok = both (is_in_range x) (is_in_range y) (not_not (is_in_range x && is_in_range y) e.0) in
    let own : IsOutputRect (rect_of c t) = rect_fits c t r in
    rect_in x y (rect_of c t).w (rect_of c t).h (in_range x ok.0) (in_range y ok.1) own.width own.height

is_short : (n : ℕ) → is_size n ≡ true → n ≤ 16384
is_short n h = let b = both (nat_le 1 n) (nat_le n 16384) h in up_to n b.1
  where
    up_to : (m : ℕ) → nat_le m 16384 ≡ true → m ≤ 16384
    up_to m e = grind (arith, nat_tests)

pub set_fits : (c : ConId) (w h : ℕ) (t : TreeValue) → resize_set_refusal c w h t ≡ None → RectsFit t → IsOutputRect (record { x = (rect_of c t).x; y = (rect_of c t).y; w = w; h = h })
set_fits c w h t g r =
    let a = unless (is_hidden t c) texts.NoWorkspace _ g in
    let b = unless (is_space t c) texts.AtWorkspace _ a.1 in
    let d = unless (is_tiled_con t c) texts.NotFloating _ b.1 in
    let e = unless (not (is_size w && is_size h)) texts.OutOfRange None d.1 in
    let ok = both (is_size w) (is_size h) (not_not (is_size w && is_size h) e.0) in
    let own : IsOutputRect (rect_of c t) = rect_fits c t r in
    rect_in (rect_of c t).x (rect_of c t).y w h (own.x_low, own.x_high) (own.y_low, own.y_high) (is_short w ok.0) (is_short h ok.1)

side_short : (z : ℤ) → is_side z ≡ true → nat_abs z ≤ 16384
side_short (pos n) h = let b = both (int_le (pos 1) (pos n)) (int_le (pos n) (pos 16384)) h in omega (arith, ints, is_le (pos n) (pos 16384) b.1)
side_short (negsuc n) h = let b = both (int_le (pos 1) (negsuc n)) (int_le (negsuc n) (pos 16384)) h in absurd (omega (arith, ints, is_le (pos 1) (negsuc n) b.0))

pub grown_fits : (c : ConId) (side : Side) (by : ℤ) (t : TreeValue) → grow_refusal c side by t ≡ None → IsOutputRect (as_rect (grown side by (rect_of c t)))
grown_fits c side by t h =
    let f = grown side by (rect_of c t) in
    let a = unless (not (fits (grown side by (rect_of c t)))) texts.OutOfRange None h in
    let parts = both (has_sides (grown side by (rect_of c t))) (has_place (grown side by (rect_of c t))) (not_not (fits (grown side by (rect_of c t))) a.0) in
    let sides = both (is_side f.w) (is_side f.h) parts.0 in
    let place = both (is_in_range f.x) (is_in_range f.y) parts.1 in
    rect_in f.x f.y (nat_abs f.w) (nat_abs f.h) (in_range f.x place.0) (in_range f.y place.1) (side_short f.w sides.0) (side_short f.h sides.1)
