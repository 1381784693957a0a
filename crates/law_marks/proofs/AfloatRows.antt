-- What floats is a window with a rectangle within the limits, row by row: in a sound tree those are the containers without a share.
use Rattle.std.proofs.Common.{◌≡◌, ℕ, ◌+◌, Bool, true, false, List, [], ◌∷◌, length, Option, None, Some, refl, subst, arith}
use Rattle.std.specs.Prelude.{is_some}
use Rattle.wm_base.specs.declared.geometry.Rect.{Rect}
use Rattle.law_lasting.specs.Each.{Each}
use Rattle.law_lasting.specs.Rects.{FitsKind, FitsRect}
use Rattle.law_marks.proofs.AfloatKinds.{IsRight, Right, and_true, both, rects_of}
use Rattle.wm_base.specs.declared.plan.Border.{Border}
use Rattle.wm_base.specs.declared.plan.OutputPlan.{OutputPlan}
use Rattle.law_marks.proofs.AfloatLast.{AllRight, opening_right}
use Rattle.law_marks.specs.Afloat.{AreAfloat, FloatRows, HasFitRect, IsAfloat, WindowsFloat}
use Rattle.wm_forest.specs.Change.{is_window_kind}
use Rattle.wm_forest.specs.declared.part.NodeKind.{NodeKind}
use Rattle.wm_forest.specs.declared.part.NodeKind.TheVariants.{Root, Output, Space, Con}
use Rattle.wm_forest.specs.declared.part.Part.{Part}
use Rattle.wm_forest.specs.Forest.{Forest, end, con}
use Rattle.wm_forest.specs.SoundRow.{IsNode, IsSoundRow, Level, below, containers, outputs, roots, spaces}
use Rattle.wm_forest.specs.Spot.{room_below}
use Rattle.wm_tree.specs.Sound.{IsSound}
use Rattle.wm_tree.specs.TreeValue.{TreeValue, opening, opening_outputs}

some_rect : (o : Option Rect) → HasFitRect o → is_some o ≡ true
some_rect None h = absurd h
some_rect (Some r) h = refl

fit_rect : (o : Option Rect) → is_some o ≡ true → FitsRect o → HasFitRect o
fit_rect None e h = cc
fit_rect (Some r) e h = h

-- ---- from rows to containers

-- the row is not one of floating windows, or each of its nodes is one that floats
abbrev InOrder : Level → Bool → Forest → Type 0
InOrder roots tiled f = Unit {0}
InOrder outputs tiled f = Unit {0}
InOrder spaces tiled f = Unit {0}
InOrder containers true f = Unit {0}
InOrder containers false f = AreAfloat f

node_right : (l : Level) (tiled : Bool) (room : ℕ) (part : Part) (kids floats rest : Forest) (kind : NodeKind) → part.kind ≡ kind → IsNode l tiled room part.id kind part.marks kids → InOrder l tiled (con part kids floats rest) → FitsKind kind → IsRight kind
node_right l tiled room part kids floats rest (Root c) e n o fits = tt
node_right l tiled room part kids floats rest (Output c) e n o fits = tt
node_right l tiled room part kids floats rest (Space s) e n o fits = tt
node_right roots tiled room part kids floats rest (Con c) e n o fits = absurd n
node_right outputs tiled room part kids floats rest (Con c) e n o fits = absurd n
node_right spaces tiled room part kids floats rest (Con c) e n o fits = absurd n
node_right containers true room part kids floats rest (Con c) e n o fits = (fits, λ z. absurd (omega (arith, n.1.0, z)))
node_right containers false room part kids floats rest (Con c) e n o fits =
    let here : IsAfloat (Con c) = subst IsAfloat e o.0 in
    (fits, λ z. and_true (is_window_kind c.kind) (is_some c.state.rect) here.0 (some_rect c.state.rect here.1))

rest_order : (l : Level) (tiled : Bool) (part : Part) (kids floats rest : Forest) → InOrder l tiled (con part kids floats rest) → InOrder l tiled rest
rest_order roots tiled part kids floats rest o = tt
rest_order outputs tiled part kids floats rest o = tt
rest_order spaces tiled part kids floats rest o = tt
rest_order containers true part kids floats rest o = tt
rest_order containers false part kids floats rest o = o.1

kids_order : (l : Level) (kids : Forest) → InOrder (below l) true kids
kids_order roots kids = tt
kids_order outputs kids = tt
kids_order spaces kids = tt
kids_order containers kids = tt

rows_right : (l : Level) (tiled : Bool) (room : ℕ) (f : Forest) → IsSoundRow l tiled room f → InOrder l tiled f → FloatRows f → Each (λ part. FitsKind part.kind) f → Each Right f
rows_right l tiled room end p o rows fits = tt
rows_right l tiled room (con part kids floats rest) p o rows fits = (
  node_right l tiled room part kids floats rest part.kind refl p.0 o fits.0,
  rows_right (below l) true (room_below room part.kind) kids p.2 (kids_order l kids) rows.1 fits.1,
  rows_right containers false (room_below room part.kind) floats p.3 rows.0 rows.2 fits.2,
  rows_right l tiled room rest p.4 (rest_order l tiled part kids floats rest o) rows.3 fits.3,
)

-- ---- and back

node_afloat : (room : ℕ) (part : Part) (kids : Forest) (kind : NodeKind) → IsNode containers false room part.id kind part.marks kids → IsRight kind → IsAfloat kind
node_afloat room part kids (Root c) n r = absurd n
node_afloat room part kids (Output o) n r = absurd n
node_afloat room part kids (Space s) n r = absurd n
node_afloat room part kids (Con c) n r = let b = both (is_window_kind c.kind) (is_some c.state.rect) (r.1 n.1) in (b.0, fit_rect c.state.rect b.1 r.0)

are_afloat : (room : ℕ) (f : Forest) → IsSoundRow containers false room f → Each Right f → AreAfloat f
are_afloat room end p r = tt
are_afloat room (con part kids floats rest) p r = (node_afloat room part kids part.kind p.0 r.0, are_afloat room rest p.4 r.3)

float_rows : (l : Level) (tiled : Bool) (room : ℕ) (f : Forest) → IsSoundRow l tiled room f → Each Right f → FloatRows f
float_rows l tiled room end p r = tt
float_rows l tiled room (con part kids floats rest) p r = (
  are_afloat (room_below room part.kind) floats p.3 r.2,
  float_rows (below l) true (room_below room part.kind) kids p.2 r.1,
  float_rows containers false (room_below room part.kind) floats p.3 r.2,
  float_rows l tiled room rest p.4 r.3,
)

pub float_from : (t : TreeValue) → IsSound t → WindowsFloat t → AllRight t
float_from t s w = rows_right roots false 0 t.nodes s.shaped tt w.rows w.rects

pub float_back : (t : TreeValue) → IsSound t → AllRight t → WindowsFloat t
float_back t s r = record { rows = float_rows roots false 0 t.nodes s.shaped r; rects = rects_of t.nodes r }

pub openings_float : (plans : List OutputPlan) (border : Border) (inner outer : ℕ) → WindowsFloat (opening plans border inner outer)
openings_float plans border inner outer = record { rows = (tt, none_float 1 (1 + length plans) inner outer plans, tt, tt); rects = rects_of (opening plans border inner outer).nodes (opening_right plans border inner outer) }
  where
    none_float : (k last inner outer : ℕ) (plans : List OutputPlan) → FloatRows (opening_outputs k last inner outer plans)
    none_float k last inner outer [] = tt
    none_float k last inner outer (plan ∷ plans) = (tt, (tt, tt, tt, tt), tt, none_float (k + 1) last inner outer plans)
