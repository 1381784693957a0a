-- Another rectangle of a container changes nothing else.
use Rattle.std.proofs.Common.{◌≡◌, Bool, true, false, cond, Option, None, Some, refl, ap}
use Rattle.std.specs.Option.{option_map}
use Rattle.std.specs.Prelude.{is_some}
use Rattle.law_sizes.specs.Rects.{GrowthKeeps, IsPlaced, PlaceKeeps, ShiftKeeps, SizeKeeps, rectless, rectless_kind}
use Rattle.wm_base.specs.declared.geometry.Rect.{Rect}
use Rattle.wm_base.specs.declared.ids.ConId.{ConId}
use Rattle.wm_floats.specs.Rounds.{shifted_x, shifted_y}
use Rattle.wm_floats.specs.Windows.{rect_set, restated}
use Rattle.wm_shared.specs.Rects.{rect_of, state_rect}
use Rattle.wm_shared.specs.Subject.{is_container}
use Rattle.wm_sizes.proofs.SetLemmas.{edited_stays}
use Rattle.wm_sizes.specs.Floating.{as_rect, grown, step}
use Rattle.wm_forest.specs.Change.{at}
use Rattle.wm_forest.specs.declared.kind.KindEdit.{KindEdit}
use Rattle.wm_forest.specs.declared.kind.KindEdit.TheVariants as edits
use Rattle.wm_forest.specs.declared.part.ConPart.{ConPart}
use Rattle.wm_forest.specs.declared.part.ConState.{ConState}
use Rattle.wm_forest.specs.declared.part.NodeKind.{NodeKind}
use Rattle.wm_forest.specs.declared.part.NodeKind.TheVariants.{Root, Output, Space, Con}
use Rattle.wm_forest.specs.Forest.{Forest, end, con}
use Rattle.wm_forest.specs.Kinds.{changed, kind_changed}
use Rattle.wm_forest.specs.Look.{con_kind, first_part, has, kind_by, kind_of, only, same}
use Rattle.wm_tree.specs.TreeValue.{TreeValue}

-- the state with this rectangle
abbrev at_rect : Rect → ConPart → KindEdit
at_rect r p = edits.State (record p.state { rect = Some r })

kind_rectless : (r : Rect) (p : ConPart) (kind : NodeKind) → con_kind kind ≡ Some p → rectless_kind (changed (at_rect r p) kind) ≡ rectless_kind kind
kind_rectless r p (Root c) h = cc
kind_rectless r p (Output o) h = cc
kind_rectless r p (Space s) h = cc
kind_rectless r p (Con c) h = let one : c ≡ p = cc in rw one refl

kind_placed : (r : Rect) (p : ConPart) (kind : NodeKind) → con_kind kind ≡ Some p → con_kind (changed (at_rect r p) kind) ≡ Some (record p { state = record p.state { rect = Some r } })
kind_placed r p (Root c) h = cc
kind_placed r p (Output o) h = cc
kind_placed r p (Space s) h = cc
kind_placed r p (Con c) h = let one : c ≡ p = cc in rw one refl

module _ (c : ConId) (r : Rect) (p : ConPart) where
  abbrev new : Forest → Forest
  new f = at c kind_changed (at_rect r p) f

  abbrev found : Forest → Option ConPart
  found f = kind_by con_kind (first_part (only c f))

  abbrev Is : Forest → Type 0
  Is f = found f ≡ Some (record p { state = record p.state { rect = Some r } })

  rest_kept : (f : Forest) → found f ≡ Some p → rectless c (new f) ≡ rectless c f
  rest_kept end h = cc
  rest_kept (con part kids floats rest) h = step (same part.id c) refl (has c kids) (has c floats) h (rest_kept kids) (rest_kept floats) (rest_kept rest) where
    step : (a : Bool) → same part.id c ≡ a → (k l : Bool) → kind_by con_kind (first_part (cond a (con part kids floats end) (cond k (only c kids) (cond l (only c floats) (only c rest))))) ≡ Some p
        → (found kids ≡ Some p → rectless c (new kids) ≡ rectless c kids) → (found floats ≡ Some p → rectless c (new floats) ≡ rectless c floats) → (found rest ≡ Some p → rectless c (new rest) ≡ rectless c rest)
        → rectless c (cond a (kind_changed (at_rect r p) part kids floats rest) (cond k (con part (new kids) floats rest) (cond l (con part kids (new floats) rest) (con part kids floats (new rest)))))
        ≡ rectless c (con part kids floats rest)
    step true e k l h x y z = rw (e, kind_rectless r p part.kind h) refl
    step false e true l h x y z = rw (x h) refl
    step false e false true h x y z = rw (y h) refl
    step false e false false h x y z = rw (z h) refl

  found_placed : (f : Forest) → found f ≡ Some p → Is (new f)
  found_placed end h = cc
  found_placed (con part kids floats rest) h =
      step (same part.id c) refl (has c kids) refl (has c floats) refl h (edited_stays c c (at_rect r p) kids).there (edited_stays c c (at_rect r p) floats).there (found_placed kids) (found_placed floats) (found_placed rest)
    where
      step : (a : Bool) → same part.id c ≡ a → (k : Bool) → has c kids ≡ k → (l : Bool) → has c floats ≡ l → kind_by con_kind (first_part (cond a (con part kids floats end) (cond k (only c kids) (cond l (only c floats) (only c rest))))) ≡ Some p
          → has c (new kids) ≡ has c kids → has c (new floats) ≡ has c floats
          → (found kids ≡ Some p → Is (new kids)) → (found floats ≡ Some p → Is (new floats)) → (found rest ≡ Some p → Is (new rest))
          → Is (cond a (kind_changed (at_rect r p) part kids floats rest) (cond k (con part (new kids) floats rest) (cond l (con part kids (new floats) rest) (con part kids floats (new rest)))))
      step true e k ek l el h hk hl x y z = rw e (kind_placed r p part.kind h)
      step false e true ek l el h hk hl x y z = rw (e, hk, ek) (x h)
      step false e false ek true el h hk hl x y z = rw (e, ek, hl, el) (y h)
      step false e false ek false el h hk hl x y z = rw (e, ek, el) (z h)

is_placed : (c : ConId) (r : Rect) (t : TreeValue) → is_container t c ≡ true → IsPlaced c r t (rect_set r c t)
is_placed c r t h = by (kind_of con_kind c t.nodes) refl h where
  by : (o : Option ConPart) → kind_of con_kind c t.nodes ≡ o → is_some o ≡ true
      → IsPlaced c r t (restated c (option_map (λ (s : ConState). record s { rect = Some r }) (option_map (λ (p : ConPart). p.state) o)) t)
  by None e h = cc
  by (Some p) e h = record {
    rect = ap state_rect (found_placed c r p t.nodes e);
    rest = ap (λ (z : Forest). record t { nodes = z }) (rest_kept c r p t.nodes e);
  }

pub size_keeps : SizeKeeps
size_keeps c w h t there = is_placed c (record { x = (rect_of c t).x; y = (rect_of c t).y; w = w; h = h }) t there

pub place_keeps : PlaceKeeps
place_keeps c x y t there = is_placed c (record { x = x; y = y; w = (rect_of c t).w; h = (rect_of c t).h }) t there

pub shift_keeps : ShiftKeeps
shift_keeps c d px t there = place_keeps c (shifted_x d px (rect_of c t)) (shifted_y d px (rect_of c t)) t there

pub growth_keeps : GrowthKeeps
growth_keeps c grow side px ppt t there floats = rw floats (is_placed c (as_rect (grown side (step grow px) (rect_of c t))) t there)
