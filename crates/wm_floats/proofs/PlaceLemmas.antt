-- A shift is refused as the place is to which it goes.
use Rattle.std.proofs.Common.{◌≡◌, Some, Result, Ok, Err}
use Rattle.std.specs.Prelude.{ℤ, ◌+ℤ◌, IfErr}
use Rattle.wm_base.specs.declared.errors.Refusal.{Refusal}
use Rattle.wm_base.specs.declared.geometry.Rect.{Rect}
use Rattle.wm_base.specs.declared.ids.ConId.{ConId}
use Rattle.wm_floats.specs.Placing.{move_by_refusal, place_at_refusal}
use Rattle.wm_shared.specs.Rects.{rect_of}
use Rattle.wm_tree.specs.TreeValue.{TreeValue}

pub shift_cause : {A : Type 0} (c : ConId) (r : Rect) (x y dx dy : ℤ) (t : TreeValue) (o : Result A Refusal) → r ≡ rect_of c t → x ≡ r.x +ℤ dx → y ≡ r.y +ℤ dy
    → IfErr o (λ e. place_at_refusal c x y t ≡ Some e) → IfErr o (λ e. move_by_refusal c dx dy t ≡ Some e)
shift_cause c r x y dx dy t (Ok a) er ex ey h = tt
shift_cause c r x y dx dy t (Err e) er ex ey h =
    let one : x ≡ (rect_of c t).x +ℤ dx = rw (← er) ex in
    let two : y ≡ (rect_of c t).y +ℤ dy = rw (← er) ey in
    rw (← one, ← two) h
