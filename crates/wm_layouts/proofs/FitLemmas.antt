-- A rectangle that an output may have is one that a tree may have.
use Rattle.std.proofs.Common.{◌≡◌, ℕ, ◌≤◌, Bool, true, false, ◌&&◌, ℤ, ◌≤ℤ◌, T, refl, sym, subst, arith}
use Rattle.std.proofs.lemmas.Bool.Decides.{nat_tests}
use Rattle.std.specs.Prelude.{int_le, nat_le}
use Rattle.std.specs.Int.Signed.{le_z_yes}
use Rattle.wm_base.specs.declared.geometry.Rect.{Rect}
use Rattle.wm_layouts.specs.Plan.{is_fit_place, is_fit_rect, is_fit_size}
use Rattle.wm_forest.specs.SoundRow.{IsOutputRect}

both : (a b : Bool) → (a && b) ≡ true → (a ≡ true) × (b ≡ true)
both true b h = (refl, h)
both false b h = cc

is_le : (a b : ℤ) → int_le a b ≡ true → a ≤ℤ b
is_le a b h = le_z_yes (subst T (sym h) tt)

up_to : (m n : ℕ) → nat_le m n ≡ true → m ≤ n
up_to m n h = grind (arith, nat_tests)

pub output_rect : (r : Rect) → is_fit_rect r ≡ true → IsOutputRect r
output_rect r h =
    let parts = both (is_fit_place r) (is_fit_size r) h in
    let y_high = both _ _ parts.0 in
    let y_low = both _ _ y_high.0 in
    let x_high = both _ _ y_low.0 in
    let area = both _ _ parts.1 in
    let height = both _ _ area.0 in
    let tall = both _ _ height.0 in
    let width = both _ _ tall.0 in
    record {
      x_low = is_le _ _ x_high.0;
      x_high = is_le _ _ x_high.1;
      y_low = is_le _ _ y_low.1;
      y_high = is_le _ _ y_high.1;
      width = up_to _ _ width.1;
      height = up_to _ _ height.1;
    }
