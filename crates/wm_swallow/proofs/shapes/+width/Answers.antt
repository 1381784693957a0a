use Rattle.std.proofs.Common.{◌≡◌, sym, subst}
use Rattle.std.specs.Prelude.{◌||◌, nat_lt}
use Rattle.wm_swallow.specs.SavedRows.{Saved, row_below, rows, is_wide, row_size}
use Rattle.wm_swallow.proofs.SavedLemmas.{below_is}
use Rattle.wm_swallow.proofs.shapes.+width.Goals as goal

pub is_wide_kind-returns-in-Split : goal.is_wide_kind-returns-in-Split
is_wide_kind-returns-in-Split t c =
    let e : row_below c.args.kind.now ≡ rows c.items.result.now = below_is _ _ _ _ c.in-Split.is c.items.ensures in
    subst (λ (r : Saved). c.is_wide_row.result ≡ (nat_lt 256 (row_size r) || is_wide r)) (sym e) c.is_wide_row.ensures
