use Rattle.std.proofs.Common.{◌≡◌, sym, subst}
use Rattle.wm_swallow.specs.Limits.{is_overmarked}
use Rattle.wm_swallow.specs.SavedRows.{Saved, row_below, rows}
use Rattle.wm_swallow.proofs.SavedLemmas.{below_is}
use Rattle.wm_swallow.proofs.shapes.+marks.Goals as goal

pub is_overmarked_kind-returns-in-Split : goal.is_overmarked_kind-returns-in-Split
is_overmarked_kind-returns-in-Split t c =
    let e : row_below c.args.kind.now ≡ rows c.items.result.now = below_is _ _ _ _ c.in-Split.is c.items.ensures in
    subst (λ (r : Saved). c.is_overmarked.result ≡ is_overmarked r) (sym e) c.is_overmarked.ensures
