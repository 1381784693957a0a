use Rattle.std.proofs.Common.{◌≡◌, sym, subst}
use Rattle.wm_swallow.specs.SavedRows.{Saved, row_below, rows, fits}
use Rattle.wm_swallow.proofs.SavedLemmas.{below_is}
use Rattle.wm_swallow.proofs.shapes.+depth.Goals as goal

pub fits_kind-returns-in-Split : goal.fits_kind-returns-in-Split
fits_kind-returns-in-Split t c =
    let e : row_below c.args.kind.now ≡ rows c.items.result.now = below_is _ _ _ _ c.in-Split.is c.items.ensures in
    subst (λ (r : Saved). c.fits.result ≡ fits c.args.levels r) (sym e) c.fits.ensures
