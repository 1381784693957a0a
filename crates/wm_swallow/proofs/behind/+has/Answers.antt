use Rattle.std.proofs.Common.{◌≡◌, sym, subst}
use Rattle.wm_swallow.specs.SavedRows.{Saved, all_marks, row_below, rows}
use Rattle.wm_focus.specs.Marks.{bears}
use Rattle.wm_swallow.proofs.SavedLemmas.{below_is}
use Rattle.wm_swallow.proofs.behind.+has.Goals as goal

pub has_mark_below-returns-in-Split : goal.has_mark_below-returns-in-Split
has_mark_below-returns-in-Split t c =
    let e : row_below c.args.kind.now ≡ rows c.items.result.now = below_is _ _ _ _ c.in-Split.is c.items.ensures in
    subst (λ (r : Saved). c.has_mark.result ≡ bears c.args.mark.now (all_marks r)) (sym e) c.has_mark.ensures
