use Rattle.std.proofs.Common.{◌≡◌, sym, subst, ◌+◌, ◌<◌}
use Rattle.std.specs.Prelude.{MatchOption}
use Rattle.wm_swallow.specs.SavedRows.{Saved, row_below, rows, size}
use Rattle.wm_swallow.proofs.SavedLemmas.{below_is}
use Rattle.wm_swallow.proofs.limits.+room.Goals as goal

pub room_after_kind-returns-in-Split : goal.room_after_kind-returns-in-Split
room_after_kind-returns-in-Split t c =
    let e : row_below c.args.kind.now ≡ rows c.items.result.now = below_is _ _ _ _ c.in-Split.is c.items.ensures in
    subst (λ (r : Saved). MatchOption c.room_after.result (c.args.room < size r) (λ left. left + size r ≡ c.args.room)) (sym e) c.room_after.ensures
