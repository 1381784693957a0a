use Rattle.std.proofs.Common.{◌≡◌, ◌++◌, length}
use Rattle.std.specs.Vec.Iter.{into_iter_items, into_iter_len}
use Rattle.wm_kept.specs.Log.{told}
use Rattle.wm_kept.proofs.kept.Kept.push_all.Given as goal

-- those that came out so far are told, and those that are left come behind them
abbrev pub invariant-loop-body : goal.invariant-loop-body
invariant-loop-body l =
    (l.self ≡ told l.yielded l.fn.self)
    × (l.yielded ++ into_iter_items l.body-iterator ≡ l.fn.bodies.items)
    × (into_iter_len l.body-iterator ≡ length (into_iter_items l.body-iterator))
