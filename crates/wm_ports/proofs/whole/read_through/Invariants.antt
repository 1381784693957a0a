use Rattle.std.proofs.Common.{◌-◌, ◌<◌, ◌≤◌, length, vec_len}
use Rattle.wm_ports.proofs.ToldLemmas.{ReadsFirst}
use Rattle.wm_ports.proofs.whole.read_through.Given as goal

abbrev pub invariant-pieces : goal.invariant-pieces
invariant-pieces g l =
    (vec_len l.all ≤ l.limit)
    × (0 < length l.room)
    × ReadsFirst (g.R.Source.rest l.initial.source) (g.R.Source.rest l.source) l.all.items
    × (g.R.Source.faults l.initial.source ≤ g.R.Source.faults l.source)

abbrev pub decreases-pieces : goal.decreases-pieces
decreases-pieces g l = l.limit - vec_len l.all
