use Rattle.std.proofs.Common.{◌≡◌, List, length}
use Rattle.wm_txn.specs.History.{Opening, Entry}
use Rattle.wm_txn.specs.Machine.{last_prefix}
use Rattle.wm_txn.specs.Stands.{Stands}
use Rattle.wm_txn.proofs.txn.Txn.tuck_all.Given as goal

-- the machine stands as it did
abbrev pub invariant-loop-rest : goal.invariant-loop-rest
invariant-loop-rest l = record {
  stands : (o : Opening) (history : List Entry) → Stands o history l.initial.self → Stands o history l.self;
  same : last_prefix l.self ≡ last_prefix l.initial.self;
}

abbrev pub decreases-loop-rest : goal.decreases-loop-rest
decreases-loop-rest l = length l.rest
