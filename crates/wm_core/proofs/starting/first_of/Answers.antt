use Rattle.std.proofs.Common.{subst, sym}
use Rattle.wm_txn.specs.Windows.{HasNoContent}
use Rattle.wm_core.proofs.starting.first_of.Goals as goal

pub start-requires : goal.start-requires
start-requires c = subst HasNoContent (sym c.in_ok-first.ensures.parts) c.requires.empty
