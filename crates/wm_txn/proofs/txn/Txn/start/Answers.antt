use Rattle.wm_txn.proofs.OpeningLemmas.{stands_start}
use Rattle.wm_txn.proofs.txn.Txn.start.Goals as goal

pub returns-clause-stands : goal.returns-clause-stands
returns-clause-stands c = stands_start c.args.first c.new.result c.new-2.result.entries c.requires c.new.ensures.empty c.new.ensures.ordered c.new-2.ensures.empty
