use Rattle.std.proofs.Common.{◌∙◌}
use Rattle.wm_txn.specs.Accepted.{accepted}
use Rattle.wm_txn.proofs.ReadingLemmas.{waiting_is}
use Rattle.wm_txn.proofs.txn.Txn.waiting.Goals as goal

pub returns-clause-history : goal.returns-clause-history
returns-clause-history c = λ o history s. c.waiting_of.ensures ∙ waiting_is o (accepted o history) c.args.self.now s
