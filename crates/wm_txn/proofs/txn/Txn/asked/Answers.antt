use Rattle.std.proofs.Common.{◌∙◌}
use Rattle.wm_txn.specs.Accepted.{accepted}
use Rattle.wm_txn.proofs.ReadingLemmas.{configured_is}
use Rattle.wm_txn.proofs.txn.Txn.asked.Goals as goal

pub returns-clause-history : goal.returns-clause-history
returns-clause-history c = λ o history s. c.configured_of.ensures ∙ configured_is o (accepted o history) c.args.self.now s c.args.view
