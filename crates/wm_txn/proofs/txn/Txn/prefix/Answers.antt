use Rattle.std.proofs.Common.{ap, ◌∙◌}
use Rattle.wm_txn.specs.Accepted.{accepted}
use Rattle.wm_txn.specs.Machine.{TxnValue}
use Rattle.wm_txn.proofs.ReadingLemmas.{prefix_is}
use Rattle.wm_txn.proofs.txn.Txn.prefix.Goals as goal

pub returns-clause-history : goal.returns-clause-history
returns-clause-history c = λ o history s. ap (λ (d : TxnValue). d.prefix) c.self.view_is ∙ prefix_is o (accepted o history) c.args.self.now s
