use Rattle.std.proofs.Common.{ap, ◌∙◌}
use Rattle.wm_txn.specs.Accepted.{accepted}
use Rattle.wm_txn.specs.Machine.{TxnValue}
use Rattle.wm_txn.proofs.ReadingLemmas.{current_is}
use Rattle.wm_txn.proofs.txn.Txn.current.Goals as goal

pub returns-clause-history : goal.returns-clause-history
returns-clause-history c = λ o history s. ap (λ (d : TxnValue). d.current.parts) c.self.view_is ∙ current_is o (accepted o history) c.args.self.now s
