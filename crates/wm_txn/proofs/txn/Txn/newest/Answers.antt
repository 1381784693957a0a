use Rattle.std.proofs.Common.{ap, ◌∙◌}
use Rattle.wm_arrange.specs.declared.parts.Arrangement.{Arrangement}
use Rattle.wm_txn.specs.Accepted.{accepted}
use Rattle.wm_txn.proofs.ReadingLemmas.{newest_is}
use Rattle.wm_txn.proofs.txn.Txn.newest.Goals as goal

pub returns-clause-history : goal.returns-clause-history
returns-clause-history c = λ o history s. ap (λ (a : Arrangement). a.parts) c.newest_of.ensures ∙ newest_is o (accepted o history) c.args.self.now s
