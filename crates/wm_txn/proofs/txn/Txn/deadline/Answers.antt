use Rattle.std.proofs.Common.{◌∙◌, sym}
use Rattle.wm_txn.specs.Accepted.{accepted}
use Rattle.wm_txn.proofs.EntryLemmas.{stands_timed}
use Rattle.wm_txn.proofs.OpeningLemmas.{accepted_length}
use Rattle.wm_txn.proofs.txn.Txn.deadline.Goals as goal

pub returns-clause-stands : goal.returns-clause-stands
returns-clause-stands c = λ o history at s.
    rw c.time_out.ensures.value (stands_timed o (accepted o history) c.args.self.now s c.args.number c.args.place (sym at ∙ sym (accepted_length o history)))
