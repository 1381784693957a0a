use Rattle.std.proofs.Common.{◌∙◌}
use Rattle.wm_txn.specs.Accepted.{accepted}
use Rattle.wm_txn.proofs.JudgeLemmas.{ack_is, stands_ack}
use Rattle.wm_txn.proofs.txn.Txn.ack.Goals as goal

pub returns-clause-answer : goal.returns-clause-answer
returns-clause-answer c = λ o history s. c.take_ack.ensures.answer ∙ ack_is o (accepted o history) c.args.self.now s c.args.view c.args.serial

pub returns-clause-stands : goal.returns-clause-stands
returns-clause-stands c = λ o history s. rw c.take_ack.ensures.value (stands_ack o (accepted o history) c.args.self.now s c.args.view c.args.serial)
