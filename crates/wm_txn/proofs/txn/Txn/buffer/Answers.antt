use Rattle.std.proofs.Common.{◌+◌, ◌∙◌, ap, sym}
use Rattle.wm_txn.specs.Accepted.{accepted}
use Rattle.wm_txn.proofs.JudgeLemmas.{buffer_is, stands_buffer}
use Rattle.wm_txn.proofs.OpeningLemmas.{accepted_length}
use Rattle.wm_txn.proofs.txn.Txn.buffer.Goals as goal

pub returns-clause-answer : goal.returns-clause-answer
returns-clause-answer c = λ o history s. c.take_buffer.ensures.answer ∙ buffer_is o (accepted o history) c.args.self.now s c.args.view c.args.b

pub returns-clause-stands : goal.returns-clause-stands
returns-clause-stands c = λ o history at s.
    rw c.take_buffer.ensures.value (stands_buffer o (accepted o history) c.args.self.now s c.args.view (c.args.place + 1) (ap (λ n. n + 1) (sym at ∙ sym (accepted_length o history))) c.args.b)
