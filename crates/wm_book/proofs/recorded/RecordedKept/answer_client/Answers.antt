use Rattle.std.proofs.Common.{ap, refl, ◌∙◌}
use Rattle.wm_core.specs.Entries.{history_of}
use Rattle.wm_history.specs.declared.step.Step.TheVariants.{Client}
use Rattle.wm_core.proofs.StepLemmas.{goes_on}
use Rattle.wm_book.proofs.RecordLemmas.{record_next}
use Rattle.wm_book.specs.Recorded.{RecordedValue}
use Rattle.wm_book.proofs.recorded.RecordedKept.answer_client.Goals as goal

pub returns-clause-stands : goal.returns-clause-stands
returns-clause-stands c = λ entries s.
    let desk = ap (λ (r : RecordedValue). r.desk) c.self.view_is in
    let holds = ap (λ (r : RecordedValue). r.entries) c.self.view_is in
    record_next c.store.new.self entries c.args.who (Client c.args.step.now) (Client c.args.step.now) refl
    (rw c.store.ensures.desk (goes_on _ _ _ c.answer_client-answer.ensures.stands c.answer_client-answer.ensures.plan (history_of entries) (rw (← desk) at s.desk_stands)))
    (c.store.ensures.entries entries (holds ∙ s.stored_are))
