use Rattle.std.proofs.Common.{◌≡◌, ◌≤◌, ap, arith, length, sym, ◌∙◌}
use Rattle.wm_core.specs.Entries.{bare_step, history_of}
use Rattle.wm_core.proofs.StepLemmas.{goes_on}
use Rattle.wm_book.proofs.RecordLemmas.{record_next, stored_full}
use Rattle.wm_book.specs.Counting.{says_form}
use Rattle.wm_book.specs.Recorded.{RecordedValue, most_stored, stored}
use Rattle.wm_book.proofs.recorded.RecordedKept.step.Goals as goal

-- a step for which there is no room is not stored
pub returns-then-len-ge-MOST_STORED-clause-stands : goal.returns-then-len-ge-MOST_STORED-clause-stands
returns-then-len-ge-MOST_STORED-clause-stands c = λ entries s.
    let desk = ap (λ (r : RecordedValue). r.desk) c.self.view_is in
    let all : c.self.inside.entries.items ≡ stored entries = ap (λ (r : RecordedValue). r.entries) c.self.view_is ∙ s.stored_are in
    let none : most_stored ≤ length (stored entries) = rw (← all) (grind (arith, c.len.ensures, c.if-len-ge-MOST_STORED.true)) in
    record_next (record { desk = c.step.new.self; entries = c.self.inside.entries.items }) entries c.args.who c.args.step.now (bare_step c.args.step.now) (says_form c.args.step.now)
    (goes_on _ _ _ c.in_ok-step.ensures.stands c.in_ok-step.ensures.plan (history_of entries) (rw (← desk) at s.desk_stands)) (all ∙ sym (stored_full (record { who = c.args.who; step = bare_step c.args.step.now }) entries none))

pub returns-in-Ok-clause-stands : goal.returns-in-Ok-clause-stands
returns-in-Ok-clause-stands c = λ entries s.
    let desk = ap (λ (r : RecordedValue). r.desk) c.self.view_is in
    let holds = ap (λ (r : RecordedValue). r.entries) c.self.view_is in
    record_next c.store.new.self entries c.args.who c.args.step.now (bare_step c.args.step.now) (says_form c.args.step.now)
    (rw c.store.ensures.desk (goes_on _ _ _ c.in-Ok.ensures.stands c.in-Ok.ensures.plan (history_of entries) (rw (← desk) at s.desk_stands)))
    (rw (← c.in_ok-copy.ensures) (c.store.ensures.entries entries (holds ∙ s.stored_are)))
