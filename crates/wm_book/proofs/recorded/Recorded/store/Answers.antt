use Rattle.std.proofs.Common.{◌≡◌, ◌<◌, ◌≤◌, ◌++◌, [], ◌∷◌, List, ap, arith, length, sym, ◌∙◌}
use Rattle.wm_book.specs.Recorded.{RecordedValue, most_stored, stored}
use Rattle.wm_book.specs.declared.entry.Entry.{Entry}
use Rattle.wm_book.proofs.RecordLemmas.{stored_full, stored_next}
use Rattle.wm_book.proofs.recorded.Recorded.store.Goals as goal

pub returns-then-len-lt-MOST_STORED-clause-entries :
    goal.returns-then-len-lt-MOST_STORED-clause-entries
returns-then-len-lt-MOST_STORED-clause-entries c = λ entries is.
    let all : c.self.inside.entries.items ≡ stored entries = ap (λ (r : RecordedValue). r.entries) c.self.view_is ∙ is in
    let room : length (stored entries) < most_stored = rw (← all) (grind (arith, c.len.ensures, c.if-len-lt-MOST_STORED.true)) in
    c.push_reserved.ensures.items
    ∙ (ap (λ (xs : List Entry). xs ++ record { who = c.args.who; step = c.args.step } ∷ []) all ∙ sym (stored_next (record { who = c.args.who; step = c.args.step }) entries room))

pub returns-else-len-lt-MOST_STORED-clause-entries :
    goal.returns-else-len-lt-MOST_STORED-clause-entries
returns-else-len-lt-MOST_STORED-clause-entries c = λ entries is.
    let all : c.self.inside.entries.items ≡ stored entries = ap (λ (r : RecordedValue). r.entries) c.self.view_is ∙ is in
    let none : most_stored ≤ length (stored entries) = rw (← all) (grind (arith, c.len.ensures, c.if-len-lt-MOST_STORED.false)) in
    is ∙ sym (stored_full (record { who = c.args.who; step = c.args.step }) entries none)
