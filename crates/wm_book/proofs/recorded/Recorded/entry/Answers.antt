use Rattle.std.proofs.Common.{ap, ◌∙◌}
use Rattle.wm_book.specs.Recorded.{RecordedValue}
use Rattle.wm_book.proofs.RecordLemmas.{entry_told}
use Rattle.wm_book.proofs.recorded.Recorded.entry.Goals as goal

pub returns : goal.returns
returns c = λ entries s.
    entry_told entries c.args.self.now.entries c.args.place c.get.result s.stored_are
    (rw (c.deref.ensures.value ∙ ap (λ (r : RecordedValue). r.entries) c.self.view_is) at c.get.ensures.lookup)
