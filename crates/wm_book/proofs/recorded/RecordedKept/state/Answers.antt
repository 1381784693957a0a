use Rattle.std.proofs.Common.{ap}
use Rattle.wm_book.specs.Recorded.{RecordedValue}
use Rattle.wm_core.specs.Entries.{history_of}
use Rattle.wm_book.proofs.recorded.RecordedKept.state.Goals as goal

pub returns : goal.returns
returns c = λ entries s.
    let same = ap (λ (r : RecordedValue). r.desk) c.self.view_is in
    rw (← same) (c.state.ensures _ (history_of entries) (rw (← same) at s.desk_stands))
