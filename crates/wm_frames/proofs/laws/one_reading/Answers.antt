use Rattle.std.proofs.Common.{ap}
use Rattle.wm_frames.proofs.DecodingLemmas.{ending-rest}
use Rattle.wm_frames.proofs.FrameLemmas.{reading_splits, one_reading}
use Rattle.wm_frames.proofs.laws.one_reading.Goals as goal

pub returns-clause-splits : goal.returns-clause-splits
returns-clause-splits c = reading_splits

pub returns-clause-only : goal.returns-clause-only
returns-clause-only c = λ bytes rest given small s.
    (ap (λ r. r.messages) (one_reading bytes rest given small s), ap (λ r. r.tail) (one_reading bytes rest given small s))

pub returns-clause-rest : goal.returns-clause-rest
returns-clause-rest c = ending-rest
