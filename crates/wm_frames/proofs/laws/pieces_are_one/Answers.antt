use Rattle.std.proofs.Common.{ap}
use Rattle.wm_frames.proofs.ReadingLemmas.{reading-append}
use Rattle.wm_frames.proofs.DecodingLemmas.{ending-append}
use Rattle.wm_frames.proofs.laws.pieces_are_one.Goals as goal

pub returns-clause-messages : goal.returns-clause-messages
returns-clause-messages c = λ first more. ap (λ r. r.messages) (reading-append first more)

pub returns-clause-tail : goal.returns-clause-tail
returns-clause-tail c = λ first more. ap (λ r. r.tail) (reading-append first more)

pub returns-clause-for_good : goal.returns-clause-for_good
returns-clause-for_good c = ending-append
