use Rattle.std.proofs.Common.{ap}
use Rattle.wm_frames.proofs.FrameLemmas.{reading-frames}
use Rattle.wm_frames.proofs.laws.frames_read_back.Goals as goal

pub returns-clause-messages : goal.returns-clause-messages
returns-clause-messages c = λ given more short. ap (λ r. r.messages) (reading-frames given more short)

pub returns-clause-tail : goal.returns-clause-tail
returns-clause-tail c = λ given more short. ap (λ r. r.tail) (reading-frames given more short)
