use Rattle.wm_frames.proofs.FrameLemmas.{one_frame}
use Rattle.wm_frames.proofs.laws.no_frame_begins_another.Goals as goal

pub returns : goal.returns
returns c = one_frame
