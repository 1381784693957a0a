use Rattle.std.proofs.Common.{length}
use Rattle.wm_frames.proofs.front.+agree.Given as goal

abbrev pub decreases-agree : goal.decreases-agree
decreases-agree l = length l.left.now
