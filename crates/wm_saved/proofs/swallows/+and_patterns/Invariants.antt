use Rattle.std.proofs.Common.{length}
use Rattle.wm_saved.proofs.swallows.+and_patterns.Given as goal

abbrev pub decreases-and_patterns : goal.decreases-and_patterns
decreases-and_patterns l = length l.kinds.now
