use Rattle.std.proofs.Common.{length}
use Rattle.wm_binds.proofs.names.Names.+spelled.Given as goal

abbrev pub decreases-spelled : goal.decreases-spelled
decreases-spelled l = length l.rest.now
