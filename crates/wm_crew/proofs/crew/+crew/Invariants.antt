use Rattle.std.proofs.Common.{◌+◌, length, ◌-◌, ◌*◌}
use Rattle.wm_crew.proofs.crew.+crew.Given as goal

abbrev pub decreases-run_beside-one : goal.decreases-run_beside-one
decreases-run_beside-one g l = 4 * length l.pass.now + 1

abbrev pub decreases-run_beside-rest : goal.decreases-run_beside-rest
decreases-run_beside-rest g l = 4 * length l.passes.now + 1

abbrev pub decreases-run_beside : goal.decreases-run_beside
decreases-run_beside g l = 4 * (length l.pass.now + length l.passes.now) - 1

abbrev pub decreases-run_crew : goal.decreases-run_crew
decreases-run_crew g l = 4 * length l.passes.now
