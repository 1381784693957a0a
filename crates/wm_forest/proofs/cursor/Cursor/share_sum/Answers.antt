use Rattle.std.proofs.Common.{ap, arith}
use Rattle.wm_forest.specs.Counts.{share_sum}
use Rattle.wm_forest.proofs.StandLemmas.{sum_bounds}
use Rattle.wm_forest.proofs.cursor.Cursor.share_sum.Goals as goal

-- 256 shares of at most 1,048,576 each
pub returns-clause-small : goal.returns-clause-small
returns-clause-small c = λ room s. omega (arith, (sum_bounds room c.args.self.now s).1, c.requires, c.share_sum.ensures.sum, ap share_sum c.self.view_is)
