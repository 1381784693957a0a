use Rattle.std.proofs.Common.{arith}
use Rattle.wm_defs.proofs.CutLemmas.{cut_at-rises}
use Rattle.wm_arrange.proofs.ShareLemmas.{few_shares}
use Rattle.wm_arrange.proofs.cutting.cut.Goals as goal

pub start_at-start-requires-clause-few : goal.start_at-start-requires-clause-few
start_at-start-requires-clause-few c = rw c.share_sum-total.ensures (few_shares c.args.shares.now c.requires.few c.requires.small)

pub start_at-end-requires-clause-few : goal.start_at-end-requires-clause-few
start_at-end-requires-clause-few c = rw c.share_sum-total.ensures (few_shares c.args.shares.now c.requires.few c.requires.small)

pub overflow_sub-result : goal.overflow_sub-result
overflow_sub-result c = grind (arith, cut_at-rises c.args.width c.args.index c.args.shares.now)
