use Rattle.wm_defs.proofs.CutLemmas.{cut-joins, cut_at-rises}
use Rattle.wm_defs.proofs.cut_covers.Goals as goal

pub returns-clause-rises : goal.returns-clause-rises
returns-clause-rises c = cut_at-rises

pub returns-clause-joins : goal.returns-clause-joins
returns-clause-joins c = cut-joins
