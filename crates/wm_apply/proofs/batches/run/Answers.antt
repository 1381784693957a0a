use Rattle.std.proofs.Common.{◌∙◌, ap}
use Rattle.wm_apply.specs.Batches.{Outcome}
use Rattle.wm_apply.proofs.IdLemmas.{ids_left}
use Rattle.wm_apply.proofs.batches.run.Goals as goal

pub returns-clause-ids : goal.returns-clause-ids
returns-clause-ids c = ids_left c.args.env.now c.args.p.now.verdict c.args.subject c.args.t.now c.ran.inside.tree (ap (λ (o : Outcome). o.tree) (c.ran.view_is ∙ c.in_ok-ran.ensures.done))
