use Rattle.std.proofs.lemmas.Result.{on_ok_weaker}
use Rattle.wm_apply.proofs.KillingLemmas.{settled_behind}
use Rattle.wm_apply.specs.declared.rows.How.TheVariants as how
use Rattle.wm_apply.proofs.killing.kill_still.Goals as goal

pub returns-clause-settled : goal.returns-clause-settled
returns-clause-settled c = on_ok_weaker c.run_still.result (λ e h. rw e (settled_behind c.args.env.now how.Matched c.args.con c.args.t.now h)) c.run_still.ensures.tree
