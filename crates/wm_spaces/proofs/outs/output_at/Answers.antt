use Rattle.wm_spaces.proofs.OutLemmas.{at_by}
use Rattle.wm_spaces.proofs.outs.output_at.Goals as goal

pub returns-clause-listed : goal.returns-clause-listed
returns-clause-listed c = λ s. at_by c.args.from c.args.arg.now c.args.t.now _ c.output_for.ensures s
