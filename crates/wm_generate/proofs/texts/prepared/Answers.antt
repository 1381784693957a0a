use Rattle.wm_generate.proofs.TextLemmas.{prepared_built, prepared_ready}
use Rattle.wm_generate.proofs.texts.prepared.Goals as goal

pub returns-clause-verdict : goal.returns-clause-verdict
returns-clause-verdict c = prepared_ready c.args.number c.text.result.now c.prepare_bare.result c.text.ensures c.prepare_bare.ensures.verdict c.prepare_bare.ensures.read

pub returns-clause-built : goal.returns-clause-built
returns-clause-built c = prepared_built c.args.number c.text.result.now c.prepare_bare.result c.text.ensures c.prepare_bare.ensures.verdict c.prepare_bare.ensures.read
