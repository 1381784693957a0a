use Rattle.wm_arrange.proofs.FillLemmas.{behind_name}
use Rattle.wm_arrange.proofs.filling.behind_name.Goals as goal

pub returns : goal.returns
returns c = behind_name c.args.name.now c.args.text.now c.strip_prefix.result c.strip_prefix.ensures.cases
