use Rattle.wm_arrange.proofs.FillLemmas.{at_sign}
use Rattle.wm_arrange.proofs.filling.at_sign.Goals as goal

pub returns : goal.returns
returns c = at_sign c.args._props.now c.args.format.now c.split_once.result c.split_once.ensures.cases
