use Rattle.wm_history.proofs.KeyLemmas.{first_part}
use Rattle.wm_history.proofs.keys.first_part.Goals as goal

pub returns : goal.returns
returns c = first_part c.args.chord.now c.split_once.result c.split_once.ensures.cases
