use Rattle.wm_floats.proofs.MovedLemmas.{as_before}
use Rattle.wm_floats.proofs.laws.floats_as_before.Goals as goal

pub returns : goal.returns
returns c = as_before
