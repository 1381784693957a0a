use Rattle.std.proofs.Common.{subst}
use Rattle.wm_arrange.specs.Choices.{KnowsFirst}
use Rattle.wm_arrange.proofs.choosing.shows_one_under.Goals as goal

pub returns-in-Output : goal.returns-in-Output
returns-in-Output c = λ known ids none. rw c.in-Output.is (subst (KnowsFirst known ids) c.row_from.ensures (c.shows_one_first.ensures known ids none))
