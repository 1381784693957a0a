use Rattle.std.proofs.Common.{sym, ◌∙◌}
use Rattle.wm_focus.proofs.ClimbLemmas.{ways_none}
use Rattle.wm_focus.proofs.rungs.ways_above.Goals as goal

pub returns-in-None : goal.returns-in-None
returns-in-None c = sym (ways_none c.args.d c.args.con c.args.row (sym c.climb.ensures ∙ c.in-None.is))
