use Rattle.std.proofs.Common.{◌∙◌, sym}
use Rattle.wm_forest.proofs.RecencyLemmas.{raised_turned, raised_absent}
use Rattle.wm_forest.proofs.recency.raise.Goals as goal

pub returns-in-Some : goal.returns-in-Some
returns-in-Some c = raised_turned c.args.id c.args.ids.now _ c.in-Some.at (sym c.place.ensures.place ∙ c.in-Some.is) c.rotate_right.ensures.after

pub returns-in_default : goal.returns-in_default
returns-in_default c = raised_absent c.args.id c.args.ids.now (sym c.place.ensures.place ∙ c.in_default.is)
