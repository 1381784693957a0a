use Rattle.std.proofs.Common.{◌∙◌, ap, ap₂}
use Rattle.wm_forest.specs.Passing.{kept_onto, taken_onto}
use Rattle.wm_forest.specs.Sticky.{sticky_in}
use Rattle.wm_forest.proofs.PassLemmas.{loose_turned, sticky_turned}
use Rattle.wm_forest.proofs.row.Row.take_sticky.Goals as goal

pub returns-clause-taken : goal.returns-clause-taken
returns-clause-taken c = c.hang_loose.ensures.taken ∙ (ap (λ d. taken_onto sticky_in d c.args.taken.now) c.turn-done.ensures.turned ∙ sticky_turned c.args.self.now c.args.taken.now)

pub returns-clause-left : goal.returns-clause-left
returns-clause-left c = c.hang_loose.ensures.kept ∙ (ap₂ (λ d z. kept_onto sticky_in d z) c.turn-done.ensures.turned c.turn-done.ensures.none ∙ loose_turned c.args.self.now)
