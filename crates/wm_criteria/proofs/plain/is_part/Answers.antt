use Rattle.std.proofs.Common.{◌∙◌, sym}
use Rattle.wm_criteria.specs.Plain.{characters}
use Rattle.wm_criteria.proofs.PlainLemmas.{part-here}
use Rattle.wm_criteria.proofs.plain.is_part.Goals as goal

pub returns : goal.returns
returns c = sym (part-here (characters c.args.body.now) c.loop-rest.rest.now (sym c.stands.ensures ∙ c.loop-rest-test.false)) ∙ c.loop-rest.invariant
