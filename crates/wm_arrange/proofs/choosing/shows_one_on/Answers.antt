use Rattle.std.proofs.Common.{◌∙◌, ap, subst, sym}
use Rattle.std.specs.Option.{option_copied}
use Rattle.wm_forest.specs.Look.{output_kind}
use Rattle.wm_arrange.specs.Choices.{KnowsOutput, KnowsOutputs}
use Rattle.wm_arrange.proofs.ChoiceLemmas.{free_outputs, outputs_end}
use Rattle.wm_arrange.proofs.choosing.shows_one_on.Goals as goal

pub loop-part-preserved : goal.loop-part-preserved
loop-part-preserved c = λ known ids more.
    c.loop-part.invariant known ids
    (free_outputs ids known c.loop-part.left c.in-Some.part.now (sym c.part.ensures ∙ ap option_copied c.in-Some.is)
    (subst (KnowsOutput known ids (output_kind c.in-Some.part.now.kind)) c.kids.ensures (c.shows_one_under.ensures known ids c.if-shows_one_under.false))
    (subst (KnowsOutputs known ids) c.rest-left.ensures more))

pub returns : goal.returns
returns c = λ known ids none. c.loop-part.invariant known ids (outputs_end ids known c.loop-part.left (sym c.part.ensures ∙ ap option_copied c.in_default.is))
