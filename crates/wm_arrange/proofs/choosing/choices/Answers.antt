use Rattle.std.proofs.Common.{◌∙◌, ap, subst}
use Rattle.wm_forest.specs.Look.{first_kids}
use Rattle.wm_arrange.specs.Choices.{KnowsOutputs}
use Rattle.wm_arrange.specs.Maps.{value_at}
use Rattle.wm_arrange.proofs.choosing.choices.Goals as goal

pub returns : goal.returns
returns c =
    subst (KnowsOutputs (value_at c.new.result) c.args.tree.now.recency) (c.kids.ensures ∙ ap first_kids c.nodes.ensures)
    (c.shows_one_on.ensures (value_at c.new.result) c.args.tree.now.recency c.if-shows_one_on.false)
