use Rattle.std.proofs.Common.{◌∙◌, ap}
use Rattle.std.proofs.lemmas.Result.{on_ok_weaker}
use Rattle.wm_arrange.specs.Choices.{shows_one}
use Rattle.wm_arrange.specs.Maps.{value_at}
use Rattle.wm_arrange.proofs.ChoiceLemmas.{kept_put}
use Rattle.wm_arrange.proofs.choosing.keep.Goals as goal

pub returns-in-Some : goal.returns-in-Some
returns-in-Some c = λ v.
    on_ok_weaker c.put.result
    (λ put. put ∙ kept_put v c.args.part.now c.args.near c.in-Some.near c.shows_one.result (value_at c.args.chosen.now v) c.in-Some.is (c.shows_one.ensures ∙ ap shows_one c.row_layout.ensures) c.if-shows_one.true)
    (c.put.ensures v)
