use Rattle.std.proofs.Common.{◌∙◌, ap, subst, sym}
use Rattle.std.specs.Option.{option_copied}
use Rattle.wm_arrange.specs.Choices.{shows_one, KnowsRow}
use Rattle.wm_arrange.proofs.ChoiceLemmas.{free_first}
use Rattle.wm_arrange.proofs.choosing.shows_one_first.Goals as goal

pub returns : goal.returns
returns c = λ known ids none.
    free_first ids known c.args.row.now c.in-Some.part.now (sym c.part.ensures ∙ ap option_copied c.in-Some.is) c.shows_one.result (c.shows_one.ensures ∙ ap shows_one c.row_layout.ensures) c.if-shows_one.false
    (subst (KnowsRow known ids) c.kids.ensures (c.shows_one_in.ensures known ids none))
