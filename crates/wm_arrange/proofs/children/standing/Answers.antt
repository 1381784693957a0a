use Rattle.std.proofs.Common.{◌∙◌, ap, refl, true}
use Rattle.wm_base.specs.declared.geometry.Axis.TheVariants.{Across, Down}
use Rattle.wm_arrange.proofs.RowLemmas.{alone_is, beside_is}
use Rattle.wm_arrange.specs.Choices.{shows_one}
use Rattle.wm_arrange.specs.Scene.{seen}
use Rattle.wm_arrange.proofs.children.standing.Goals as goal

pub returns-in-SplitH-clause-parts : goal.returns-in-SplitH-clause-parts
returns-in-SplitH-clause-parts c = rw (c.share_sum-total.ensures.sum, c.in-SplitH.is) (beside_is (seen c.args.scene.now) Across c.args.area c.args.kids.now 0 c.args.kids.now refl)

pub returns-in-SplitV-clause-parts : goal.returns-in-SplitV-clause-parts
returns-in-SplitV-clause-parts c = rw (c.share_sum-total.ensures.sum, c.in-SplitV.is) (beside_is (seen c.args.scene.now) Down c.args.area c.args.kids.now 0 c.args.kids.now refl)

pub returns-in-Tabbed-clause-parts : goal.returns-in-Tabbed-clause-parts
returns-in-Tabbed-clause-parts c = rw (c.below.ensures.value, c.copied.ensures ∙ (c.get.ensures ∙ c.requires.known.0 (ap shows_one c.in-Tabbed.is)), c.in-Tabbed.is) (alone_is (seen c.args.scene.now) _ _ true 0 0 c.args.kids.now)

pub returns-in-Stacked-clause-parts : goal.returns-in-Stacked-clause-parts
returns-in-Stacked-clause-parts c = rw (c.below-in-Stacked.ensures.value, c.count.ensures, c.copied-in-Stacked.ensures ∙ (c.get-in-Stacked.ensures ∙ c.requires.known.0 (ap shows_one c.in-Stacked.is)), c.in-Stacked.is) (alone_is (seen c.args.scene.now) _ _ true 0 0 c.args.kids.now)
