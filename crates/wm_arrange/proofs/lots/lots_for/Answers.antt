use Rattle.std.proofs.Common.{refl, true}
use Rattle.wm_base.specs.declared.geometry.Axis.TheVariants.{Across, Down}
use Rattle.wm_base.specs.declared.plan.Layout.TheVariants.{SplitH, SplitV, Tabbed, Stacked}
use Rattle.wm_arrange.proofs.LotLemmas.{below_area, beside_area}
use Rattle.wm_arrange.proofs.lots.lots_for.Goals as goal

pub returns-in-SplitH-clause-among : goal.returns-in-SplitH-clause-among
returns-in-SplitH-clause-among c = λ inner con. rw (c.share_sum-total.ensures.sum, c.in-SplitH.is) (beside_area inner con SplitH c.args.area c.args.kids.now Across (λ i rest. refl) 0 c.args.kids.now refl)

pub returns-in-SplitV-clause-among : goal.returns-in-SplitV-clause-among
returns-in-SplitV-clause-among c = λ inner con. rw (c.share_sum-total.ensures.sum, c.in-SplitV.is) (beside_area inner con SplitV c.args.area c.args.kids.now Down (λ i rest. refl) 0 c.args.kids.now refl)

pub returns-in-Tabbed-clause-among : goal.returns-in-Tabbed-clause-among
returns-in-Tabbed-clause-among c = λ inner con. rw (c.keep_below.ensures.value, c.in-Tabbed.is) (below_area inner con Tabbed c.args.area c.args.kids.now _ (λ i rest. refl) true 0 0 c.args.kids.now)

pub returns-in-Stacked-clause-among : goal.returns-in-Stacked-clause-among
returns-in-Stacked-clause-among c = λ inner con. rw (c.keep_below-in-Stacked.ensures.value, c.count.ensures, c.in-Stacked.is) (below_area inner con Stacked c.args.area c.args.kids.now _ (λ i rest. refl) true 0 0 c.args.kids.now)
