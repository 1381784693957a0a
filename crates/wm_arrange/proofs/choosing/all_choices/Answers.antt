use Rattle.std.proofs.Common.{◌∙◌}
use Rattle.wm_arrange.proofs.ChoiceLemmas.{all_known}
use Rattle.wm_arrange.proofs.choosing.all_choices.Goals as goal

pub returns : goal.returns
returns c =
    all_known c.in_ok-recency.recency.ids c.args.tree.now.recency c.choose.new.chosen c.new-chosen.result c.args.row (λ v. c.in_ok-choose.ensures.chosen v (c.requires v)) c.new-chosen.ensures.empty
    (c.in_ok-recency.ensures.ids ∙ c.recent_ids.ensures) c.requires
