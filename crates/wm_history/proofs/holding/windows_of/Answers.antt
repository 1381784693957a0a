use Rattle.std.proofs.Common.{ltb, ◌||◌, ap, ap₂, ◌∙◌}
use Rattle.wm_opens.specs.Opens.{window_at}
use Rattle.wm_forest.specs.Counts.{count}
use Rattle.wm_history.specs.Windows.{holds}
use Rattle.wm_history.proofs.OpenLemmas.{seen_there}
use Rattle.wm_history.proofs.holding.windows_of.Goals as goal

-- the map was empty
pub returns : goal.returns
returns c = λ v.
    c.in_ok-gather.ensures v
    ∙ (ap₂ (λ f b. ltb 0 (count (window_at v) f) || b) c.nodes.ensures (ap (λ m. holds m v) c.new-ids.ensures.empty) ∙ seen_there v c.args.tree.now c.requires)
