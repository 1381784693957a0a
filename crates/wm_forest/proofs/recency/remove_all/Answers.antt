use Rattle.std.proofs.Common.{rules}
use Rattle.std.proofs.lemmas.Fn.{filter_same}
use Rattle.wm_forest.proofs.recency.remove_all.Goals as goal

pub returns-then-not-is_end : goal.returns-then-not-is_end
returns-then-not-is_end c = filter_same _ _ _ (λ x b f r. search rules) _ _ c.retain.ensures.filtered
