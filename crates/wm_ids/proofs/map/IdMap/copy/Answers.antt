use Rattle.std.proofs.Common.{◌∙◌}
use Rattle.std.proofs.lemmas.Map.Entries.{entries_from_clone}
use Rattle.wm_ids.proofs.MapLemmas.{unchanged}
use Rattle.wm_ids.proofs.map.IdMap.copy.Goals as goal

pub returns : goal.returns
returns g c = λ equal.
    unchanged c.self.inside.values c.in_ok-values.values (entries_from_clone _ _ (λ x y is. is) equal c.self.inside.values.entries c.in_ok-values.values.entries c.in_ok-values.ensures.cases) ∙ c.self.view_is
