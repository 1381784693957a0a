use Rattle.wm_ids.proofs.MapLemmas.{none_at_all, ordered}
use Rattle.wm_ids.proofs.map.IdMap.new.Goals as goal

pub returns-clause-empty : goal.returns-clause-empty
returns-clause-empty g c = none_at_all c.with_hasher.result c.with_hasher.ensures.empty

pub returns-clause-ordered : goal.returns-clause-ordered
returns-clause-ordered g c = ordered c.with_hasher.result
