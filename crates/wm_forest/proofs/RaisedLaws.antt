-- Raising an id puts it first and keeps the order of the others.
use Rattle.std.proofs.Common.{◌≡◌, Bool, true, false, cond, List, [], ◌∷◌, Some, slice_get, refl, ap}
use Rattle.wm_base.specs.declared.ids.ConId.{ConId}
use Rattle.wm_forest.specs.Look.{same}
use Rattle.wm_forest.specs.Recency.{lists, raised, removed, without_id}
use Rattle.wm_forest.proofs.RecencyLemmas.{same_self}

others_step : (c id : ConId) (ids : List ConId) (b : Bool) → same id c ≡ b → without_id c (removed c ids) ≡ without_id c ids → without_id c (cond b ids (id ∷ removed c ids)) ≡ without_id c (id ∷ ids)
others_step c id ids true e h = rw e refl
others_step c id ids false e h = rw e (ap (λ z. id ∷ z) h)

others_removed : (c : ConId) (ids : List ConId) → without_id c (removed c ids) ≡ without_id c ids
others_removed c [] = refl
others_removed c (id ∷ ids) = others_step c id ids (same id c) refl (others_removed c ids)

-- raising an id keeps the order of the others
pub raised_others : (c : ConId) (ids : List ConId) → without_id c (raised c ids) ≡ without_id c ids
raised_others c ids = by_test (lists c ids)
  where
    by_test : (b : Bool) → without_id c (cond b (c ∷ removed c ids) ids) ≡ without_id c ids
    by_test true = rw (same_self c c refl) (others_removed c ids)
    by_test false = refl

pub raised_first : (c : ConId) (ids : List ConId) → lists c ids ≡ true → slice_get (raised c ids) 0 ≡ Some c
raised_first c ids h = rw h refl

-- ---- of ids that are what raising makes

pub first_by : (c : ConId) (old new : List ConId) → new ≡ raised c old → lists c old ≡ true → slice_get new 0 ≡ Some c
first_by c old new e h = rw e (raised_first c old h)

pub others_by : (c : ConId) (old new : List ConId) → new ≡ raised c old → without_id c new ≡ without_id c old
others_by c old new e = rw e (raised_others c old)
