-- How often an id is among the ids after a change of the list.
use Rattle.std.proofs.Common.{◌≡◌, ◌+◌, Bool, true, false, cond, ◌||◌, List, [], ◌∷◌, ◌++◌, filter, refl, ap, sym, ◌∙◌, arith}
use Rattle.wm_base.specs.declared.ids.ConId.{ConId}
use Rattle.wm_forest.specs.Look.{same}
use Rattle.wm_forest.specs.Recency.{lists, raised, removed}
use Rattle.wm_forest.specs.SoundRow.{times}
use Rattle.wm_forest.proofs.RecencyLemmas.{same_is}

pub times-append : (c : ConId) (xs ys : List ConId) → times c (xs ++ ys) ≡ times c xs + times c ys
times-append c [] ys = omega arith
times-append c (x ∷ xs) ys = omega (arith, times-append c xs ys)

kept_step : (p : ConId → Bool) (c id : ConId) (ids : List ConId) (b s : Bool) → p id ≡ b → same id c ≡ s → p c ≡ true → times c (filter p ids) ≡ times c ids
    → times c (cond b (id ∷ filter p ids) (filter p ids)) ≡ cond s 1 0 + times c ids
kept_step p c id ids true s e f h ih = rw f (omega (arith, ih))
kept_step p c id ids false true e f h ih =
    let bad : true ≡ false = sym h ∙ (ap p (sym (same_is id c f)) ∙ e) in
    cc
kept_step p c id ids false false e f h ih = omega (arith, ih)

-- an id that a filter lets through is there as often as before
pub times-kept : (p : ConId → Bool) (c : ConId) (ids : List ConId) → p c ≡ true → times c (filter p ids) ≡ times c ids
times-kept p c [] h = refl
times-kept p c (id ∷ ids) h = kept_step p c id ids (p id) (same id c) refl refl h (times-kept p c ids h)

dropped_step : (p : ConId → Bool) (c id : ConId) (ids : List ConId) (b s : Bool) → p id ≡ b → same id c ≡ s → p c ≡ false → times c (filter p ids) ≡ 0
    → times c (cond b (id ∷ filter p ids) (filter p ids)) ≡ 0
dropped_step p c id ids true true e f h ih =
    let bad : true ≡ false = sym e ∙ (ap p (same_is id c f) ∙ h) in
    cc
dropped_step p c id ids true false e f h ih = rw f (omega (arith, ih))
dropped_step p c id ids false s e f h ih = ih

-- one that it takes out is not there
pub times-dropped : (p : ConId → Bool) (c : ConId) (ids : List ConId) → p c ≡ false → times c (filter p ids) ≡ 0
times-dropped p c [] h = refl
times-dropped p c (id ∷ ids) h = dropped_step p c id ids (p id) (same id c) refl refl h (times-dropped p c ids h)

removed_step : (c i id : ConId) (ids : List ConId) (s : Bool) → same id i ≡ s → (lists i ids ≡ true → cond (same i c) 1 0 + times c (removed i ids) ≡ times c ids) → (s || lists i ids) ≡ true
    → cond (same i c) 1 0 + times c (cond s ids (id ∷ removed i ids)) ≡ cond (same id c) 1 0 + times c ids
removed_step c i id ids true e ih h = ap (λ (z : ConId). cond (same z c) 1 0 + times c ids) (sym (same_is id i e))
removed_step c i id ids false e ih h = omega (arith, ih h)

times-removed : (c i : ConId) (ids : List ConId) → lists i ids ≡ true → cond (same i c) 1 0 + times c (removed i ids) ≡ times c ids
times-removed c i [] h = cc
times-removed c i (id ∷ ids) h = removed_step c i id ids (same id i) refl (times-removed c i ids) h

-- raising keeps how often each id is there
pub times-raised : (c i : ConId) (ids : List ConId) → times c (raised i ids) ≡ times c ids
times-raised c i ids = by_test (lists i ids) refl
  where
    by_test : (b : Bool) → lists i ids ≡ b → times c (cond b (i ∷ removed i ids) ids) ≡ times c ids
    by_test true e = times-removed c i ids e
    by_test false e = refl
