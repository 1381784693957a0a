-- A new workspace leaves the containers as they are.
use Rattle.std.proofs.Common.{◌≡◌, ◌≢◌, ℕ, ◌<◌, Bool, true, false, cond, ◌||◌, List, None, refl, ap, sym, ◌∙◌, arith}
use Rattle.std.proofs.lemmas.Bool.Decides.{nat_tests}
use Rattle.wm_base.specs.declared.ids.ConId.{ConId}
use Rattle.wm_forest.proofs.ChangeLemmas.{by_change}
use Rattle.wm_forest.proofs.ForestLemmas.{only_absent}
use Rattle.wm_tree.proofs.IdLemmas.{given_id}
use Rattle.wm_forest.specs.declared.part.Part.{Part}
use Rattle.wm_forest.specs.declared.place.Place.TheVariants.{Last}
use Rattle.wm_forest.specs.Change.{append, at}
use Rattle.wm_forest.specs.Forest.{Forest, end, con}
use Rattle.wm_forest.specs.Look.{con_kind, first_part, has, kind_by, kind_of, only, same}
use Rattle.wm_tree.specs.Outputs.{new_space, with_space}
use Rattle.wm_forest.specs.Place.{put_word}
use Rattle.wm_tree.specs.Sound.{IsSound}
use Rattle.wm_tree.specs.TreeValue.{TreeValue}
use Rattle.wm_forest.specs.RootId.{id}

module _ (i o : ConId) (row : Forest) (other : has i row ≡ false) where
  has_append : (kids : Forest) → has i (append kids row) ≡ has i kids
  has_append end = other
  has_append (con part ks ls rs) = ap (λ z. same part.id i || has i ks || has i ls || z) (has_append rs)

  part_append : (kids : Forest) → first_part (only i (append kids row)) ≡ first_part (only i kids)
  part_append end = ap first_part (only_absent i row other)
  part_append (con part ks ls rs) = step (same part.id i) (has i ks) (has i ls) (part_append rs)
    where
      step : (a k l : Bool) → first_part (only i (append rs row)) ≡ first_part (only i rs)
          → first_part (cond a (con part ks ls end) (cond k (only i ks) (cond l (only i ls) (only i (append rs row))))) ≡ first_part (cond a (con part ks ls end) (cond k (only i ks) (cond l (only i ls) (only i rs))))
      step true k l e = refl
      step false true l e = refl
      step false false true e = refl
      step false false false e = e

  -- the node i is as it was
  abbrev As : Forest → Forest → Type 0
  As old new = (has i new ≡ has i old) × (first_part (only i new) ≡ first_part (only i old))

  as_kids : (part : Part) (kids floats rest new : Forest) → As kids new → As (con part kids floats rest) (con part new floats rest)
  as_kids part kids floats rest new e = (rw e.0 refl, step (same part.id i))
    where
      step : (a : Bool) → first_part (cond a (con part new floats end) (cond (has i new) (only i new) (cond (has i floats) (only i floats) (only i rest))))
          ≡ first_part (cond a (con part kids floats end) (cond (has i kids) (only i kids) (cond (has i floats) (only i floats) (only i rest))))
      step true = refl
      step false = rw e.0 (choose (has i kids))
        where
          choose : (b : Bool) → first_part (cond b (only i new) (cond (has i floats) (only i floats) (only i rest))) ≡ first_part (cond b (only i kids) (cond (has i floats) (only i floats) (only i rest)))
          choose true = e.1
          choose false = refl

  as_floats : (part : Part) (kids floats rest new : Forest) → As floats new → As (con part kids floats rest) (con part kids new rest)
  as_floats part kids floats rest new e = (rw e.0 refl, step (same part.id i) (has i kids))
    where
      step : (a k : Bool) → first_part (cond a (con part kids new end) (cond k (only i kids) (cond (has i new) (only i new) (only i rest))))
          ≡ first_part (cond a (con part kids floats end) (cond k (only i kids) (cond (has i floats) (only i floats) (only i rest))))
      step true k = refl
      step false true = refl
      step false false = rw e.0 (choose (has i floats))
        where
          choose : (b : Bool) → first_part (cond b (only i new) (only i rest)) ≡ first_part (cond b (only i floats) (only i rest))
          choose true = e.1
          choose false = refl

  as_rest : (part : Part) (kids floats rest new : Forest) → As rest new → As (con part kids floats rest) (con part kids floats new)
  as_rest part kids floats rest new e = (rw e.0 refl, step (same part.id i) (has i kids) (has i floats))
    where
      step : (a k l : Bool) → first_part (cond a (con part kids floats end) (cond k (only i kids) (cond l (only i floats) (only i new))))
          ≡ first_part (cond a (con part kids floats end) (cond k (only i kids) (cond l (only i floats) (only i rest))))
      step true k l = refl
      step false true l = refl
      step false false true = refl
      step false false false = e.1

  as_put : (forest : Forest) → As forest (at o (put_word (Last o)) row forest)
  as_put =
      by_change o (put_word (Last o)) row (λ old new found. As old new) (refl, refl)
      (λ part kids floats rest. as_kids part kids floats rest (append kids row) (has_append kids, part_append kids))
      (λ part kids floats rest new found e. as_kids part kids floats rest new e)
      (λ part kids floats rest new found e. as_floats part kids floats rest new e)
      (λ part kids floats rest new found e. as_rest part kids floats rest new e)

above : (n : ℕ) (v : ConId) → v.0 < n → same (id n) v ≡ false
above n v below = grind (arith, nat_tests)

-- a container is still one beside a new workspace
pub con_kept : (c o : ConId) (n : List ℕ) (t new : TreeValue) → new ≡ with_space o n t → IsSound t → has c t.nodes ≡ true → kind_of con_kind c t.nodes ≢ None → kind_of con_kind c new.nodes ≢ None
con_kept c o n t new e s there ok =
    let other : has c (new_space (id t.next_id) n t) ≡ false = rw (above t.next_id c (given_id c t s there)) refl in
    let kept = (as_put c o (new_space (id t.next_id) n t) other t.nodes).1 in
    rw e (λ none. ok (ap (λ q. kind_by con_kind q) (sym kept) ∙ none))
