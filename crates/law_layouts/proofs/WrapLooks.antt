-- What is seen of a container in the new split round it, and of that split.
use Rattle.std.proofs.Common.{◌≡◌, ℕ, Bool, true, false, cond, ◌||◌, Option, None, Some, refl}
use Rattle.std.specs.Prelude.{option_and_then}
use Rattle.wm_base.specs.declared.ids.ConId.{ConId}
use Rattle.wm_base.specs.declared.plan.Border.{Border}
use Rattle.wm_base.specs.declared.plan.Layout.{Layout}
use Rattle.wm_forest.proofs.LookLemmas.{none_of_four}
use Rattle.wm_forest.proofs.RecencyLemmas.{same_self}
use Rattle.wm_forest.specs.Change.{at}
use Rattle.wm_forest.specs.declared.kind.KindEdit.TheVariants as edits
use Rattle.wm_forest.specs.declared.part.NodeKind.{NodeKind}
use Rattle.wm_forest.specs.declared.part.NodeKind.TheVariants.{Root, Output, Space, Con}
use Rattle.wm_forest.specs.declared.part.Part.{Part}
use Rattle.wm_forest.specs.declared.place.NewCon.TheVariants as new
use Rattle.wm_forest.specs.declared.spot.Spot.{Spot}
use Rattle.wm_forest.specs.Forest.{Forest, end, con}
use Rattle.wm_forest.specs.Kinds.{changed}
use Rattle.wm_forest.specs.Look.{first_part, has, only, same}
use Rattle.wm_forest.specs.Place.{new_part}
use Rattle.wm_forest.specs.Spot.{space_by, spot_below, spot_in, spot_of}
use Rattle.wm_tree.specs.Move.{wrap_word}
use Rattle.wm_tree.specs.TreeValue.{is_tiled_spot}

abbrev pub held : Option Spot → Option ConId
held o = option_and_then (λ (s : Spot). s.holder) o

abbrev pub spaced : Option Spot → Option ConId
spaced o = option_and_then (λ (s : Spot). s.space) o

-- how the container stands: held by the new split, tiled, in its workspace
pub record Inside (n : ConId) (old new : Option Spot) : Type 0 where
  pub holder : held new ≡ Some n
  pub tiled : is_tiled_spot new ≡ true
  pub space : spaced new ≡ spaced old

module _ (c n : ConId) (share : ℕ) (border : Border) (layout : Layout) (other : same n c ≡ false) where
  abbrev split : Part
  split = new_part n share border None (new.Split layout)

  abbrev wrap : Forest → Forest
  wrap f = at c wrap_word (new_part n share border None (new.Split layout)) f

  or_in : (a k l r : Bool) → k ≡ true → (a || k || l || r) ≡ true
  or_in true k l r h = refl
  or_in false true l r h = refl
  or_in false false l r h = cc

  or_over : (a k l r : Bool) → l ≡ true → (a || k || l || r) ≡ true
  or_over true k l r h = refl
  or_over false true l r h = refl
  or_over false false true r h = refl
  or_over false false false r h = cc

  or_behind : (a k l r : Bool) → r ≡ true → (a || k || l || r) ≡ true
  or_behind true k l r h = refl
  or_behind false true l r h = refl
  or_behind false false true r h = refl
  or_behind false false false r h = h

  own_there : (part : Part) (kids floats : Forest) → same part.id c ≡ true → has c (con (record part { kind = changed (edits.Share 65536) part.kind }) kids floats end) ≡ true
  own_there part kids floats e = rw e refl

  -- the container is there still
  pub old_there : (f : Forest) → has c f ≡ true → has c (wrap f) ≡ true
  old_there end h = cc
  old_there (con part kids floats rest) h = step (same part.id c) (has c kids) (has c floats) refl refl refl h (old_there kids) (old_there floats) (old_there rest)
    where
      step : (a k l : Bool) → same part.id c ≡ a → has c kids ≡ k → has c floats ≡ l → (a || k || l || has c rest) ≡ true → (k ≡ true → has c (wrap kids) ≡ true) → (l ≡ true → has c (wrap floats) ≡ true) → (has c rest ≡ true → has c (wrap rest) ≡ true)
          → has c (cond a (wrap_word split part kids floats rest) (cond k (con part (wrap kids) floats rest) (cond l (con part kids (wrap floats) rest) (con part kids floats (wrap rest))))) ≡ true
      step true k l ea ek el h u v w = or_in (same n c) (has c (con (record part { kind = changed (edits.Share 65536) part.kind }) kids floats end)) false (has c rest) (own_there part kids floats ea)
      step false true l ea ek el h u v w = or_in (same part.id c) (has c (wrap kids)) (has c floats) (has c rest) (u refl)
      step false false true ea ek el h u v w = or_over (same part.id c) (has c kids) (has c (wrap floats)) (has c rest) (v refl)
      step false false false ea ek el h u v w = or_behind (same part.id c) (has c kids) (has c floats) (has c (wrap rest)) (w h)

  -- so is the new split
  pub new_there : (f : Forest) → has c f ≡ true → has n (wrap f) ≡ true
  new_there end h = cc
  new_there (con part kids floats rest) h = step (same part.id c) (has c kids) (has c floats) h (new_there kids) (new_there floats) (new_there rest)
    where
      step : (a k l : Bool) → (a || k || l || has c rest) ≡ true → (k ≡ true → has n (wrap kids) ≡ true) → (l ≡ true → has n (wrap floats) ≡ true) → (has c rest ≡ true → has n (wrap rest) ≡ true)
          → has n (cond a (wrap_word split part kids floats rest) (cond k (con part (wrap kids) floats rest) (cond l (con part kids (wrap floats) rest) (con part kids floats (wrap rest))))) ≡ true
      step true k l h u v w = rw (same_self n n refl) refl
      step false true l h u v w = or_in (same part.id n) (has n (wrap kids)) (has n floats) (has n rest) (u refl)
      step false false true h u v w = or_over (same part.id n) (has n kids) (has n (wrap floats)) (has n rest) (v refl)
      step false false false h u v w = or_behind (same part.id n) (has n kids) (has n floats) (has n (wrap rest)) (w h)

  -- the new split is found
  pub new_found : (f : Forest) → has c f ≡ true → has n f ≡ false → first_part (only n (wrap f)) ≡ Some split
  new_found end h fresh = cc
  new_found (con part kids floats rest) h fresh = step (same part.id c) (has c kids) (has c floats) refl refl h (new_found kids) (new_found floats) (new_found rest)
    where
      none : (same part.id n ≡ false) × (has n kids ≡ false) × (has n floats ≡ false) × (has n rest ≡ false)
      none = none_of_four (same part.id n) (has n kids) (has n floats) (has n rest) fresh

      step : (a k l : Bool) → has c kids ≡ k → has c floats ≡ l → (a || k || l || has c rest) ≡ true → (k ≡ true → has n kids ≡ false → first_part (only n (wrap kids)) ≡ Some split) → (l ≡ true → has n floats ≡ false → first_part (only n (wrap floats)) ≡ Some split)
          → (has c rest ≡ true → has n rest ≡ false → first_part (only n (wrap rest)) ≡ Some split)
          → first_part (only n (cond a (wrap_word split part kids floats rest) (cond k (con part (wrap kids) floats rest) (cond l (con part kids (wrap floats) rest) (con part kids floats (wrap rest)))))) ≡ Some split
      step true k l ek el h u v w = rw (same_self n n refl) refl
      step false true l ek el h u v w = rw (none.0, new_there kids ek) (u refl none.1)
      step false false true ek el h u v w = rw (none.0, none.1, new_there floats el) (v refl none.2)
      step false false false ek el h u v w = rw (none.0, none.1, none.2) (w h none.3)

  -- what is seen of the container, where its share is not seen
  module _ {A : Type 0} (m : Option Part → A) (e : (p : Part) → m (Some (record p { kind = changed (edits.Share 65536) p.kind })) ≡ m (Some p)) where
    pub old_seen : (f : Forest) → has c f ≡ true → m (first_part (only c (wrap f))) ≡ m (first_part (only c f))
    old_seen end h = cc
    old_seen (con part kids floats rest) h = step (same part.id c) (has c kids) (has c floats) refl refl refl h (old_seen kids) (old_seen floats) (old_seen rest)
      where
        step : (a k l : Bool) → same part.id c ≡ a → has c kids ≡ k → has c floats ≡ l → (a || k || l || has c rest) ≡ true
            → (k ≡ true → m (first_part (only c (wrap kids))) ≡ m (first_part (only c kids))) → (l ≡ true → m (first_part (only c (wrap floats))) ≡ m (first_part (only c floats)))
            → (has c rest ≡ true → m (first_part (only c (wrap rest))) ≡ m (first_part (only c rest)))
            → m (first_part (only c (cond a (wrap_word split part kids floats rest) (cond k (con part (wrap kids) floats rest) (cond l (con part kids (wrap floats) rest) (con part kids floats (wrap rest)))))))
            ≡ m (first_part (cond a (con part kids floats end) (cond k (only c kids) (cond l (only c floats) (only c rest)))))
        step true k l ea ek el h u v w = rw (other, ea) (e part)
        step false true l ea ek el h u v w = rw (ea, old_there kids ek) (u refl)
        step false false true ea ek el h u v w = rw (ea, ek, old_there floats el) (v refl)
        step false false false ea ek el h u v w = rw (ea, ek, el) (w h)

  same_space : (w : Option ConId) (id : ConId) (k : NodeKind) → space_by w id (changed (edits.Share 65536) k) ≡ space_by w id k
  same_space w id (Root d) = refl
  same_space w id (Output o) = refl
  same_space w id (Space x) = refl
  same_space w id (Con d) = refl

  -- where the container stands
  pub old_spot : (s : Spot) (f : Forest) → has c f ≡ true → Inside n (spot_in s c f) (spot_in s c (wrap f))
  old_spot s end h = cc
  old_spot s (con part kids floats rest) h = step (same part.id c) (has c kids) (has c floats) refl refl refl h (old_spot (spot_below true s part) kids) (old_spot (spot_below false s part) floats) (old_spot s rest)
    where
      step : (a k l : Bool) → same part.id c ≡ a → has c kids ≡ k → has c floats ≡ l → (a || k || l || has c rest) ≡ true
          → (k ≡ true → Inside n (spot_in (spot_below true s part) c kids) (spot_in (spot_below true s part) c (wrap kids))) → (l ≡ true → Inside n (spot_in (spot_below false s part) c floats) (spot_in (spot_below false s part) c (wrap floats)))
          → (has c rest ≡ true → Inside n (spot_in s c rest) (spot_in s c (wrap rest)))
          → Inside n (cond a (Some (spot_of s part)) (cond k (spot_in (spot_below true s part) c kids) (cond l (spot_in (spot_below false s part) c floats) (spot_in s c rest))))
          (spot_in s c (cond a (wrap_word split part kids floats rest) (cond k (con part (wrap kids) floats rest) (cond l (con part kids (wrap floats) rest) (con part kids floats (wrap rest))))))
      step true k l ea ek el h u v w = record { holder = rw (other, ea) refl; tiled = rw (other, ea) refl; space = rw (other, ea) (same_space s.space part.id part.kind) }
      step false true l ea ek el h u v w = let r = u refl in rw (ea, old_there kids ek) r
      step false false true ea ek el h u v w = let r = v refl in rw (ea, ek, old_there floats el) r
      step false false false ea ek el h u v w = let r = w h in rw (ea, ek, el) r
