-- What holds a tiled container is a workspace or a split.
use Rattle.std.proofs.Common.{◌≡◌, ◌≢◌, ℕ, Bool, true, false, cond, ◌&&◌, ◌||◌, ◌⊎◌, inl, inr, List, Option, None, Some, refl, sym, ◌∙◌}
use Rattle.std.specs.Prelude.{option_and_then}
use Rattle.wm_base.specs.declared.ids.ConId.{ConId}
use Rattle.wm_forest.proofs.RecencyLemmas.{same_self}
use Rattle.wm_forest.specs.declared.part.ConKind.{ConKind}
use Rattle.wm_forest.specs.declared.part.ConKind.TheVariants.{Split, Window, Placeholder}
use Rattle.wm_forest.specs.declared.part.NodeKind.{NodeKind}
use Rattle.wm_forest.specs.declared.part.NodeKind.TheVariants.{Root, Output, Space, Con}
use Rattle.wm_forest.specs.declared.part.Part.{Part}
use Rattle.wm_forest.specs.declared.spot.Spot.{Spot}
use Rattle.wm_forest.specs.Forest.{Forest, end, con}
use Rattle.wm_forest.specs.Look.{con_kind, first_part, has, in_row, kind_by, only, same}
use Rattle.wm_forest.specs.Place.{IsSplit, TakesFirst, TakesKids, is_tiled}
use Rattle.wm_forest.specs.SoundRow.{HasKids, IsNode, IsSoundRow, Level, below, containers, outputs, roots, spaces}
use Rattle.wm_forest.specs.Spot.{holder_by, spot_below, spot_in, spot_of, top}
use Rattle.wm_shared.proofs.DownLemmas.{Once, down_floats, down_kids, down_rest, once_floats, once_kids, once_rest}
use Rattle.wm_tree.specs.Sound.{IsSound}
use Rattle.wm_tree.specs.TreeValue.{TreeValue, is_con, is_con_kind, is_tiled_con, is_tiled_spot, parent}

abbrev held : Option Spot → Option ConId
held o = option_and_then (λ (s : Spot). s.holder) o

-- a container of the row itself, which is a tiled one
record InRow (c : ConId) (l : Level) (s : Spot) (f : Forest) : Type 0 where
  here : in_row c f ≡ true
  level : l ≡ containers
  tiled : s.tiled ≡ true
  holder : held (spot_in s c f) ≡ s.holder

-- one further below, with what holds it
record Below (c : ConId) (s : Spot) (f : Forest) : Type 0 where
  by : ConId
  holder : held (spot_in s c f) ≡ Some by
  takes : TakesFirst (first_part (only by f))

takes_there : (h : ConId) (f : Forest) → TakesFirst (first_part (only h f)) → has h f ≡ true
takes_there h end k = absurd k
takes_there h (con part kids floats rest) k = step (same part.id h) (has h kids) (has h floats) k (takes_there h rest)
  where
    step : (a m l : Bool) → TakesFirst (first_part (cond a (con part kids floats end) (cond m (only h kids) (cond l (only h floats) (only h rest))))) → (TakesFirst (first_part (only h rest)) → has h rest ≡ true) → (a || m || l || has h rest) ≡ true
    step true m l k u = refl
    step false true l k u = refl
    step false false true k u = refl
    step false false false k u = u k

some_row : (c : ConId) (kids : Forest) → in_row c kids ≡ true → kids ≡ end → ⊥
some_row c end h e = cc
some_row c (con part kids floats rest) h e = cc

split_with : (c : ConId) (kids : Forest) → in_row c kids ≡ true → (kind : ConKind) → HasKids kind kids → IsSplit kind
split_with c kids h (Split layout last) k = tt
split_with c kids h (Window props owner natural) k = absurd (some_row c kids h k)
split_with c kids h (Placeholder props swallows) k = absurd (some_row c kids h k)

takes_row : (c : ConId) (kids : Forest) → in_row c kids ≡ true → (l : Level) → below l ≡ containers → (tiled : Bool) (room : ℕ) (id : ConId) (kind : NodeKind) (marks : List (List ℕ)) → IsNode l tiled room id kind marks kids → TakesKids kind
takes_row c kids h roots e tiled room id kind marks n = cc
takes_row c kids h outputs e tiled room id kind marks n = cc
takes_row c kids h spaces e tiled room id (Root d) marks n = absurd n
takes_row c kids h spaces e tiled room id (Output o) marks n = absurd n
takes_row c kids h spaces e tiled room id (Space w) marks n = tt
takes_row c kids h spaces e tiled room id (Con d) marks n = absurd n
takes_row c kids h containers e tiled room id (Root d) marks n = absurd n
takes_row c kids h containers e tiled room id (Output o) marks n = absurd n
takes_row c kids h containers e tiled room id (Space w) marks n = absurd n
takes_row c kids h containers e tiled room id (Con d) marks n = split_with c kids h d.kind n.3

con_level : (l : Level) (tiled : Bool) (room : ℕ) (id : ConId) (kind : NodeKind) (marks : List (List ℕ)) (kids : Forest) → IsNode l tiled room id kind marks kids → con_kind kind ≢ None → l ≡ containers
con_level l tiled room id (Root d) marks kids n ok = absurd (ok refl)
con_level l tiled room id (Output o) marks kids n ok = absurd (ok refl)
con_level l tiled room id (Space w) marks kids n ok = absurd (ok refl)
con_level roots tiled room id (Con d) marks kids n ok = absurd n
con_level outputs tiled room id (Con d) marks kids n ok = absurd n
con_level spaces tiled room id (Con d) marks kids n ok = absurd n
con_level containers tiled room id (Con d) marks kids n ok = refl

holds_true : (id : ConId) (kind : NodeKind) → holder_by true id kind ≡ Some id
holds_true id (Root d) = refl
holds_true id (Output o) = refl
holds_true id (Space w) = refl
holds_true id (Con d) = refl

holder_in : (c : ConId) (l : Level) (s : Spot) (f : Forest) → IsSoundRow l s.tiled s.room f → Once f → kind_by con_kind (first_part (only c f)) ≢ None → is_tiled (spot_in s c f) ≡ true → InRow c l s f ⊎ Below c s f
holder_in c l s end p once ok h = absurd (ok refl)
holder_in c l s (con part kids floats rest) p once ok h =
    step (same part.id c) (has c kids) (has c floats) refl refl refl ok h
    (holder_in c (below l) (spot_below true s part) kids p.2 (once_kids part kids floats rest once)) (holder_in c containers (spot_below false s part) floats p.3 (once_floats part kids floats rest once)) (holder_in c l s rest p.4 (once_rest part kids floats rest once))
  where
    node : Forest
    node = con part kids floats rest

    step : (a k m : Bool) → same part.id c ≡ a → has c kids ≡ k → has c floats ≡ m
        → kind_by con_kind (first_part (cond a (con part kids floats end) (cond k (only c kids) (cond m (only c floats) (only c rest))))) ≢ None
        → is_tiled (cond a (Some (spot_of s part)) (cond k (spot_in (spot_below true s part) c kids) (cond m (spot_in (spot_below false s part) c floats) (spot_in s c rest)))) ≡ true
        → (kind_by con_kind (first_part (only c kids)) ≢ None → is_tiled (spot_in (spot_below true s part) c kids) ≡ true → InRow c (below l) (spot_below true s part) kids ⊎ Below c (spot_below true s part) kids)
        → (kind_by con_kind (first_part (only c floats)) ≢ None → is_tiled (spot_in (spot_below false s part) c floats) ≡ true → InRow c containers (spot_below false s part) floats ⊎ Below c (spot_below false s part) floats)
        → (kind_by con_kind (first_part (only c rest)) ≢ None → is_tiled (spot_in s c rest) ≡ true → InRow c l s rest ⊎ Below c s rest) → InRow c l s node ⊎ Below c s node
    step true k m ea ek em ok h u v w = inl (record { here = rw ea refl; level = con_level l s.tiled s.room part.id part.kind part.marks kids p.0 ok; tiled = h; holder = rw ea refl })
    step false true m ea ek em ok h u v w = by (u ok h)
      where
        by : InRow c (below l) (spot_below true s part) kids ⊎ Below c (spot_below true s part) kids → InRow c l s node ⊎ Below c s node
        by (inl r) =
            inr (record { by = part.id; holder = rw (ea, ek) (r.holder ∙ holds_true part.id part.kind); takes = rw (same_self part.id part.id refl) (takes_row c kids r.here l r.level s.tiled s.room part.id part.kind part.marks p.0) })
        by (inr b) = inr (record { by = b.by; holder = rw (ea, ek) b.holder; takes = rw (down_kids part kids floats rest once b.by (takes_there b.by kids b.takes)) b.takes })
    step false false true ea ek em ok h u v w = by (v ok h)
      where
        by : InRow c containers (spot_below false s part) floats ⊎ Below c (spot_below false s part) floats → InRow c l s node ⊎ Below c s node
        by (inl r) = let t = r.tiled in cc
        by (inr b) = inr (record { by = b.by; holder = rw (ea, ek, em) b.holder; takes = rw (down_floats part kids floats rest once b.by (takes_there b.by floats b.takes)) b.takes })
    step false false false ea ek em ok h u v w = by (w ok h)
      where
        by : InRow c l s rest ⊎ Below c s rest → InRow c l s node ⊎ Below c s node
        by (inl r) = inl (record { here = rw ea r.here; level = r.level; tiled = r.tiled; holder = rw (ea, ek, em) r.holder })
        by (inr b) = inr (record { by = b.by; holder = rw (ea, ek, em) b.holder; takes = rw (down_rest part kids floats rest once b.by (takes_there b.by rest b.takes)) b.takes })

-- the parent of a tiled container
pub record Parent (c : ConId) (t : TreeValue) : Type 0 where
  pub by : ConId
  pub is : parent t c ≡ Some by
  pub takes : TakesFirst (first_part (only by t.nodes))

both : (a b : Bool) → (a && b) ≡ true → (a ≡ true) × (b ≡ true)
both true b h = (refl, h)
both false b h = cc

con_first : (o : Option Part) → is_con o ≡ true → kind_by con_kind o ≢ None
con_first None h = cc
con_first (Some part) h = by part.kind h
  where
    by : (k : NodeKind) → is_con_kind k ≡ true → con_kind k ≢ None
    by (Root d) h = cc
    by (Output o) h = cc
    by (Space w) h = cc
    by (Con d) h = λ e. cc

tiled_spot : (o : Option Spot) → is_tiled_spot o ≡ is_tiled o
tiled_spot None = refl
tiled_spot (Some s) = refl

pub parent_of : (c : ConId) (t : TreeValue) → IsSound t → is_tiled_con t c ≡ true → Parent c t
parent_of c t s h =
    let two = both (is_con (first_part (only c t.nodes))) (is_tiled_spot (spot_in top c t.nodes)) h in
    by (holder_in c roots top t.nodes s.shaped s.once (con_first (first_part (only c t.nodes)) two.0) (sym (tiled_spot (spot_in top c t.nodes)) ∙ two.1))
  where
    by : InRow c roots top t.nodes ⊎ Below c top t.nodes → Parent c t
    by (inl r) = let e = r.level in cc
    by (inr b) = record { by = b.by; is = b.holder; takes = b.takes }
