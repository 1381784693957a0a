-- Changes of the kind of one node: where all stands after them, and two of them at the same node.
use Rattle.std.proofs.Common.{◌≡◌, ℕ, Bool, true, false, cond, Option, Some, refl, ap, ◌∙◌}
use Rattle.std.specs.Prelude.{is_some}
use Rattle.wm_base.specs.declared.ids.ConId.{ConId}
use Rattle.wm_forest.proofs.ForestLemmas.{at_same}
use Rattle.wm_forest.specs.Change.{at}
use Rattle.wm_forest.specs.declared.kind.KindEdit.{KindEdit}
use Rattle.wm_forest.specs.declared.part.NodeKind.{NodeKind}
use Rattle.wm_forest.specs.declared.part.Part.{Part}
use Rattle.wm_forest.specs.declared.spot.Spot.{Spot}
use Rattle.wm_forest.specs.Forest.{Forest, end, con}
use Rattle.wm_forest.specs.Kinds.{changed, kind_changed}
use Rattle.wm_forest.specs.Look.{first_part, has, only, same, space_kind}
use Rattle.wm_forest.specs.Spot.{holder_by, room_below, space_by, spot_below, spot_in, spot_of}
use Rattle.wm_tree.specs.TreeValue.{is_con_kind}

-- a node with another kind
abbrev pub kinded : (NodeKind → NodeKind) → Part → Forest → Forest → Forest → Forest
kinded g part kids floats rest = con (record part { kind = g part.kind }) kids floats rest

-- an edit is such a change
pub as_kinded : (c : ConId) (e : KindEdit) (f : Forest) → at c kind_changed e f ≡ at c kinded (changed e) f
as_kinded c e f = at_same c kind_changed e kinded (changed e) f (λ part kids floats rest. refl)

module _ (c : ConId) where
  -- each node is there as before
  pub has_kinded : (x : ConId) (g : NodeKind → NodeKind) (f : Forest) → has x (at c kinded g f) ≡ has x f
  has_kinded x g end = refl
  has_kinded x g (con part kids floats rest) = step (same part.id c) (has c kids) (has c floats) (has_kinded x g kids) (has_kinded x g floats) (has_kinded x g rest)
    where
      step : (a k l : Bool) → has x (at c kinded g kids) ≡ has x kids → has x (at c kinded g floats) ≡ has x floats → has x (at c kinded g rest) ≡ has x rest
          → has x (cond a (kinded g part kids floats rest) (cond k (con part (at c kinded g kids) floats rest) (cond l (con part kids (at c kinded g floats) rest) (con part kids floats (at c kinded g rest))))) ≡ has x (con part kids floats rest)
      step true k l u v w = refl
      step false true l u v w = rw u refl
      step false false true u v w = rw v refl
      step false false false u v w = rw w refl

  -- two changes that do the same to the node
  pub kinded_alike : (g h : NodeKind → NodeKind) (f : Forest) → ((p : Part) → first_part (only c f) ≡ Some p → g p.kind ≡ h p.kind) → at c kinded g f ≡ at c kinded h f
  kinded_alike g h end e = refl
  kinded_alike g h (con part kids floats rest) e = step (same part.id c) (has c kids) (has c floats) e (kinded_alike g h kids) (kinded_alike g h floats) (kinded_alike g h rest)
    where
      Alike : Forest → Type 0
      Alike z = (p : Part) → first_part z ≡ Some p → g p.kind ≡ h p.kind

      step : (a k l : Bool) → Alike (cond a (con part kids floats end) (cond k (only c kids) (cond l (only c floats) (only c rest))))
          → (Alike (only c kids) → at c kinded g kids ≡ at c kinded h kids) → (Alike (only c floats) → at c kinded g floats ≡ at c kinded h floats) → (Alike (only c rest) → at c kinded g rest ≡ at c kinded h rest)
          → cond a (kinded g part kids floats rest) (cond k (con part (at c kinded g kids) floats rest) (cond l (con part kids (at c kinded g floats) rest) (con part kids floats (at c kinded g rest))))
          ≡ cond a (kinded h part kids floats rest) (cond k (con part (at c kinded h kids) floats rest) (cond l (con part kids (at c kinded h floats) rest) (con part kids floats (at c kinded h rest))))
      step true k l e u v w = ap (λ (z : NodeKind). con (record part { kind = z }) kids floats rest) (e part refl)
      step false true l e u v w = ap (λ z. con part z floats rest) (u e)
      step false false true e u v w = ap (λ z. con part kids z rest) (v e)
      step false false false e u v w = ap (λ z. con part kids floats z) (w e)

  -- no change
  pub kinded_none : (f : Forest) → at c kinded (λ k. k) f ≡ f
  kinded_none end = refl
  kinded_none (con part kids floats rest) = step (same part.id c) (has c kids) (has c floats) (kinded_none kids) (kinded_none floats) (kinded_none rest)
    where
      step : (a k l : Bool) → at c kinded (λ k. k) kids ≡ kids → at c kinded (λ k. k) floats ≡ floats → at c kinded (λ k. k) rest ≡ rest
          → cond a (con part kids floats rest) (cond k (con part (at c kinded (λ k. k) kids) floats rest) (cond l (con part kids (at c kinded (λ k. k) floats) rest) (con part kids floats (at c kinded (λ k. k) rest)))) ≡ con part kids floats rest
      step true k l u v w = refl
      step false true l u v w = ap (λ z. con part z floats rest) u
      step false false true u v w = ap (λ z. con part kids z rest) v
      step false false false u v w = ap (λ z. con part kids floats z) w

  -- one change behind another
  pub kinded_twice : (g h : NodeKind → NodeKind) (f : Forest) → at c kinded g (at c kinded h f) ≡ at c kinded (λ k. g (h k)) f
  kinded_twice g h end = refl
  kinded_twice g h (con part kids floats rest) = step (same part.id c) (has c kids) (has c floats) refl refl refl (kinded_twice g h kids) (kinded_twice g h floats) (kinded_twice g h rest)
    where
      both : NodeKind → NodeKind
      both k = g (h k)

      step : (a k l : Bool) → same part.id c ≡ a → has c kids ≡ k → has c floats ≡ l → at c kinded g (at c kinded h kids) ≡ at c kinded (λ k. g (h k)) kids
          → at c kinded g (at c kinded h floats) ≡ at c kinded (λ k. g (h k)) floats → at c kinded g (at c kinded h rest) ≡ at c kinded (λ k. g (h k)) rest
          → at c kinded g (cond a (kinded h part kids floats rest) (cond k (con part (at c kinded h kids) floats rest) (cond l (con part kids (at c kinded h floats) rest) (con part kids floats (at c kinded h rest)))))
          ≡ cond a (kinded (λ k. g (h k)) part kids floats rest) (cond k (con part (at c kinded (λ k. g (h k)) kids) floats rest) (cond l (con part kids (at c kinded (λ k. g (h k)) floats) rest) (con part kids floats (at c kinded (λ k. g (h k)) rest))))
      step true k l ea ek el u v w = rw ea refl
      step false true l ea ek el u v w = rw (ea, has_kinded c h kids, ek, u) refl
      step false false true ea ek el u v w = rw (ea, ek, has_kinded c h floats, el, v) refl
      step false false false ea ek el u v w = rw (ea, ek, el, w) refl

  -- the node itself
  pub part_kinded : (g : NodeKind → NodeKind) (p : Part) (f : Forest) → first_part (only c f) ≡ Some p → first_part (only c (at c kinded g f)) ≡ Some (record p { kind = g p.kind })
  part_kinded g p end e = cc
  part_kinded g p (con part kids floats rest) e = step (same part.id c) (has c kids) (has c floats) refl refl refl e (part_kinded g p kids) (part_kinded g p floats) (part_kinded g p rest)
    where
      step : (a k l : Bool) → same part.id c ≡ a → has c kids ≡ k → has c floats ≡ l → first_part (cond a (con part kids floats end) (cond k (only c kids) (cond l (only c floats) (only c rest)))) ≡ Some p
          → (first_part (only c kids) ≡ Some p → first_part (only c (at c kinded g kids)) ≡ Some (record p { kind = g p.kind })) → (first_part (only c floats) ≡ Some p → first_part (only c (at c kinded g floats)) ≡ Some (record p { kind = g p.kind }))
          → (first_part (only c rest) ≡ Some p → first_part (only c (at c kinded g rest)) ≡ Some (record p { kind = g p.kind }))
          → first_part (only c (cond a (kinded g part kids floats rest) (cond k (con part (at c kinded g kids) floats rest) (cond l (con part kids (at c kinded g floats) rest) (con part kids floats (at c kinded g rest)))))) ≡ Some (record p { kind = g p.kind })
      step true k l ea ek el e u v w = let one : part ≡ p = cc in rw ea (ap (λ (z : Part). Some (record z { kind = g z.kind })) one)
      step false true l ea ek el e u v w = rw (ea, has_kinded c g kids, ek) (u e)
      step false false true ea ek el e u v w = rw (ea, ek, has_kinded c g floats, el) (v e)
      step false false false ea ek el e u v w = rw (ea, ek, el) (w e)

  -- what is seen of a node, where the change is not seen
  module _ {A : Type 0} (x : ConId) (g : NodeKind → NodeKind) (m : Option Part → A) (e : (p : Part) → m (Some (record p { kind = g p.kind })) ≡ m (Some p)) where
    pub seen_kinded : (f : Forest) → m (first_part (only x (at c kinded g f))) ≡ m (first_part (only x f))
    seen_kinded end = refl
    seen_kinded (con part kids floats rest) = step (same part.id c) (has c kids) (has c floats) (seen_kinded kids) (seen_kinded floats) (seen_kinded rest)
      where
        own : (b : Bool) (others : Forest) → m (first_part (cond b (kinded g part kids floats end) others)) ≡ m (first_part (cond b (con part kids floats end) others))
        own true others = e part
        own false others = refl

        in_kids : (a k : Bool) → m (first_part (only x (at c kinded g kids))) ≡ m (first_part (only x kids))
            → m (first_part (cond a (con part (at c kinded g kids) floats end) (cond k (only x (at c kinded g kids)) (cond (has x floats) (only x floats) (only x rest)))))
            ≡ m (first_part (cond a (con part kids floats end) (cond k (only x kids) (cond (has x floats) (only x floats) (only x rest)))))
        in_kids true k u = refl
        in_kids false true u = u
        in_kids false false u = refl

        in_floats : (a k l : Bool) → m (first_part (only x (at c kinded g floats))) ≡ m (first_part (only x floats))
            → m (first_part (cond a (con part kids (at c kinded g floats) end) (cond k (only x kids) (cond l (only x (at c kinded g floats)) (only x rest)))))
            ≡ m (first_part (cond a (con part kids floats end) (cond k (only x kids) (cond l (only x floats) (only x rest)))))
        in_floats true k l u = refl
        in_floats false true l u = refl
        in_floats false false true u = u
        in_floats false false false u = refl

        behind : (a k l : Bool) → m (first_part (only x (at c kinded g rest))) ≡ m (first_part (only x rest))
            → m (first_part (cond a (con part kids floats end) (cond k (only x kids) (cond l (only x floats) (only x (at c kinded g rest))))))
            ≡ m (first_part (cond a (con part kids floats end) (cond k (only x kids) (cond l (only x floats) (only x rest)))))
        behind true k l u = refl
        behind false true l u = refl
        behind false false true u = refl
        behind false false false u = u

        step : (a k l : Bool) → m (first_part (only x (at c kinded g kids))) ≡ m (first_part (only x kids)) → m (first_part (only x (at c kinded g floats))) ≡ m (first_part (only x floats)) → m (first_part (only x (at c kinded g rest))) ≡ m (first_part (only x rest))
            → m (first_part (only x (cond a (kinded g part kids floats rest) (cond k (con part (at c kinded g kids) floats rest) (cond l (con part kids (at c kinded g floats) rest) (con part kids floats (at c kinded g rest)))))))
            ≡ m (first_part (only x (con part kids floats rest)))
        step true k l u v w = own (same part.id x) (cond (has x kids) (only x kids) (cond (has x floats) (only x floats) (only x rest)))
        step false true l u v w = rw (has_kinded x g kids) (in_kids (same part.id x) (has x kids) u)
        step false false true u v w = rw (has_kinded x g floats) (in_floats (same part.id x) (has x kids) (has x floats) v)
        step false false false u v w = behind (same part.id x) (has x kids) (has x floats) w

-- a node with another kind of the same sort, for those below it and beside it
pub record SameSort (old new : NodeKind) : Type 0 where
  pub spaces : is_some (space_kind new) ≡ is_some (space_kind old)
  pub cons : is_con_kind new ≡ is_con_kind old
  pub space : (w : Option ConId) (id : ConId) → space_by w id new ≡ space_by w id old
  pub holder : (tiled : Bool) (id : ConId) → holder_by tiled id new ≡ holder_by tiled id old
  pub room : (n : ℕ) → room_below n new ≡ room_below n old

-- each node stands where it stood
module _ (c x : ConId) (g : NodeKind → NodeKind) (e : (k : NodeKind) → SameSort k (g k)) where
  own_spot : (s : Spot) (part : Part) → spot_of s (record part { kind = g part.kind }) ≡ spot_of s part
  own_spot s part = ap (λ z. record s { space = z }) ((e part.kind).space s.space part.id)

  below_spot : (b : Bool) (s : Spot) (part : Part) → spot_below b s (record part { kind = g part.kind }) ≡ spot_below b s part
  below_spot b s part = rw ((e part.kind).space s.space part.id, (e part.kind).holder b part.id, (e part.kind).room s.room) refl

  pub spot_kinded : (s : Spot) (f : Forest) → spot_in s x (at c kinded g f) ≡ spot_in s x f
  spot_kinded s end = refl
  spot_kinded s (con part kids floats rest) = step (same part.id c) (has c kids) (has c floats) (spot_kinded (spot_below true s part) kids) (spot_kinded (spot_below false s part) floats) (spot_kinded s rest)
    where
      step : (a k l : Bool) → spot_in (spot_below true s part) x (at c kinded g kids) ≡ spot_in (spot_below true s part) x kids
          → spot_in (spot_below false s part) x (at c kinded g floats) ≡ spot_in (spot_below false s part) x floats → spot_in s x (at c kinded g rest) ≡ spot_in s x rest
          → spot_in s x (cond a (kinded g part kids floats rest) (cond k (con part (at c kinded g kids) floats rest) (cond l (con part kids (at c kinded g floats) rest) (con part kids floats (at c kinded g rest))))) ≡ spot_in s x (con part kids floats rest)
      step true k l u v w =
          ap (λ z. cond (same part.id x) (Some z) (cond (has x kids) (spot_in (spot_below true s (record part { kind = g part.kind })) x kids) (cond (has x floats) (spot_in (spot_below false s (record part { kind = g part.kind })) x floats) (spot_in s x rest)))) (own_spot s part)
          ∙ (ap (λ z. cond (same part.id x) (Some (spot_of s part)) (cond (has x kids) (spot_in z x kids) (cond (has x floats) (spot_in (spot_below false s (record part { kind = g part.kind })) x floats) (spot_in s x rest)))) (below_spot true s part)
          ∙ ap (λ z. cond (same part.id x) (Some (spot_of s part)) (cond (has x kids) (spot_in (spot_below true s part) x kids) (cond (has x floats) (spot_in z x floats) (spot_in s x rest)))) (below_spot false s part))
      step false true l u v w = rw (has_kinded c x g kids, u) refl
      step false false true u v w = rw (has_kinded c x g floats, v) refl
      step false false false u v w = rw w refl
