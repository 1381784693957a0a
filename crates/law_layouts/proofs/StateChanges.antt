-- The tree with another state of one container, and two such changes one after the other.
use Rattle.std.proofs.Common.{◌≡◌, Bool, true, false, ◌&&◌, not, Option, None, Some, refl, ap, sym, ◌∙◌}
use Rattle.std.specs.Option.{option_map}
use Rattle.std.specs.Prelude.{option_and_then}
use Rattle.law_layouts.proofs.NodeChanges.{SameSort, as_kinded, kinded, kinded_alike, kinded_none, kinded_twice, seen_kinded, spot_kinded}
use Rattle.wm_base.specs.declared.ids.ConId.{ConId}
use Rattle.wm_floats.specs.Windows.{restated, state_of}
use Rattle.wm_forest.specs.Change.{at}
use Rattle.wm_forest.specs.declared.kind.KindEdit.TheVariants as edits
use Rattle.wm_forest.specs.declared.part.ConPart.{ConPart}
use Rattle.wm_forest.specs.declared.part.ConState.{ConState}
use Rattle.wm_forest.specs.declared.part.NodeKind.{NodeKind}
use Rattle.wm_forest.specs.declared.part.NodeKind.TheVariants.{Root, Output, Space, Con}
use Rattle.wm_forest.specs.declared.spot.Spot.{Spot}
use Rattle.wm_forest.specs.Forest.{Forest}
use Rattle.wm_forest.specs.Kinds.{changed}
use Rattle.wm_forest.specs.Look.{con_kind, first_part, kind_by, kind_of, only}
use Rattle.wm_forest.specs.Spot.{spot_in, top}
use Rattle.wm_tree.specs.TreeValue.{TreeValue, is_con, is_tiled_con, is_tiled_spot, workspace_of}

-- ---- the tree with another state of a container

-- a container with another state
abbrev pub stated : (ConState → ConState) → NodeKind → NodeKind
stated f (Root c) = Root c
stated f (Output o) = Output o
stated f (Space s) = Space s
stated f (Con d) = Con (record d { state = f d.state })

abbrev pub with_state : (ConState → ConState) → ConId → TreeValue → TreeValue
with_state f c t = record t { nodes = at c kinded (stated f) t.nodes }

same_nodes : (t : TreeValue) (f g : Forest) → f ≡ g → record t { nodes = f } ≡ record t { nodes = g }
same_nodes t f g e = ap (λ z. record t { nodes = z }) e

stated_is : (f : ConState → ConState) (d : ConPart) (k : NodeKind) → con_kind k ≡ Some d → changed (edits.State (f d.state)) k ≡ stated f k
stated_is f d (Root c) e = cc
stated_is f d (Output o) e = cc
stated_is f d (Space s) e = cc
stated_is f d (Con x) e = let one : d ≡ x = cc in ap (λ (z : ConPart). Con (record x { state = f z.state })) one

stated_none : (f : ConState → ConState) (k : NodeKind) → con_kind k ≡ None → stated f k ≡ k
stated_none f (Root c) e = refl
stated_none f (Output o) e = refl
stated_none f (Space s) e = refl
stated_none f (Con x) e = cc

-- a change of the state, by what the state is
state_changed : (f : ConState → ConState) (c : ConId) (t : TreeValue) (o : Option ConPart) → kind_of con_kind c t.nodes ≡ o
    → restated c (option_map f (option_map (λ (p : ConPart). p.state) o)) t ≡ with_state f c t
state_changed f c t None e =
    sym (same_nodes t (at c kinded (stated f) t.nodes) t.nodes (kinded_alike c (stated f) (λ k. k) t.nodes (λ p h. stated_none f p.kind (ap (kind_by con_kind) (sym h) ∙ e)) ∙ kinded_none c t.nodes))
state_changed f c t (Some d) e =
    ap (λ z. record t { nodes = z }) (as_kinded c (edits.State (f d.state)) t.nodes ∙ kinded_alike c (changed (edits.State (f d.state))) (stated f) t.nodes (λ p h. stated_is f d p.kind (ap (kind_by con_kind) (sym h) ∙ e)))

pub restated_is : (f : ConState → ConState) (c : ConId) (t : TreeValue) → restated c (option_map f (state_of c t)) t ≡ with_state f c t
restated_is f c t = state_changed f c t (kind_of con_kind c t.nodes) refl

-- where it is known
pub state_alike : (f g : ConState → ConState) (c : ConId) (s : ConState) (t : TreeValue) → state_of c t ≡ Some s → f s ≡ g s → with_state f c t ≡ with_state g c t
state_alike f g c s t e h = ap (λ z. record t { nodes = z }) (kinded_alike c (stated f) (stated g) t.nodes (λ p q. by p.kind (ap (λ o. option_map (λ (x : ConPart). x.state) (kind_by con_kind o)) (sym q) ∙ e)))
  where
    by : (k : NodeKind) → option_map (λ (x : ConPart). x.state) (con_kind k) ≡ Some s → stated f k ≡ stated g k
    by (Root d) q = refl
    by (Output o) q = refl
    by (Space w) q = refl
    by (Con d) q = let one : d.state ≡ s = cc in ap (λ z. Con (record d { state = z })) (ap f one ∙ (h ∙ ap g (sym one)))

-- at every state
pub state_all : (f g : ConState → ConState) (c : ConId) (t : TreeValue) → ((s : ConState) → f s ≡ g s) → with_state f c t ≡ with_state g c t
state_all f g c t h = ap (λ z. record t { nodes = z }) (kinded_alike c (stated f) (stated g) t.nodes (λ p q. by p.kind))
  where
    by : (k : NodeKind) → stated f k ≡ stated g k
    by (Root d) = refl
    by (Output o) = refl
    by (Space w) = refl
    by (Con d) = ap (λ z. Con (record d { state = z })) (h d.state)

pub state_same : (c : ConId) (t : TreeValue) → with_state (λ s. s) c t ≡ t
state_same c t = ap (λ z. record t { nodes = z }) (kinded_alike c (stated (λ s. s)) (λ k. k) t.nodes (λ p q. by p.kind) ∙ kinded_none c t.nodes)
  where
    by : (k : NodeKind) → stated (λ s. s) k ≡ k
    by (Root d) = refl
    by (Output o) = refl
    by (Space w) = refl
    by (Con d) = refl

pub state_twice : (f g : ConState → ConState) (c : ConId) (t : TreeValue) → with_state f c (with_state g c t) ≡ with_state (λ s. f (g s)) c t
state_twice f g c t = ap (λ z. record t { nodes = z }) (kinded_twice c (stated f) (stated g) t.nodes ∙ kinded_alike c (λ k. stated f (stated g k)) (stated (λ s. f (g s))) t.nodes (λ p q. by p.kind))
  where
    by : (k : NodeKind) → stated f (stated g k) ≡ stated (λ s. f (g s)) k
    by (Root d) = refl
    by (Output o) = refl
    by (Space w) = refl
    by (Con d) = refl

-- a property of the state that is switched
pub flipped : (is : Option ConState → Bool) (set : Bool → ConState → ConState) (c : ConId) (t : TreeValue) → restated c (option_map (set (not (is (state_of c t)))) (state_of c t)) t ≡ with_state (λ s. set (not (is (Some s))) s) c t
flipped is set c t = by (state_of c t) refl
  where
    by : (o : Option ConState) → state_of c t ≡ o → restated c (option_map (set (not (is o))) o) t ≡ with_state (λ s. set (not (is (Some s))) s) c t
    by None e = ap (λ o. restated c (option_map (λ s. set (not (is (Some s))) s) o) t) (sym e) ∙ restated_is (λ s. set (not (is (Some s))) s) c t
    by (Some s) e =
        ap (λ o. restated c (option_map (set (not (is (Some s)))) o) t) (sym e) ∙ (restated_is (set (not (is (Some s)))) c t ∙ state_alike (set (not (is (Some s)))) (λ z. set (not (is (Some z))) z) c s t e refl)

pub not_not : (b : Bool) → not (not b) ≡ b
not_not true = refl
not_not false = refl

-- each node is in the workspace in which it was, and tiled if it was
stated_sort : (f : ConState → ConState) (k : NodeKind) → SameSort k (stated f k)
stated_sort f (Root d) = record { spaces = refl; cons = refl; space = λ w id. refl; holder = λ b id. refl; room = λ n. refl }
stated_sort f (Output o) = record { spaces = refl; cons = refl; space = λ w id. refl; holder = λ b id. refl; room = λ n. refl }
stated_sort f (Space s) = record { spaces = refl; cons = refl; space = λ w id. refl; holder = λ b id. refl; room = λ n. refl }
stated_sort f (Con d) = record { spaces = refl; cons = refl; space = λ w id. refl; holder = λ b id. refl; room = λ n. refl }

pub workspace_kept : (f : ConState → ConState) (c x : ConId) (t : TreeValue) → workspace_of (with_state f c t) x ≡ workspace_of t x
workspace_kept f c x t = ap (λ o. option_and_then (λ (s : Spot). s.space) o) (spot_kinded c x (stated f) (stated_sort f) top t.nodes)

pub tiled_kept : (f : ConState → ConState) (c : ConId) (t : TreeValue) → is_tiled_con (with_state f c t) c ≡ is_tiled_con t c
tiled_kept f c t =
    ap (λ z. z && is_tiled_spot (spot_in top c (with_state f c t).nodes)) (seen_kinded c c (stated f) is_con (λ p. (stated_sort f p.kind).cons) t.nodes)
    ∙ ap (λ z. is_con (first_part (only c t.nodes)) && is_tiled_spot z) (spot_kinded c c (stated f) (stated_sort f) top t.nodes)
