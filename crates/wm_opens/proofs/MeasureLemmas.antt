-- Measures of nodes that the words of a tree keep, and trees that count no more than others by them.
use Rattle.std.proofs.Common.{◌≡◌, ℕ, ◌≤◌, ◌<◌, Bool, true, false, cond, List, [], Option, refl, ap, arith}
use Rattle.std.proofs.lemmas.Bool.Decides.{nat_tests}
use Rattle.wm_base.specs.declared.geometry.Rect.{Rect}
use Rattle.wm_base.specs.declared.ids.ConId.{ConId}
use Rattle.wm_base.specs.declared.plan.Layout.{Layout}
use Rattle.wm_forest.specs.Change.{is_window_kind}
use Rattle.wm_opens.specs.Opens.{is_fill, window_at, windows}
use Rattle.wm_forest.specs.declared.kind.KindEdit.{KindEdit}
use Rattle.wm_forest.specs.declared.kind.KindEdit.TheVariants as edits
use Rattle.wm_forest.specs.declared.part.ConKind.{ConKind}
use Rattle.wm_forest.specs.declared.part.ConKind.TheVariants.{Split, Window, Placeholder}
use Rattle.wm_forest.specs.declared.part.NodeKind.{NodeKind}
use Rattle.wm_forest.specs.declared.part.NodeKind.TheVariants.{Root, Output, Space, Con}
use Rattle.wm_forest.specs.declared.part.Part.{Part}
use Rattle.wm_forest.specs.Change.{nobody, placed, unfull_kind}
use Rattle.wm_forest.specs.Counts.{count, one_con}
use Rattle.wm_forest.specs.Kinds.{changed, laid_out, titled}
use Rattle.wm_forest.specs.Look.{same}
use Rattle.wm_tree.specs.TreeValue.{TreeValue}

-- what changes in place keep of a node, and what the hole of an exchange has none of
pub record IsMeasure (m : Part → ℕ) : Type 0 where
  pub unfulled : (p : Part) → m (record p { kind = unfull_kind p.kind }) ≡ m p
  pub put : (share : ℕ) (rect : Option Rect) (p : Part) → m (record p { kind = placed share rect p.kind }) ≡ m p
  pub remarked : (marks : List (List ℕ)) (p : Part) → m (record p { marks = marks }) ≡ m p
  pub edited : (edit : KindEdit) (p : Part) → is_fill edit ≡ false → m (record p { kind = changed edit p.kind }) ≡ m p
  pub hole : m (record { id = nobody; kind = Root nobody; marks = [] }) ≡ 0

-- new nodes with ids from n on count nothing, unless they are windows
pub record IsFresh (m : Part → ℕ) (n : ℕ) : Type 0 where
  pub nothing : (p : Part) → n ≤ p.id.0 → windows p.kind ≡ 0 → m p ≡ 0

-- the new tree counts no more than the old one
pub record Fewer (m : Part → ℕ) (t new : TreeValue) : Type 0 where
  pub next : t.next_id ≤ new.next_id
  pub fewer : IsFresh m t.next_id → count m new.nodes ≤ count m t.nodes

later : (m : Part → ℕ) (a b : ℕ) → a ≤ b → IsFresh m a → IsFresh m b
later m a b le f = record { nothing = λ p below none. f.nothing p (omega (arith, le, below)) none }

pub fewer_refl : (m : Part → ℕ) (t : TreeValue) → Fewer m t t
fewer_refl m t = record { next = omega arith; fewer = λ f. omega arith }

pub fewer_trans : (m : Part → ℕ) (a b c : TreeValue) → Fewer m a b → Fewer m b c → Fewer m a c
fewer_trans m a b c p q = record {
  next = omega (arith, p.next, q.next);
  fewer = λ f. omega (arith, p.fewer f, q.fewer (later m a.next_id b.next_id p.next f));
}

-- a tree that has the next id of the old one
pub fewer_same : (m : Part → ℕ) (t new : TreeValue) → new.next_id ≡ t.next_id → count m new.nodes ≤ count m t.nodes → Fewer m t new
fewer_same m t new e le = record { next = omega (arith, e); fewer = λ f. le }

-- ---- windows

unfull_windows : (kind : NodeKind) → windows (unfull_kind kind) ≡ windows kind
unfull_windows (Root c) = refl
unfull_windows (Output o) = refl
unfull_windows (Space s) = refl
unfull_windows (Con c) = refl

placed_windows : (share : ℕ) (rect : Option Rect) (kind : NodeKind) → windows (placed share rect kind) ≡ windows kind
placed_windows share rect (Root c) = refl
placed_windows share rect (Output o) = refl
placed_windows share rect (Space s) = refl
placed_windows share rect (Con c) = refl

laid_windows : (l : Layout) (kind : ConKind) → is_window_kind (laid_out l kind) ≡ is_window_kind kind
laid_windows l (Split layout last) = refl
laid_windows l (Window props owner natural) = refl
laid_windows l (Placeholder props swallows) = refl

titled_windows : (t : List ℕ) (kind : ConKind) → is_window_kind (titled t kind) ≡ is_window_kind kind
titled_windows t (Split layout last) = refl
titled_windows t (Window props owner natural) = refl
titled_windows t (Placeholder props swallows) = refl

pub changed_windows : (edit : KindEdit) (kind : NodeKind) → is_fill edit ≡ false → windows (changed edit kind) ≡ windows kind
changed_windows (edits.Layout l) (Con c) h = ap (λ b. cond b 1 0) (laid_windows l c.kind)
changed_windows (edits.Title t) (Con c) h = ap (λ b. cond b 1 0) (titled_windows t c.kind)
changed_windows (edits.Fill props owner natural) kind h = cc
changed_windows other (Root c) h = refl
changed_windows other (Output o) h = refl
changed_windows other (Space s) h = refl
changed_windows other (Con c) h = refl

nothing_by : (b : Bool) (n : ℕ) → n ≡ 0 → cond b n 0 ≡ 0
nothing_by true n e = e
nothing_by false n e = refl

pub windows_measured : (v : ConId) → IsMeasure (window_at v)
windows_measured v = record {
  unfulled = λ p. ap (λ n. cond (same p.id v) n 0) (unfull_windows p.kind);
  put = λ share rect p. ap (λ n. cond (same p.id v) n 0) (placed_windows share rect p.kind);
  remarked = λ marks p. refl;
  edited = λ edit p h. ap (λ n. cond (same p.id v) n 0) (changed_windows edit p.kind h);
  hole = nothing_by (same nobody v) 0 refl;
}

-- a node that is made is no window, whatever its id
pub windows_fresh : (v : ConId) (n : ℕ) → IsFresh (window_at v) n
windows_fresh v n = record { nothing = λ p below none. nothing_by (same p.id v) (windows p.kind) none }

-- ---- what the nodes of an id count by their kinds

abbrev pub kinds_at : (NodeKind → ℕ) → ConId → Part → ℕ
kinds_at w v p = cond (same p.id v) (w p.kind) 0

-- changes in place keep what a kind counts, and the root counts nothing
pub record IsKept (w : NodeKind → ℕ) : Type 0 where
  pub unfulled : (kind : NodeKind) → w (unfull_kind kind) ≡ w kind
  pub put : (share : ℕ) (rect : Option Rect) (kind : NodeKind) → w (placed share rect kind) ≡ w kind
  pub edited : (edit : KindEdit) (kind : NodeKind) → is_fill edit ≡ false → w (changed edit kind) ≡ w kind
  pub root : (c : ConId) → w (Root c) ≡ 0

pub kinds_measured : (w : NodeKind → ℕ) (v : ConId) → IsKept w → IsMeasure (kinds_at w v)
kinds_measured w v k = record {
  unfulled = λ p. ap (λ n. cond (same p.id v) n 0) (k.unfulled p.kind);
  put = λ share rect p. ap (λ n. cond (same p.id v) n 0) (k.put share rect p.kind);
  remarked = λ marks p. refl;
  edited = λ edit p h. ap (λ n. cond (same p.id v) n 0) (k.edited edit p.kind h);
  hole = nothing_by (same nobody v) (w (Root nobody)) (k.root nobody);
}

-- new nodes have other ids than those that were given
pub kinds_fresh : (w : NodeKind → ℕ) (v : ConId) (n : ℕ) → v.0 < n → IsFresh (kinds_at w v) n
kinds_fresh w v n old = record { nothing = λ p below none. let other : same p.id v ≡ false = apart p.id v (omega (arith, old, below)) in ap (λ b. cond b (w p.kind) 0) other }
  where
    apart : (a b : ConId) → b.0 < a.0 → same a b ≡ false
    apart a b less = grind (arith, nat_tests)

-- a container that is no window, and a workspace, count one
abbrev pub others : NodeKind → ℕ
others (Root c) = 0
others (Output o) = 0
others (Space s) = 1
others (Con c) = cond (is_window_kind c.kind) 0 1

unfull_others : (kind : NodeKind) → others (unfull_kind kind) ≡ others kind
unfull_others (Root c) = refl
unfull_others (Output o) = refl
unfull_others (Space s) = refl
unfull_others (Con c) = refl

placed_others : (share : ℕ) (rect : Option Rect) (kind : NodeKind) → others (placed share rect kind) ≡ others kind
placed_others share rect (Root c) = refl
placed_others share rect (Output o) = refl
placed_others share rect (Space s) = refl
placed_others share rect (Con c) = refl

changed_others : (edit : KindEdit) (kind : NodeKind) → is_fill edit ≡ false → others (changed edit kind) ≡ others kind
changed_others (edits.Layout l) (Con c) h = ap (λ b. cond {A = ℕ} b 0 1) (laid_windows l c.kind)
changed_others (edits.Title t) (Con c) h = ap (λ b. cond {A = ℕ} b 0 1) (titled_windows t c.kind)
changed_others (edits.Fill props owner natural) kind h = cc
changed_others other (Root c) h = refl
changed_others other (Output o) h = refl
changed_others other (Space s) h = refl
changed_others other (Con c) h = refl

pub others_kept : IsKept others
others_kept = record { unfulled = unfull_others; put = placed_others; edited = changed_others; root = λ c. refl }

unfull_cons : (kind : NodeKind) → one_con (unfull_kind kind) ≡ one_con kind
unfull_cons (Root c) = refl
unfull_cons (Output o) = refl
unfull_cons (Space s) = refl
unfull_cons (Con c) = refl

placed_cons : (share : ℕ) (rect : Option Rect) (kind : NodeKind) → one_con (placed share rect kind) ≡ one_con kind
placed_cons share rect (Root c) = refl
placed_cons share rect (Output o) = refl
placed_cons share rect (Space s) = refl
placed_cons share rect (Con c) = refl

changed_cons : (edit : KindEdit) (kind : NodeKind) → is_fill edit ≡ false → one_con (changed edit kind) ≡ one_con kind
changed_cons (edits.Fill props owner natural) kind h = cc
changed_cons other (Root c) h = refl
changed_cons other (Output o) h = refl
changed_cons other (Space s) h = refl
changed_cons other (Con c) h = refl

pub cons_kept : IsKept one_con
cons_kept = record { unfulled = unfull_cons; put = placed_cons; edited = changed_cons; root = λ c. refl }
