-- What is kept of urgent ids: each is known by recency, is no other node than a window, and was given; and no container has floating windows.
use Rattle.std.proofs.Common.{◌≡◌, ℕ, ◌+◌, ◌≤◌, ◌<◌, Bool, true, false, cond, ◌||◌, leb, List, [], ◌∷◌, refl, ap, ◌∙◌, arith}
use Rattle.std.proofs.lemmas.Bool.Decides.{nat_tests}
use Rattle.wm_base.specs.declared.ids.ConId.{ConId}
use Rattle.law_marks.specs.Urgent.{UrgentAreWindows}
use Rattle.wm_forest.specs.Change.{is_window_kind}
use Rattle.wm_opens.proofs.KeptLemmas.{Kept}
use Rattle.wm_opens.proofs.MeasureLemmas.{kinds_at, kinds_fresh, kinds_measured, others, others_kept}
use Rattle.wm_opens.proofs.OpenLemmas.{windows_seen}
use Rattle.wm_opens.specs.Opens.{IsTidy, is_window_of, window_at, windows, windows_at}
use Rattle.wm_forest.specs.Counts.{count}
use Rattle.wm_forest.specs.declared.part.NodeKind.{NodeKind}
use Rattle.wm_forest.specs.declared.part.NodeKind.TheVariants.{Root, Output, Space, Con}
use Rattle.wm_forest.specs.Forest.{Forest, end, con}
use Rattle.wm_forest.specs.Look.{same}
use Rattle.wm_forest.specs.Recency.{lists}
use Rattle.wm_forest.specs.SoundRow.{ranked, ranks, tally, times}
use Rattle.wm_tree.specs.Sound.{IsSound}
use Rattle.wm_tree.specs.TreeValue.{TreeValue}

-- the id is known by recency, was given, and is that of no workspace, split or placeholder
pub record IsKnown (v : ConId) (t : TreeValue) : Type 0 where
  pub known : 1 ≤ times v t.recency
  pub window : count (kinds_at others v) t.nodes ≡ 0
  pub given : v.0 < t.next_id

pub record Urgents (t : TreeValue) : Type 0 where
  pub each : (v : ConId) → 1 ≤ times v t.urgent → IsKnown v t
  pub once : (v : ConId) → times v t.urgent ≤ 1
  pub tidy : IsTidy t.nodes

-- ---- steps

-- nothing else becomes urgent, and what is urgent stays known
pub keep : (t new : TreeValue) → (IsTidy t.nodes → IsTidy new.nodes) → ((v : ConId) → times v new.urgent ≤ times v t.urgent) → ((v : ConId) → 1 ≤ times v new.urgent → IsKnown v t → IsKnown v new) → Urgents t → Urgents new
keep t new tidy less known p = record {
  each = λ v h. known v h (p.each v (omega (arith, h, less v)));
  once = λ v. omega (arith, less v, p.once v);
  tidy = tidy p.tidy;
}

-- no measure rises, and the id is known as before
pub kept_known : (t new : TreeValue) → Kept t new → (v : ConId) → times v t.recency ≤ times v new.recency → IsKnown v t → IsKnown v new
kept_known t new k v more i = record {
  known = omega (arith, more, i.known);
  window = omega (arith, (k.fewer (kinds_at others v) (kinds_measured others v others_kept)).fewer (kinds_fresh others v t.next_id i.given), i.window);
  given = omega (arith, k.next, i.given);
}

-- a step that leaves the urgent ones as they are
pub same_urgent : (t new : TreeValue) → Kept t new → (IsTidy t.nodes → IsTidy new.nodes) → new.urgent ≡ t.urgent → ((v : ConId) → times v t.recency ≤ times v new.recency) → Urgents t → Urgents new
same_urgent t new k tidy e more p = keep t new tidy (λ v. omega (arith, ap (times v) e)) (λ v h i. kept_known t new k v (more v) i) p

-- and the order of recency
pub same_lists : (t new : TreeValue) → Kept t new → (IsTidy t.nodes → IsTidy new.nodes) → new.urgent ≡ t.urgent → new.recency ≡ t.recency → Urgents t → Urgents new
same_lists t new k tidy e f p = same_urgent t new k tidy e (λ v. omega (arith, ap (times v) f)) p

-- ---- as it is said of sound trees

pub listed : (v : ConId) (ids : List ConId) → 1 ≤ times v ids → lists v ids ≡ true
listed v [] h = absurd (omega (arith, h))
listed v (id ∷ ids) h = step (same id v) h (listed v ids)
  where
    step : (b : Bool) → 1 ≤ cond b 1 0 + times v ids → (1 ≤ times v ids → lists v ids ≡ true) → (b || lists v ids) ≡ true
    step true h ih = refl
    step false h ih = ih (omega (arith, h))

pub timed : (v : ConId) (ids : List ConId) → lists v ids ≡ true → 1 ≤ times v ids
timed v [] h = cc
timed v (id ∷ ids) h = step (same id v) h (timed v ids)
  where
    step : (b : Bool) → (b || lists v ids) ≡ true → (lists v ids ≡ true → 1 ≤ times v ids) → 1 ≤ cond b 1 0 + times v ids
    step true h ih = omega arith
    step false h ih = omega (arith, ih h)

both_kinds : (b : Bool) → 1 ≡ cond {A = ℕ} b 0 1 + cond {A = ℕ} b 1 0
both_kinds true = omega arith
both_kinds false = omega arith

kind_split : (kind : NodeKind) → ranks kind ≡ others kind + windows kind
kind_split (Root c) = omega arith
kind_split (Output o) = omega arith
kind_split (Space s) = omega arith
kind_split (Con c) = both_kinds (is_window_kind c.kind)

part_split : (b : Bool) (a x y : ℕ) → a ≡ x + y → cond {A = ℕ} b a 0 ≡ cond {A = ℕ} b x 0 + cond {A = ℕ} b y 0
part_split true a x y e = e
part_split false a x y e = omega arith

pub rank_split : (v : ConId) (f : Forest) → ranked v f ≡ count (kinds_at others v) f + count (window_at v) f
rank_split v end = omega arith
rank_split v (con part kids floats rest) =
    omega (arith, part_split (same part.id v) (ranks part.kind) (others part.kind) (windows part.kind) (kind_split part.kind), rank_split v kids, rank_split v floats, rank_split v rest)

kind_once : (kind : NodeKind) → ranks kind ≤ 1
kind_once (Root c) = omega arith
kind_once (Output o) = omega arith
kind_once (Space s) = omega arith
kind_once (Con c) = omega arith

part_once : (b : Bool) (a : ℕ) → a ≤ 1 → cond {A = ℕ} b a 0 ≤ cond {A = ℕ} b 1 0
part_once true a h = h
part_once false a h = omega arith

rank_once : (v : ConId) (f : Forest) → ranked v f ≤ tally v f
rank_once v end = omega arith
rank_once v (con part kids floats rest) = omega (arith, part_once (same part.id v) (ranks part.kind) (kind_once part.kind), rank_once v kids, rank_once v floats, rank_once v rest)

-- an id that is counted was given
given_by : (v : ConId) (t : TreeValue) → IsSound t → 1 ≤ tally v t.nodes → v.0 < t.next_id
given_by v t s h = step (leb t.next_id v.0) refl
  where
    step : (b : Bool) → leb t.next_id v.0 ≡ b → v.0 < t.next_id
    step true e =
        let late : t.next_id ≤ v.0 = grind (arith, nat_tests) in
        absurd (omega (arith, s.fresh v late, h))
    step false e = grind (arith, nat_tests)

-- a window of a sound tree is known
pub window_known : (v : ConId) (t : TreeValue) → IsSound t → is_window_of t v ≡ true → IsKnown v t
window_known v t s h =
    let seen : windows_at v t ≡ cond {A = ℕ} (is_window_of t v) 1 0 = windows_seen t v s in
    let one : windows_at v t ≡ 1 = seen ∙ ap (λ b. cond {A = ℕ} b 1 0) h in
    let all : ranked v t.nodes ≡ count (kinds_at others v) t.nodes + windows_at v t = rank_split v t.nodes in
    record {
      known = omega (arith, s.known v, all, one);
      window = omega (arith, all, one, rank_once v t.nodes, s.once v);
      given = given_by v t s (omega (arith, all, one, rank_once v t.nodes));
    }

pub known_window : (v : ConId) (t : TreeValue) → IsSound t → IsKnown v t → is_window_of t v ≡ true
known_window v t s i = step (is_window_of t v) (windows_seen t v s)
  where
    step : (b : Bool) → windows_at v t ≡ cond {A = ℕ} b 1 0 → b ≡ true
    step true e = refl
    step false e = absurd (omega (arith, e, i.known, i.window, s.known v, rank_split v t.nodes))

-- a tree without floating windows of containers, whose urgent ids are windows
abbrev pub AreUrgent : TreeValue → Type 0
AreUrgent t = IsTidy t.nodes × UrgentAreWindows t

pub from : (t : TreeValue) → IsSound t → AreUrgent t → Urgents t
from t s u = record { each = λ v h. window_known v t s (u.1.windows v (listed v t.urgent h)); once = u.1.once; tidy = u.0 }

pub back : (t : TreeValue) → IsSound t → Urgents t → AreUrgent t
back t s p = (p.tidy, record { windows = λ v h. known_window v t s (p.each v (timed v t.urgent h)); once = p.once })
