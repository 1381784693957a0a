-- Windows of sound trees: what is counted is what is found.
use Rattle.std.proofs.Common.{◌≡◌, ℕ, ◌+◌, ◌≤◌, Bool, true, false, cond, ◌||◌, ltb, None, Some, refl, ap, sym, ◌∙◌, arith}
use Rattle.std.proofs.lemmas.Bool.Decides.{nat_tests}
use Rattle.wm_base.specs.declared.ids.ConId.{ConId}
use Rattle.wm_forest.specs.declared.part.NodeKind.{NodeKind}
use Rattle.wm_forest.specs.declared.part.NodeKind.TheVariants.{Root, Output, Space, Con}
use Rattle.wm_forest.specs.declared.part.Part.{Part}
use Rattle.wm_forest.specs.Counts.{con_count, count, one_con}
use Rattle.wm_forest.specs.Forest.{Forest, end, con}
use Rattle.wm_forest.specs.Look.{first_floats, first_kids, first_part, rest_of, same}
use Rattle.wm_tree.specs.Sound.{IsSound}
use Rattle.wm_forest.specs.SoundRow.{ranked, ranks, tally}
use Rattle.wm_tree.specs.TreeValue.{TreeValue}
use Rattle.wm_forest.specs.Change.{is_window_kind}
use Rattle.wm_opens.specs.Opens.{is_window_of, window_at, windows, windows_at}
use Rattle.wm_opens.proofs.OpenLemmas.{windows_seen}
use Rattle.wm_history.specs.Windows.{window_part}

one_if : (b : Bool) → 1 ≤ cond {A = ℕ} b 1 0 → b ≡ true
one_if true h = refl
one_if false h = absurd (omega arith)

-- a window of a sound tree is found where it is counted
pub found_is_counted : (v : ConId) (t : TreeValue) → IsSound t → is_window_of t v ≡ true → 1 ≤ windows_at v t
found_is_counted v t s h = let one : windows_at v t ≡ 1 = windows_seen t v s ∙ ap (λ b. cond {A = ℕ} b 1 0) h in omega arith

pub counted_is_found : (v : ConId) (t : TreeValue) → IsSound t → 1 ≤ windows_at v t → is_window_of t v ≡ true
counted_is_found v t s h = let seen : windows_at v t ≡ cond {A = ℕ} (is_window_of t v) 1 0 = windows_seen t v s in one_if (is_window_of t v) (omega arith)

one_le : (b : Bool) → cond b 1 0 ≤ 1
one_le true = omega arith
one_le false = omega arith

kind_con : (kind : NodeKind) → windows kind ≤ one_con kind
kind_con (Root c) = omega arith
kind_con (Output o) = omega arith
kind_con (Space s) = omega arith
kind_con (Con c) = one_le (is_window_kind c.kind)

kind_ranks : (kind : NodeKind) → windows kind ≤ ranks kind
kind_ranks (Root c) = omega arith
kind_ranks (Output o) = omega arith
kind_ranks (Space s) = omega arith
kind_ranks (Con c) = one_le (is_window_kind c.kind)

-- each window is a container
pub window_con : (f : Forest) → count window_part f ≤ con_count f
window_con end = omega arith
window_con (con part kids floats rest) = omega (arith, kind_con part.kind, window_con kids, window_con floats, window_con rest)

by_id : (b : Bool) (m n : ℕ) → m ≤ n → cond b m 0 ≤ cond b n 0
by_id true m n h = h
by_id false m n h = omega arith

-- and is known to the order of recency
pub ranked_window : (v : ConId) (f : Forest) → count (window_at v) f ≤ ranked v f
ranked_window v end = omega arith
ranked_window v (con part kids floats rest) =
    omega (arith, by_id (same part.id v) (windows part.kind) (ranks part.kind) (kind_ranks part.kind), ranked_window v kids, ranked_window v floats, ranked_window v rest)

rank_one : (kind : NodeKind) → ranks kind ≤ 1
rank_one (Root c) = omega arith
rank_one (Output o) = omega arith
rank_one (Space s) = omega arith
rank_one (Con c) = omega arith

-- what the order of recency knows is there
pub ranked_tally : (v : ConId) (f : Forest) → ranked v f ≤ tally v f
ranked_tally v end = omega arith
ranked_tally v (con part kids floats rest) =
    omega (arith, by_id (same part.id v) (ranks part.kind) 1 (rank_one part.kind), ranked_tally v kids, ranked_tally v floats, ranked_tally v rest)

-- ---- windows in a map

lt_zero : (m n : ℕ) → ltb 0 (m + n) ≡ (ltb 0 m || ltb 0 n)
lt_zero m n = grind (arith, nat_tests)

row_windows : (v : ConId) (row : Forest) (part : Part) → first_part row ≡ Some part → count (window_at v) row ≡ window_at v part + count (window_at v) (first_kids row) + count (window_at v) (first_floats row) + count (window_at v) (rest_of row)
row_windows v end part h = cc
row_windows v (con p kids floats rest) part h =
    let same_part : p ≡ part = cc in
    ap (λ (z : Part). window_at v z + count (window_at v) kids + count (window_at v) floats + count (window_at v) rest) same_part

or_swap : (a b c d e : Bool) → (d || (c || (b || (a || e)))) ≡ ((((a || b) || c) || d) || e)
or_swap true b c true e = refl
or_swap true b true false e = refl
or_swap true true false false e = refl
or_swap true false false false e = refl
or_swap false b c true e = by b c
  where
    by : (x y : Bool) → true ≡ (((x || y) || true) || e)
    by true y = refl
    by false true = refl
    by false false = refl
or_swap false b true false e = by b
  where
    by : (x : Bool) → true ≡ (((x || true) || false) || e)
    by true = refl
    by false = refl
or_swap false true false false e = refl
or_swap false false false false e = refl

-- what holds a row's first node, what is below it and what is behind it holds the row
pub holds_row : (v : ConId) (row : Forest) (part : Part) (before own kids floats rest : Bool) → first_part row ≡ Some part → own ≡ (ltb 0 (window_at v part) || before)
    → kids ≡ (ltb 0 (count (window_at v) (first_kids row)) || own) → floats ≡ (ltb 0 (count (window_at v) (first_floats row)) || kids) → rest ≡ (ltb 0 (count (window_at v) (rest_of row)) || floats)
    → rest ≡ (ltb 0 (count (window_at v) row) || before)
holds_row v row part before own kids floats rest there e f g h =
    let a = window_at v part in
    let k = count (window_at v) (first_kids row) in
    let l = count (window_at v) (first_floats row) in
    let r = count (window_at v) (rest_of row) in
    let parts : ltb 0 (a + k + l + r) ≡ (((ltb 0 a || ltb 0 k) || ltb 0 l) || ltb 0 r) =
    lt_zero (a + k + l) r ∙ ap (λ b. b || ltb 0 r) (lt_zero (a + k) l ∙ ap (λ b. b || ltb 0 l) (lt_zero a k)) in
    h
    ∙ (ap (λ b. ltb 0 r || b) (g ∙ ap (λ b. ltb 0 l || b) (f ∙ ap (λ b. ltb 0 k || b) e))
    ∙ (or_swap (ltb 0 a) (ltb 0 k) (ltb 0 l) (ltb 0 r) before
    ∙ ap (λ b. b || before) (sym (ap (λ n. ltb 0 n) (row_windows v row part there) ∙ parts))))

-- behind the last node nothing more is held
pub holds_end : (v : ConId) (row : Forest) (held all : Bool) → first_part row ≡ None → (ltb 0 (count (window_at v) row) || held) ≡ all → held ≡ all
holds_end v end held all there e = e
holds_end v (con part kids floats rest) held all there e = cc

pub seen_there : (v : ConId) (t : TreeValue) → IsSound t → (ltb 0 (windows_at v t) || false) ≡ is_window_of t v
seen_there v t s = ap (λ n. ltb 0 n || false) (windows_seen t v s) ∙ by (is_window_of t v)
  where
    by : (b : Bool) → (ltb 0 (cond {A = ℕ} b 1 0) || false) ≡ b
    by true = refl
    by false = refl
