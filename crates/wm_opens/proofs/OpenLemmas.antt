-- Which windows a step leaves: those that were there, but for one that is mapped and for those that are closed.
use Rattle.std.proofs.Common.{◌≡◌, ℕ, ◌+◌, ◌≤◌, Bool, true, false, cond, ◌||◌, List, Option, refl, ap, sym, ◌∙◌, arith}
use Rattle.wm_apply.specs.Batches.{outcome}
use Rattle.wm_base.specs.declared.geometry.Size.{Size}
use Rattle.wm_base.specs.declared.ids.ConId.{ConId}
use Rattle.wm_base.specs.declared.plan.OutputPlan.{OutputPlan}
use Rattle.wm_base.specs.declared.properties.Props.{Props}
use Rattle.wm_criteria.specs.declared.verdict.Verdict.{Verdict}
use Rattle.wm_forest.specs.Change.{is_window_kind}
use Rattle.wm_layouts.specs.declared.plan.Env.{Env}
use Rattle.wm_opens.proofs.CommandLemmas.{kept_outcome}
use Rattle.wm_opens.proofs.KeptLemmas.{Kept, kept_detached, kept_settled}
use Rattle.wm_opens.proofs.MeasureLemmas.{windows_fresh, windows_measured}
use Rattle.wm_opens.proofs.SpaceLemmas.{kept_output_removed}
use Rattle.wm_opens.proofs.WordLemmas.{count-edited, count-with_raised, put_none}
use Rattle.wm_opens.specs.Opens.{is_fill, is_window_of, is_window_part, window_at, windows, windows_at}
use Rattle.wm_spaces.specs.Coming.{free_name, output_added_tree, output_removed_tree}
use Rattle.wm_forest.proofs.CountLemmas.{count-put, count-without, found_counted, tally-absent}
use Rattle.wm_forest.proofs.ForestLemmas.{only_absent}
use Rattle.wm_tree.proofs.PlaceLemmas.{place_fits}
use Rattle.wm_tree.proofs.SoundLemmas.{gone-detached}
use Rattle.wm_forest.specs.Change.{without}
use Rattle.wm_forest.specs.Counts.{count}
use Rattle.wm_forest.specs.declared.kind.KindEdit.{KindEdit}
use Rattle.wm_forest.specs.declared.part.NodeKind.{NodeKind}
use Rattle.wm_forest.specs.declared.part.NodeKind.TheVariants.{Root, Output, Space, Con}
use Rattle.wm_forest.specs.declared.part.Part.{Part}
use Rattle.wm_forest.specs.declared.place.NewCon.TheVariants as new
use Rattle.wm_forest.specs.declared.place.Place.{Place}
use Rattle.wm_forest.specs.declared.place.Place.TheVariants.{Last}
use Rattle.wm_forest.specs.Forest.{Forest, end, con}
use Rattle.wm_forest.specs.Look.{con_kind, first_part, has, kind_by, only, same}
use Rattle.wm_tree.specs.Outputs.{new_output}
use Rattle.wm_forest.specs.Place.{new_part, rect_at, share_at}
use Rattle.wm_tree.specs.Sound.{IsSound}
use Rattle.wm_forest.specs.SoundRow.{one_of, tally}
use Rattle.wm_tree.specs.TreeValue.{TreeValue, newcomer_place}
use Rattle.wm_forest.specs.RootId.{id, root}
use Rattle.wm_tree.specs.Words.{attached, detached, edited, settled, with_raised}

-- ---- no window is made

-- a tree that counts no more by any measure has no more windows
pub no_more : (v : ConId) (t new : TreeValue) → Kept t new → windows_at v new ≤ windows_at v t
no_more v t now k = (k.fewer (window_at v) (windows_measured v)).fewer (windows_fresh v t.next_id)

pub texts_open_none : (env : Env) (verdict : Verdict) (subject : Option ConId) (t : TreeValue) (v : ConId) → windows_at v (outcome env verdict subject t).tree ≤ windows_at v t
texts_open_none env verdict subject t v = no_more v t (outcome env verdict subject t).tree (kept_outcome env verdict subject t)

pub settling_opens_none : (t : TreeValue) (v : ConId) → windows_at v (settled t) ≤ windows_at v t
settling_opens_none t v = no_more v t (settled t) (kept_settled t)

pub removal_opens_none : (name : List ℕ) (t : TreeValue) (v : ConId) → windows_at v (output_removed_tree name t) ≤ windows_at v t
removal_opens_none name t v = no_more v t (output_removed_tree name t) (kept_output_removed name t)

-- ---- steps that keep windows

pub raising_keeps : (c : ConId) (t : TreeValue) (v : ConId) → windows_at v (with_raised c t) ≡ windows_at v t
raising_keeps c t v = count-with_raised (window_at v) (windows_measured v) c t

pub edits_keep : (c : ConId) (edit : KindEdit) (t : TreeValue) (v : ConId) → is_fill edit ≡ false → windows_at v (edited c edit t) ≡ windows_at v t
edits_keep c edit t v h = count-edited (window_at v) (windows_measured v) c edit t h

nothing_by : (b : Bool) → cond {A = ℕ} b 0 0 ≡ 0
nothing_by true = refl
nothing_by false = refl

pub added_output_keeps : (plan : OutputPlan) (t : TreeValue) (v : ConId) → windows_at v (output_added_tree plan t) ≡ windows_at v t
added_output_keeps plan t v =
    put_none (window_at v) (Last root) (new_output (id t.next_id) plan (id (t.next_id + 1)) (free_name t) t) t.nodes
    (omega (arith, nothing_by (same (id t.next_id) v), nothing_by (same (id (t.next_id + 1)) v)))

-- ---- a window that is mapped

-- one for the new window
abbrev pub one_at : ConId → ConId → ℕ
one_at v new = cond (same new v) 1 0

pub mapping_opens_one : (who : ℕ) (props : Props) (natural : Size) (t : TreeValue) (v : ConId) → IsSound t
    → windows_at v (attached (newcomer_place t) (new.Window props who natural) t) ≡ windows_at v t + one_at v (id t.next_id)
mapping_opens_one who props natural t v s =
    let p : Place = newcomer_place t in
    let part : Part = new_part (id t.next_id) (share_at p t.nodes) t.border (rect_at p) (new.Window props who natural) in
    omega (arith, count-put (window_at v) p (con part end end end) t.nodes (place_fits t s).0)

-- ---- windows that are closed

pub closing_opens_none : (c : ConId) (t : TreeValue) (v : ConId) → windows_at v (detached c t) ≤ windows_at v t
closing_opens_none c t v = no_more v t (detached c t) (kept_detached c t)

one_by : (b : Bool) (kind : NodeKind) → cond b (windows kind) 0 ≤ cond b 1 0
one_by true (Root c) = omega arith
one_by true (Output o) = omega arith
one_by true (Space s) = omega arith
one_by true (Con c) = by_kind (is_window_kind c.kind)
  where
    by_kind : (b : Bool) → cond {A = ℕ} b 1 0 ≤ 1
    by_kind true = omega arith
    by_kind false = omega arith
one_by false kind = omega arith

-- no more windows have an id than nodes have it
pub windows_tallied : (v : ConId) (f : Forest) → count (window_at v) f ≤ tally v f
windows_tallied v end = omega arith
windows_tallied v (con part kids floats rest) = omega (arith, one_by (same part.id v) part.kind, windows_tallied v kids, windows_tallied v floats, windows_tallied v rest)

pub closing_closes : (c : ConId) (t : TreeValue) → IsSound t → windows_at c (detached c t) ≡ 0
closing_closes c t s = omega (arith, windows_tallied c (without c t.nodes), tally-absent c (without c t.nodes) (gone-detached c t s))

-- what is taken out and what is left make the whole
pub closing_takes : (c : ConId) (t : TreeValue) (v : ConId) → windows_at v (detached c t) + count (window_at v) (only c t.nodes) ≡ windows_at v t
closing_takes c t v = count-without (window_at v) c t.nodes

-- ---- looking a window up

-- the forest is one node c
abbrev pub IsAt : ConId → Forest → Type 0
IsAt c end = ⊥
IsAt c (con part kids floats rest) = (same part.id c ≡ true) × (rest ≡ end)

at_step : (c : ConId) (a k l r : Bool) (part : Part) (kids floats rest : Forest) → same part.id c ≡ a → (k ≡ true → IsAt c (only c kids)) → (l ≡ true → IsAt c (only c floats))
    → (r ≡ true → IsAt c (only c rest)) → (a || k || l || r) ≡ true → IsAt c (cond a (con part kids floats end) (cond k (only c kids) (cond l (only c floats) (only c rest))))
at_step c true k l r part kids floats rest e p q s h = (e, refl)
at_step c false true l r part kids floats rest e p q s h = p refl
at_step c false false true r part kids floats rest e p q s h = q refl
at_step c false false false r part kids floats rest e p q s h = s h

pub found_at : (c : ConId) (f : Forest) → has c f ≡ true → IsAt c (only c f)
found_at c end h = cc
found_at c (con part kids floats rest) h =
    at_step c (same part.id c) (has c kids) (has c floats) (has c rest) part kids floats rest refl (found_at c kids) (found_at c floats) (found_at c rest) h

-- a window of a forest of one node
abbrev one_if : Forest → ℕ
one_if f = cond (is_window_part (kind_by con_kind (first_part f))) 1 0

kind_seen : (kind : NodeKind) → windows kind ≡ cond (is_window_part (con_kind kind)) 1 0
kind_seen (Root c) = refl
kind_seen (Output o) = refl
kind_seen (Space s) = refl
kind_seen (Con c) = refl

seen_at : (v : ConId) (f : Forest) → IsAt v f → tally v f ≤ 1 → count (window_at v) f ≡ one_if f
seen_at v end h once = absurd h
seen_at v (con part kids floats rest) h once =
    let here : window_at v part ≡ windows part.kind = ap (λ b. cond b (windows part.kind) 0) h.0 in
    let is : one_of v part ≡ 1 = ap (λ b. cond {A = ℕ} b 1 0) h.0 in
    omega (arith, here, is, once, kind_seen part.kind, windows_tallied v kids, windows_tallied v floats, windows_tallied v rest)

-- where an id is there at most once, its windows are counted as it is looked up
seen_in : (v : ConId) (f : Forest) → tally v f ≤ 1 → count (window_at v) f ≡ one_if (only v f)
seen_in v f once = by_test (has v f) refl
  where
    by_test : (b : Bool) → has v f ≡ b → count (window_at v) f ≡ one_if (only v f)
    by_test true e =
        let all : tally v (without v f) + tally v (only v f) ≡ tally v f = count-without (one_of v) v f in
        let seen : count (window_at v) (only v f) ≡ one_if (only v f) = seen_at v (only v f) (found_at v f e) (omega (arith, all, once)) in
        omega (arith, seen, once, all, found_counted v f e, windows_tallied v (without v f), count-without (window_at v) v f)
    by_test false e =
        let none : one_if (only v f) ≡ 0 = ap one_if (only_absent v f e) in
        omega (arith, none, windows_tallied v f, tally-absent v f e)

-- in a sound tree a window is counted once, and what is no window not at all
pub windows_seen : (t : TreeValue) (v : ConId) → IsSound t → windows_at v t ≡ cond (is_window_of t v) 1 0
windows_seen t v s = seen_in v t.nodes (s.once v)

told : (a b : Bool) → cond {A = ℕ} a 1 0 ≡ cond b 1 0 → a ≡ b
told true true e = refl
told true false e = absurd (omega (arith, e))
told false true e = absurd (omega (arith, e))
told false false e = refl

-- two sound trees with as many windows of an id tell the same of it
pub seen_same : (t new : TreeValue) (v : ConId) → IsSound t → IsSound new → windows_at v new ≡ windows_at v t → is_window_of new v ≡ is_window_of t v
seen_same t now v s r e = told (is_window_of now v) (is_window_of t v) (sym (windows_seen now v r) ∙ (e ∙ windows_seen t v s))

no_window : (a b : Bool) → cond {A = ℕ} a 1 0 ≤ cond b 1 0 → a ≡ true → b ≡ true
no_window a true le e = refl
no_window true false le e = absurd (omega (arith, le))
no_window false false le e = e

-- a window of a tree with no more windows was one before
pub was_window : (t new : TreeValue) (v : ConId) → IsSound t → IsSound new → windows_at v new ≤ windows_at v t → is_window_of new v ≡ true → is_window_of t v ≡ true
was_window t now v s r le e = no_window (is_window_of now v) (is_window_of t v) (omega (arith, le, windows_seen now v r, windows_seen t v s)) e
