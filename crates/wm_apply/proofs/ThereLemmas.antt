-- The focused node is there: a workspace or a container.
use Rattle.std.proofs.Common.{◌≡◌, ◌+◌, ◌≤◌, Bool, true, false, cond, List, [], ◌∷◌, Option, None, Some, refl, arith}
use Rattle.std.specs.Prelude.{is_some}
use Rattle.wm_apply.specs.Subjects.{or_error}
use Rattle.wm_base.specs.declared.errors.ErrorText.{ErrorText}
use Rattle.wm_base.specs.declared.ids.ConId.{ConId}
use Rattle.wm_forest.proofs.CountLemmas.{counted, tally-absent}
use Rattle.wm_forest.proofs.RecencyLemmas.{same_self}
use Rattle.wm_forest.specs.declared.part.NodeKind.{NodeKind}
use Rattle.wm_forest.specs.declared.part.NodeKind.TheVariants.{Root, Output, Space, Con}
use Rattle.wm_forest.specs.Forest.{Forest, end, con}
use Rattle.wm_forest.specs.Look.{con_kind, first_part, has, kind_by, kind_of, only, same, space_kind}
use Rattle.wm_forest.specs.Recency.{first_held}
use Rattle.wm_forest.specs.SoundRow.{one_of, rank_of, ranked, ranks, tally, times}
use Rattle.wm_shared.proofs.StandingLemmas.{shown_stands, stands_space}
use Rattle.wm_shared.specs.Subject.{IsSubject, is_subject_kind}
use Rattle.wm_tree.specs.Sound.{IsSound}
use Rattle.wm_tree.specs.TreeValue.{TreeValue, focused, or_id, shown, shown_space}

-- what the forest begins with is a workspace or a container
abbrev is_low : Forest → Bool
is_low f = is_subject_kind (kind_by space_kind (first_part f)) (kind_by con_kind (first_part f))

low_rank : (kind : NodeKind) → 1 ≤ ranks kind → is_subject_kind (space_kind kind) (con_kind kind) ≡ true
low_rank (Root c) h = absurd (omega (arith, h))
low_rank (Output o) h = absurd (omega (arith, h))
low_rank (Space w) h = refl
low_rank (Con c) h = refl

-- workspaces and containers are some of the nodes
some_ranked : (c : ConId) (f : Forest) → ranked c f ≤ tally c f
some_ranked c end = omega arith
some_ranked c (con part kids floats rest) = let own = by_test (same part.id c) part.kind in omega (arith, own, some_ranked c kids, some_ranked c floats, some_ranked c rest)
  where
    by_test : (b : Bool) (kind : NodeKind) → cond b (ranks kind) 0 ≤ cond b 1 0
    by_test true (Root d) = omega arith
    by_test true (Output o) = omega arith
    by_test true (Space w) = omega arith
    by_test true (Con d) = omega arith
    by_test false kind = omega arith

-- an id that is there once, as a workspace or container, is one
low_only : (c : ConId) (f : Forest) → tally c f ≤ 1 → 1 ≤ ranked c f → is_low (only c f) ≡ true
low_only c end once h = absurd (omega (arith, h))
low_only c (con part kids floats rest) once h = step (same part.id c) (has c kids) (has c floats) refl refl refl (low_only c kids) (low_only c floats) (low_only c rest)
  where
    k : ranked c kids ≤ tally c kids
    k = some_ranked c kids

    l : ranked c floats ≤ tally c floats
    l = some_ranked c floats

    r : ranked c rest ≤ tally c rest
    r = some_ranked c rest

    step : (a b d : Bool) → same part.id c ≡ a → has c kids ≡ b → has c floats ≡ d → (tally c kids ≤ 1 → 1 ≤ ranked c kids → is_low (only c kids) ≡ true) → (tally c floats ≤ 1 → 1 ≤ ranked c floats → is_low (only c floats) ≡ true)
        → (tally c rest ≤ 1 → 1 ≤ ranked c rest → is_low (only c rest) ≡ true) → is_low (cond a (con part kids floats end) (cond b (only c kids) (cond d (only c floats) (only c rest)))) ≡ true
    step true b d e f g u v x =
        let one : one_of c part ≡ 1 = rw e refl in
        let own : rank_of c part ≡ ranks part.kind = rw e refl in
        low_rank part.kind (omega (arith, once, h, one, own, k, l, r))
    step false true d e f g u v x =
        let own : rank_of c part ≡ 0 = rw e refl in
        u (omega (arith, once)) (omega (arith, once, h, own, counted c kids f, l, r))
    step false false true e f g u v x =
        let own : rank_of c part ≡ 0 = rw e refl in
        v (omega (arith, once)) (omega (arith, once, h, own, tally-absent c kids f, counted c floats g, k, r))
    step false false false e f g u v x =
        let own : rank_of c part ≡ 0 = rw e refl in
        x (omega (arith, once)) (omega (arith, h, own, tally-absent c kids f, tally-absent c floats g, k, l))

-- the first of the ids that a forest holds is one of them
first_listed : (f : Forest) (ids : List ConId) (c : ConId) → first_held f ids ≡ Some c → 1 ≤ times c ids
first_listed f [] c h = cc
first_listed f (id ∷ ids) c h = step (has id f) h (first_listed f ids c)
  where
    step : (b : Bool) → cond b (Some id) (first_held f ids) ≡ Some c → (first_held f ids ≡ Some c → 1 ≤ times c ids) → 1 ≤ cond (same id c) 1 0 + times c ids
    step true h u = let e : id ≡ c = cc in let own : same id c ≡ true = same_self id c e in rw own (omega arith)
    step false h u = omega (arith, u h)

-- an id that is the focused one is a subject
pub focus_is : (t : TreeValue) (i : ConId) → i ≡ focused t → IsSound t → IsSubject t i
focus_is t i e s = record { sound = s; kind = rw e (by (first_held (shown_space t) t.recency) refl) }
  where
    space_low : {A B : Type 0} (a : Option A) (b : Option B) → is_some a ≡ true → is_subject_kind a b ≡ true
    space_low None b h = cc
    space_low (Some x) b h = refl

    by : (o : Option ConId) → first_held (shown_space t) t.recency ≡ o → is_subject_kind (kind_of space_kind (or_id o (shown t)) t.nodes) (kind_of con_kind (or_id o (shown t)) t.nodes) ≡ true
    by None h = space_low (kind_of space_kind (shown t) t.nodes) (kind_of con_kind (shown t) t.nodes) (stands_space (shown t) t s (shown_stands t s))
    by (Some c) h = low_only c t.nodes (s.once c) (omega (arith, s.known c, first_listed (shown_space t) t.recency c h))

-- the error of one subject is that of them all
pub only_error : (o : Option ErrorText) → or_error o None ≡ o
only_error None = refl
only_error (Some e) = refl
