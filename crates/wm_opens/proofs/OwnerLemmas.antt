-- Each window stays its caller's.
use Rattle.std.proofs.Common.{◌≡◌, ℕ, ◌+◌, ◌≤◌, Bool, true, false, cond, ◌==◌, List, Option, None, Some, refl, ap, sym, ◌∙◌, arith}
use Rattle.std.proofs.lemmas.Bool.Decides.{nat_tests}
use Rattle.wm_base.specs.declared.geometry.Rect.{Rect}
use Rattle.wm_base.specs.declared.ids.ConId.{ConId}
use Rattle.wm_base.specs.declared.plan.Layout.{Layout}
use Rattle.wm_forest.specs.Change.{is_window_kind}
use Rattle.wm_opens.proofs.KeptLemmas.{Kept}
use Rattle.wm_opens.proofs.MeasureLemmas.{IsFresh, IsKept, kinds_at, kinds_measured}
use Rattle.wm_opens.proofs.OpenLemmas.{IsAt, found_at, seen_same}
use Rattle.wm_opens.specs.Opens.{is_fill, is_owned_kind, is_owned_of, is_owned_part, is_window_of, is_window_part, owned, windows, windows_at}
use Rattle.wm_forest.proofs.CountLemmas.{count-without, found_counted, tally-absent}
use Rattle.wm_forest.proofs.ForestLemmas.{only_absent}
use Rattle.wm_forest.specs.Change.{placed, unfull_kind, without}
use Rattle.wm_forest.specs.Counts.{count}
use Rattle.wm_forest.specs.declared.kind.KindEdit.{KindEdit}
use Rattle.wm_forest.specs.declared.kind.KindEdit.TheVariants as edits
use Rattle.wm_forest.specs.declared.part.ConKind.{ConKind}
use Rattle.wm_forest.specs.declared.part.ConKind.TheVariants.{Split, Window, Placeholder}
use Rattle.wm_forest.specs.declared.part.ConPart.{ConPart}
use Rattle.wm_forest.specs.declared.part.NodeKind.{NodeKind}
use Rattle.wm_forest.specs.declared.part.NodeKind.TheVariants.{Root, Output, Space, Con}
use Rattle.wm_forest.specs.Forest.{Forest, end, con}
use Rattle.wm_forest.specs.Kinds.{changed, laid_out, titled}
use Rattle.wm_forest.specs.Look.{con_kind, first_part, has, kind_by, kind_of, only, same}
use Rattle.wm_tree.specs.Sound.{IsSound}
use Rattle.wm_forest.specs.SoundRow.{one_of, tally}
use Rattle.wm_tree.specs.TreeValue.{TreeValue}

-- ---- the measure

laid_owned : (who : ℕ) (l : Layout) (kind : ConKind) → is_owned_kind who (laid_out l kind) ≡ is_owned_kind who kind
laid_owned who l (Split layout last) = refl
laid_owned who l (Window props owner natural) = refl
laid_owned who l (Placeholder props swallows) = refl

titled_owned : (who : ℕ) (t : List ℕ) (kind : ConKind) → is_owned_kind who (titled t kind) ≡ is_owned_kind who kind
titled_owned who t (Split layout last) = refl
titled_owned who t (Window props owner natural) = refl
titled_owned who t (Placeholder props swallows) = refl

unfull_owned : (who : ℕ) (kind : NodeKind) → owned who (unfull_kind kind) ≡ owned who kind
unfull_owned who (Root c) = refl
unfull_owned who (Output o) = refl
unfull_owned who (Space s) = refl
unfull_owned who (Con c) = refl

placed_owned : (who share : ℕ) (rect : Option Rect) (kind : NodeKind) → owned who (placed share rect kind) ≡ owned who kind
placed_owned who share rect (Root c) = refl
placed_owned who share rect (Output o) = refl
placed_owned who share rect (Space s) = refl
placed_owned who share rect (Con c) = refl

changed_owned : (who : ℕ) (edit : KindEdit) (kind : NodeKind) → is_fill edit ≡ false → owned who (changed edit kind) ≡ owned who kind
changed_owned who (edits.Layout l) (Con c) h = ap (λ b. cond {A = ℕ} b 1 0) (laid_owned who l c.kind)
changed_owned who (edits.Title t) (Con c) h = ap (λ b. cond {A = ℕ} b 1 0) (titled_owned who t c.kind)
changed_owned who (edits.Fill props owner natural) kind h = cc
changed_owned who other (Root c) h = refl
changed_owned who other (Output o) h = refl
changed_owned who other (Space s) h = refl
changed_owned who other (Con c) h = refl

owned_kept : (who : ℕ) → IsKept (owned who)
owned_kept who = record { unfulled = unfull_owned who; put = placed_owned who; edited = changed_owned who; root = λ c. refl }

owned_con : (who : ℕ) (kind : ConKind) → is_window_kind kind ≡ false → is_owned_kind who kind ≡ false
owned_con who (Split layout last) h = refl
owned_con who (Window props owner natural) h = cc
owned_con who (Placeholder props swallows) h = refl

no_window : (b : Bool) → cond {A = ℕ} b 1 0 ≡ 0 → b ≡ false
no_window true h = absurd (omega (arith, h))
no_window false h = refl

owned_none : (who : ℕ) (kind : NodeKind) → windows kind ≡ 0 → owned who kind ≡ 0
owned_none who (Root c) h = refl
owned_none who (Output o) h = refl
owned_none who (Space s) h = refl
owned_none who (Con c) h = ap (λ b. cond {A = ℕ} b 1 0) (owned_con who c.kind (no_window (is_window_kind c.kind) h))

nothing_by : (b : Bool) (n : ℕ) → n ≡ 0 → cond b n 0 ≡ 0
nothing_by true n e = e
nothing_by false n e = refl

owned_fresh : (who : ℕ) (v : ConId) (n : ℕ) → IsFresh (kinds_at (owned who) v) n
owned_fresh who v n = record { nothing = λ p below none. nothing_by (same p.id v) (owned who p.kind) (owned_none who p.kind none) }

-- no more windows of the caller
pub owned_fewer : (who : ℕ) (v : ConId) (t new : TreeValue) → Kept t new → count (kinds_at (owned who) v) new.nodes ≤ count (kinds_at (owned who) v) t.nodes
owned_fewer who v t new k = (k.fewer (kinds_at (owned who) v) (kinds_measured (owned who) v (owned_kept who))).fewer (owned_fresh who v t.next_id)

-- ---- looking it up

one_most : (b d : Bool) → cond b (cond {A = ℕ} d 1 0) 0 ≤ cond b 1 0
one_most true true = omega arith
one_most true false = omega arith
one_most false d = omega arith

owned_one : (who : ℕ) (b : Bool) (kind : NodeKind) → cond b (owned who kind) 0 ≤ cond b 1 0
owned_one who true (Root c) = omega arith
owned_one who true (Output o) = omega arith
owned_one who true (Space s) = omega arith
owned_one who true (Con c) = one_most true (is_owned_kind who c.kind)
owned_one who false kind = omega arith

owned_tallied : (who : ℕ) (v : ConId) (f : Forest) → count (kinds_at (owned who) v) f ≤ tally v f
owned_tallied who v end = omega arith
owned_tallied who v (con part kids floats rest) = omega (arith, owned_one who (same part.id v) part.kind, owned_tallied who v kids, owned_tallied who v floats, owned_tallied who v rest)

abbrev one_if : ℕ → Forest → ℕ
one_if who f = cond (is_owned_part who (kind_by con_kind (first_part f))) 1 0

kind_seen : (who : ℕ) (kind : NodeKind) → owned who kind ≡ cond (is_owned_part who (con_kind kind)) 1 0
kind_seen who (Root c) = refl
kind_seen who (Output o) = refl
kind_seen who (Space s) = refl
kind_seen who (Con c) = refl

seen_at : (who : ℕ) (v : ConId) (f : Forest) → IsAt v f → tally v f ≤ 1 → count (kinds_at (owned who) v) f ≡ one_if who f
seen_at who v end h once = absurd h
seen_at who v (con part kids floats rest) h once =
    let here : kinds_at (owned who) v part ≡ owned who part.kind = ap (λ b. cond b (owned who part.kind) 0) h.0 in
    let is : one_of v part ≡ 1 = ap (λ b. cond {A = ℕ} b 1 0) h.0 in
    omega (arith, here, is, once, kind_seen who part.kind, owned_tallied who v kids, owned_tallied who v floats, owned_tallied who v rest)

-- a window of a caller is counted once
pub owned_seen : (who : ℕ) (v : ConId) (f : Forest) → tally v f ≤ 1 → count (kinds_at (owned who) v) f ≡ one_if who (only v f)
owned_seen who v f once = by_test (has v f) refl
  where
    by_test : (b : Bool) → has v f ≡ b → count (kinds_at (owned who) v) f ≡ one_if who (only v f)
    by_test true e =
        let all : tally v (without v f) + tally v (only v f) ≡ tally v f = count-without (one_of v) v f in
        let seen : count (kinds_at (owned who) v) (only v f) ≡ one_if who (only v f) = seen_at who v (only v f) (found_at v f e) (omega (arith, all, once)) in
        omega (arith, seen, once, all, found_counted v f e, owned_tallied who v (without v f), count-without (kinds_at (owned who) v) v f)
    by_test false e =
        let none : one_if who (only v f) ≡ 0 = ap (one_if who) (only_absent v f e) in
        omega (arith, none, owned_tallied who v f, tally-absent v f e)

implies : (a b : Bool) → cond {A = ℕ} a 1 0 ≤ cond b 1 0 → a ≡ true → b ≡ true
implies a true le e = refl
implies true false le e = absurd (omega (arith, le))
implies false false le e = e

-- a window of a caller was its window before
pub was_owned : (who : ℕ) (v : ConId) (t new : TreeValue) → IsSound t → IsSound new → Kept t new → is_owned_of new who v ≡ true → is_owned_of t who v ≡ true
was_owned who v t new s r k e =
    implies (is_owned_of new who v) (is_owned_of t who v) (omega (arith, owned_fewer who v t new k, owned_seen who v t.nodes (s.once v), owned_seen who v new.nodes (r.once v))) e

-- ---- a window has one owner

one_owner : (who other : ℕ) (kind : ConKind) → is_owned_kind who kind ≡ true → is_owned_kind other kind ≡ true → who ≡ other
one_owner who other (Split layout last) h k = cc
one_owner who other (Window props owner natural) h k = grind (arith, nat_tests)
one_owner who other (Placeholder props swallows) h k = cc

one_of_part : (who other : ℕ) (part : Option ConPart) → is_owned_part who part ≡ true → is_owned_part other part ≡ true → who ≡ other
one_of_part who other None h k = cc
one_of_part who other (Some p) h k = one_owner who other p.kind h k

own : (n : ℕ) → (n == n) ≡ true
own n = grind (arith, nat_tests)

some_owner : (kind : ConKind) → is_window_kind kind ≡ true → (who : ℕ) × (is_owned_kind who kind ≡ true)
some_owner (Split layout last) h = cc
some_owner (Window props owner natural) h = (owner, own owner)
some_owner (Placeholder props swallows) h = cc

owner_of : (part : Option ConPart) → is_window_part part ≡ true → (who : ℕ) × (is_owned_part who part ≡ true)
owner_of None h = cc
owner_of (Some p) h = some_owner p.kind h

pub owned_window : (who : ℕ) (part : Option ConPart) → is_owned_part who part ≡ true → is_window_part part ≡ true
owned_window who None h = cc
owned_window who (Some p) h = by p.kind h
  where
    by : (kind : ConKind) → is_owned_kind who kind ≡ true → is_window_kind kind ≡ true
    by (Split layout last) h = cc
    by (Window props owner natural) h = refl
    by (Placeholder props swallows) h = cc

both_ways : (a b : Bool) → (a ≡ true → b ≡ true) → (b ≡ true → a ≡ true) → a ≡ b
both_ways true true p q = refl
both_ways true false p q = sym (p refl)
both_ways false true p q = q refl
both_ways false false p q = refl

-- a window that stays is the same caller's
pub owners_kept : (who : ℕ) (v : ConId) (t new : TreeValue) → IsSound t → IsSound new → Kept t new → windows_at v new ≡ windows_at v t → is_owned_of new who v ≡ is_owned_of t who v
owners_kept who v t new s r k e = both_ways (is_owned_of new who v) (is_owned_of t who v) (was_owned who v t new s r k) back
  where
    back : is_owned_of t who v ≡ true → is_owned_of new who v ≡ true
    back h =
        let still : is_window_of new v ≡ true = seen_same t new v s r e ∙ owned_window who (kind_of con_kind v t.nodes) h in
        let mine = owner_of (kind_of con_kind v new.nodes) still in
        let was : is_owned_of t mine.0 v ≡ true = was_owned mine.0 v t new s r k mine.1 in
        let one : mine.0 ≡ who = one_of_part mine.0 who (kind_of con_kind v t.nodes) was h in
        ap (λ n. is_owned_of new n v) (sym one) ∙ mine.1

told : (a b : Bool) → cond {A = ℕ} a 1 0 ≡ cond b 1 0 → a ≡ b
told true true e = refl
told true false e = absurd (omega (arith, e))
told false true e = absurd (omega (arith, e))
told false false e = refl

-- as many windows of a caller tell the same
pub owned_told : (who : ℕ) (v : ConId) (t new : TreeValue) → IsSound t → IsSound new → count (kinds_at (owned who) v) new.nodes ≡ count (kinds_at (owned who) v) t.nodes → is_owned_of new who v ≡ is_owned_of t who v
owned_told who v t new s r e =
    told (is_owned_of new who v) (is_owned_of t who v) (sym (owned_seen who v new.nodes (r.once v)) ∙ (e ∙ owned_seen who v t.nodes (s.once v)))

-- a window of the caller that is counted is there
pub owned_found : (who : ℕ) (v : ConId) (t : TreeValue) → IsSound t → 1 ≤ count (kinds_at (owned who) v) t.nodes → is_owned_of t who v ≡ true
owned_found who v t s h = found (is_owned_of t who v) (omega (arith, h, owned_seen who v t.nodes (s.once v)))
  where
    found : (b : Bool) → 1 ≤ cond {A = ℕ} b 1 0 → b ≡ true
    found true h = refl
    found false h = absurd (omega (arith, h))
