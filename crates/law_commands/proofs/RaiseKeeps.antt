-- Raising a node changes nothing but recency, urgency and fullscreen of one workspace.
use Rattle.std.proofs.Common.{◌≡◌, ◌≢◌, ℕ, Bool, true, false, cond, ◌||◌, ◌⊎◌, inl, inr, [], Option, None, Some, refl, ap, ◌∙◌, arith}
use Rattle.std.specs.Prelude.{is_some}
use Rattle.wm_base.specs.declared.ids.ConId.{ConId}
use Rattle.wm_shared.proofs.DownLemmas.{Once, has_only, in_floats, in_kids, in_rest, once_floats, once_kids, once_rest}
use Rattle.wm_shared.proofs.KidLemmas.{row_kid, tiled_in}
use Rattle.law_commands.specs.Focusing.{DifferInFocus}
use Rattle.wm_shared.specs.Subject.{is_space}
use Rattle.wm_tree.proofs.AttachLemmas.{has_row}
use Rattle.wm_tree.proofs.RaiseLemmas.{in_row-unfull}
use Rattle.wm_forest.specs.Change.{at, nobody, raised_in, to_end, unfull, unfull_kind, without, raised_at}
use Rattle.wm_forest.specs.declared.part.NodeKind.{NodeKind}
use Rattle.wm_forest.specs.declared.part.NodeKind.TheVariants.{Root, Output, Space, Con}
use Rattle.wm_forest.specs.declared.part.Part.{Part}
use Rattle.wm_forest.specs.Forest.{Forest, end, con}
use Rattle.wm_forest.specs.Look.{con_kind, first_floats, first_part, has, in_row, kind_by, only, same, space_kind}
use Rattle.wm_forest.specs.Recency.{raised, without_id}
use Rattle.wm_tree.specs.Sound.{IsSound}
use Rattle.wm_forest.specs.SoundRow.{IsSoundRow, Level, below, containers, roots, tally}
use Rattle.wm_forest.specs.Spot.{room_below}
use Rattle.wm_tree.specs.TreeValue.{TreeValue, workspace_of}
use Rattle.wm_tree.specs.Words.{with_raised}

-- ---- what raising changes

unfull_twice_kind : (kind : NodeKind) → unfull_kind (unfull_kind kind) ≡ unfull_kind kind
unfull_twice_kind (Root c) = refl
unfull_twice_kind (Output o) = refl
unfull_twice_kind (Space s) = refl
unfull_twice_kind (Con c) = refl

pub unfull_again : (x : ConId) (f : Forest) → tally nobody f ≡ 0 → unfull nobody (unfull x f) ≡ unfull nobody f
unfull_again x end low = refl
unfull_again x (con part kids floats rest) low =
    step (same part.id nobody) (same part.id x) refl (unfull_again x kids (omega (arith, low))) (unfull_again x floats (omega (arith, low))) (unfull_again x rest (omega (arith, low)))
  where
    Node : Part → Forest → Forest → Forest → Forest
    Node p k l r = con (cond (same p.id nobody) p (record p { kind = unfull_kind p.kind })) k l r

    step : (n b : Bool) → same part.id nobody ≡ n → unfull nobody (unfull x kids) ≡ unfull nobody kids → unfull nobody (unfull x floats) ≡ unfull nobody floats → unfull nobody (unfull x rest) ≡ unfull nobody rest
        → Node (cond b part (record part { kind = unfull_kind part.kind })) (unfull nobody (unfull x kids)) (unfull nobody (unfull x floats)) (unfull nobody (unfull x rest)) ≡ Node part (unfull nobody kids) (unfull nobody floats) (unfull nobody rest)
    step true b e p q r =
        let much : ◌≡◌ {A = ℕ} (cond (same part.id nobody) 1 0) 1 = rw e refl in
        absurd (omega (arith, low, much))
    step false true e p q r = rw (p, q, r) refl
    step false false e p q r = rw (p, q, r, e, unfull_twice_kind part.kind) refl

-- what raising a node in a workspace keeps
record Keeps (w x : ConId) (f : Forest) : Type 0 where
  there : has w (at w raised_in x f) ≡ has w f
  bare : unfull nobody (at w raised_in x f) ≡ unfull nobody f
  outside : without w (at w raised_in x f) ≡ without w f

raised_keeps : (w x : ConId) (f : Forest) → tally nobody f ≡ 0 → in_row x (first_floats (only w f)) ≡ false → Keeps w x f
raised_keeps w x end low n = record { there = refl; bare = refl; outside = refl }
raised_keeps w x (con part kids floats rest) low n =
    step (same part.id w) (has w kids) (has w floats) refl refl refl (raised_keeps w x kids (omega (arith, low))) (raised_keeps w x floats (omega (arith, low))) (raised_keeps w x rest (omega (arith, low))) n
  where
    node : Forest
    node = con part kids floats rest

    step : (a k l : Bool) → same part.id w ≡ a → has w kids ≡ k → has w floats ≡ l → (in_row x (first_floats (only w kids)) ≡ false → Keeps w x kids) → (in_row x (first_floats (only w floats)) ≡ false → Keeps w x floats)
        → (in_row x (first_floats (only w rest)) ≡ false → Keeps w x rest) → in_row x (first_floats (cond a (con part kids floats end) (cond k (only w kids) (cond l (only w floats) (only w rest))))) ≡ false
        → Keeps w x node
    step true k l ea ek el p q r n =
        let stays : to_end x (unfull x floats) ≡ unfull x floats = rw (in_row-unfull x x floats ∙ n) refl in
        let new : Forest = con part (unfull x kids) (to_end x (unfull x floats)) rest in
        let here : at w raised_in x node ≡ new = rw ea refl in
        let there : has w new ≡ has w node = rw ea refl in
        let bare : unfull nobody new ≡ unfull nobody node =
        rw (stays, unfull_again x kids (omega (arith, low)), unfull_again x floats (omega (arith, low))) refl in
        let outside : without w new ≡ without w node = rw ea refl in
        record { there = ap (has w) here ∙ there; bare = ap (unfull nobody) here ∙ bare; outside = ap (without w) here ∙ outside }
    step false true l ea ek el p q r n =
        let y = p n in
        let new : Forest = con part (at w raised_in x kids) floats rest in
        let here : at w raised_in x node ≡ new = rw (ea, ek) refl in
        let in_new : has w (at w raised_in x kids) ≡ true = y.there ∙ ek in
        let there : has w new ≡ has w node = rw (ea, in_new, ek) refl in
        let bare : unfull nobody new ≡ unfull nobody node = rw y.bare refl in
        let outside : without w new ≡ without w node = rw (ea, in_new, ek) (ap (λ k. con part k floats rest) y.outside) in
        record { there = ap (has w) here ∙ there; bare = ap (unfull nobody) here ∙ bare; outside = ap (without w) here ∙ outside }
    step false false true ea ek el p q r n =
        let y = q n in
        let new : Forest = con part kids (at w raised_in x floats) rest in
        let here : at w raised_in x node ≡ new = rw (ea, ek, el) refl in
        let in_new : has w (at w raised_in x floats) ≡ true = y.there ∙ el in
        let there : has w new ≡ has w node = rw (ea, ek, in_new, el) refl in
        let bare : unfull nobody new ≡ unfull nobody node = rw y.bare refl in
        let outside : without w new ≡ without w node = rw (ea, ek, in_new, el) (ap (λ l. con part kids l rest) y.outside) in
        record { there = ap (has w) here ∙ there; bare = ap (unfull nobody) here ∙ bare; outside = ap (without w) here ∙ outside }
    step false false false ea ek el p q r n =
        let y = r n in
        let new : Forest = con part kids floats (at w raised_in x rest) in
        let here : at w raised_in x node ≡ new = rw (ea, ek, el) refl in
        let there : has w new ≡ has w node = rw (ea, ek, el) y.there in
        let outside : without w new ≡ without w node = rw (ea, ek, el) (ap (λ r. con part kids floats r) y.outside) in
        record { there = ap (has w) here ∙ there; bare = rw (ea, ek, el, y.bare) refl; outside = ap (without w) here ∙ outside }

-- ---- floating windows

floats_has : (x : ConId) (f : Forest) → in_row x (first_floats f) ≡ true → has x f ≡ true
floats_has x end h = cc
floats_has x (con part kids floats rest) h = by (same part.id x) (has x kids) (has x floats) (has x rest) (has_row x floats h) where
  by : (a k l r : Bool) → l ≡ true → (a || k || l || r) ≡ true
  by true k l r h = refl
  by false true l r h = refl
  by false false true r h = refl
  by false false false r h = cc

abbrev IsLoose : Bool → ConId → Forest → Type 0
IsLoose b x f = (kind_by con_kind (first_part (only x f)) ≢ None) × (tiled_in b x f ≡ false)

-- a floating window of a node is a container that is not tiled
loose : (w x : ConId) (l : Level) (b : Bool) (room : ℕ) (f : Forest) → IsSoundRow l b room f → Once f → in_row x (first_floats (only w f)) ≡ true → IsLoose b x f
loose w x l b room end s once h = cc
loose w x l b room (con part kids floats rest) s once h =
    step (same part.id w) (has w kids) (has w floats) (loose w x (below l) true (room_below room part.kind) kids s.2 (once_kids part kids floats rest once))
    (loose w x containers false (room_below room part.kind) floats s.3 (once_floats part kids floats rest once)) (loose w x l b room rest s.4 (once_rest part kids floats rest once)) h
  where
    above : IsLoose false x floats → has x floats ≡ true → IsLoose b x (con part kids floats rest)
    above k e = let n = in_floats part kids floats rest once x e in (rw (n.0, n.1, e) k.0, rw (n.0, n.1, e) k.1)

    step : (a k m : Bool) → (in_row x (first_floats (only w kids)) ≡ true → IsLoose true x kids) → (in_row x (first_floats (only w floats)) ≡ true → IsLoose false x floats) → (in_row x (first_floats (only w rest)) ≡ true → IsLoose b x rest)
        → in_row x (first_floats (cond a (con part kids floats end) (cond k (only w kids) (cond m (only w floats) (only w rest))))) ≡ true → IsLoose b x (con part kids floats rest)
    step true k m u v y h = above (row_kid x false (room_below room part.kind) floats s.3 (once_floats part kids floats rest once) h) (has_row x floats h)
    step false true m u v y h =
        let e = has_only x w kids (floats_has x (only w kids) h) in
        let k = u h in
        (rw (in_kids part kids floats rest once x e, e) k.0, rw (in_kids part kids floats rest once x e, e) k.1)
    step false false true u v y h = above (v h) (has_only x w floats (floats_has x (only w floats) h))
    step false false false u v y h =
        let n = in_rest part kids floats rest once x (has_only x w rest (floats_has x (only w rest) h)) in
        let k = y h in
        (rw (n.0, n.1, n.2) k.0, rw (n.0, n.1, n.2) k.1)

not_space : (kind : Option Part) → kind_by con_kind kind ≢ None → is_some (kind_by space_kind kind) ≡ true → ⊥
not_space None n h = cc
not_space (Some part) n h = by part.kind n h where
  by : (kind : NodeKind) → con_kind kind ≢ None → is_some (space_kind kind) ≡ true → ⊥
  by (Root c) n h = n refl
  by (Output o) n h = n refl
  by (Space s) n h = n refl
  by (Con c) n h = cc

-- ---- raising what is tiled or a workspace

abbrev pub Stands : ConId → TreeValue → Type 0
Stands x t = (tiled_in false x t.nodes ≡ true) ⊎ (is_space t x ≡ true)

apart_floats : (w x : ConId) (t : TreeValue) → IsSound t → Stands x t → in_row x (first_floats (only w t.nodes)) ≡ false
apart_floats w x t s stands = by (in_row x (first_floats (only w t.nodes))) refl stands where
  by : (b : Bool) → in_row x (first_floats (only w t.nodes)) ≡ b → Stands x t → in_row x (first_floats (only w t.nodes)) ≡ false
  by false e h = e
  by true e (inl h) = let k = (loose w x roots false 0 t.nodes s.shaped s.once e).1 in absurd (cc)
  by true e (inr h) = absurd (not_space (first_part (only x t.nodes)) (loose w x roots false 0 t.nodes s.shaped s.once e).0 h)

pub raise_differs : (x : ConId) (t : TreeValue) → IsSound t → Stands x t → DifferInFocus (workspace_of t x) t (with_raised x t)
raise_differs x t s stands = by (workspace_of t x) refl where
  by : (o : Option ConId) → workspace_of t x ≡ o → DifferInFocus o t (record t { nodes = raised_at x o t.nodes; recency = raised x t.recency; urgent = without_id x t.urgent })
  by None e = (refl, refl)
  by (Some w) e =
      let k = raised_keeps w x t.nodes s.low (apart_floats w x t s stands) in
      (ap (λ f. record t { nodes = f; recency = []; urgent = [] }) k.bare, k.outside)
