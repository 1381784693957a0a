-- The leaf of a workspace is not within a container that is not tiled, which may come after it.
use Rattle.std.proofs.Common.{◌≡◌, ◌≢◌, ◌+◌, ◌≤◌, Bool, true, false, cond, ◌||◌, List, Option, None, Some, refl, ap, sym, ◌∙◌, subst, arith}
use Rattle.wm_base.specs.declared.ids.ConId.{ConId}
use Rattle.wm_floats.proofs.FloatLemmas.{window_con}
use Rattle.wm_floats.specs.Floating.{IsGoal, tiling_place}
use Rattle.wm_floats.specs.Windows.{natural_of}
use Rattle.wm_shared.proofs.ShowLemmas.{workspace_is, space_is}
use Rattle.wm_shared.proofs.SpaceLemmas.{IsSpaceIn, not_within}
use Rattle.wm_shared.proofs.KidLemmas.{con_there}
use Rattle.wm_tree.proofs.AlongLemmas.{space_there}
use Rattle.wm_forest.proofs.CountLemmas.{counted}
use Rattle.wm_forest.proofs.ForestLemmas.{only_absent}
use Rattle.wm_tree.proofs.LeafLaws.{first_there}
use Rattle.wm_forest.proofs.OnceLemmas.{in_floats, in_kids, in_rest, only_floats, only_kids, only_rest, spot_floats, spot_kids, spot_rest, within}
use Rattle.wm_tree.proofs.PlaceLemmas.{after_fits}
use Rattle.wm_forest.proofs.RecencyLemmas.{same_is, same_self}
use Rattle.wm_forest.specs.declared.part.NodeKind.{NodeKind}
use Rattle.wm_forest.specs.declared.part.NodeKind.TheVariants.{Root, Output, Space, Con}
use Rattle.wm_forest.specs.declared.part.Part.{Part}
use Rattle.wm_forest.specs.declared.place.Place.{Place}
use Rattle.wm_forest.specs.declared.place.Place.TheVariants.{After, Last}
use Rattle.wm_forest.specs.declared.spot.Spot.{Spot}
use Rattle.wm_forest.specs.Forest.{Forest, end, con}
use Rattle.wm_forest.specs.Look.{con_kind, first_part, has, kind_by, kind_of, only, same, space_kind}
use Rattle.wm_forest.specs.Place.{TakesFirst, TakesKids}
use Rattle.wm_forest.specs.Recency.{first_held}
use Rattle.wm_tree.specs.Sound.{IsSound}
use Rattle.wm_forest.specs.SoundRow.{one_of, tally}
use Rattle.wm_forest.specs.Spot.{spot_below, spot_in, spot_of, top}
use Rattle.wm_tree.specs.TreeValue.{TreeValue, is_con, is_tiled_con, is_tiled_spot, leaf, or_id, workspace_of}
use Rattle.wm_forest.specs.Focus.{follow, leaf_at, leaf_of, tiled_by}

abbrev Once : Forest → Type 0
Once f = (i : ConId) → tally i f ≤ 1

-- c is not tiled there, or not there
abbrev Loose : Spot → ConId → Forest → Type 0
Loose s c f = is_tiled_spot (spot_in s c f) ≡ false

-- d is in the forest, and not within c
abbrev Beside : ConId → ConId → Forest → Type 0
Beside c d f = (has d f ≡ true) × (has d (only c f) ≡ false)

spot_absent : (s : Spot) (c : ConId) (f : Forest) → has c f ≡ false → spot_in s c f ≡ None
spot_absent s c end h = refl
spot_absent s c (con part kids floats rest) h = step (same part.id c) (has c kids) (has c floats) (has c rest) h (spot_absent s c rest)
  where
    step : (a k l r : Bool) → (a || k || l || r) ≡ false → (r ≡ false → spot_in s c rest ≡ None)
        → cond a (Some (spot_of s part)) (cond k (spot_in (spot_below true s part) c kids) (cond l (spot_in (spot_below false s part) c floats) (spot_in s c rest))) ≡ None
    step true k l r h u = cc
    step false true l r h u = cc
    step false false true r h u = cc
    step false false false r h u = u h

-- what is not in a forest is within nothing of it
nowhere_in : (c d : ConId) (f : Forest) → tally d f ≤ 0 → has d (only c f) ≡ false
nowhere_in c d f none = by (has d (only c f)) refl
  where
    by : (b : Bool) → has d (only c f) ≡ b → b ≡ false
    by false e = refl
    by true e = let there = within c d f e in absurd (omega (arith, none, counted d f there.0))

module _ (c : ConId) (s : Spot) (part : Part) (kids floats rest : Forest) where
  abbrev node : Forest
  node = con part kids floats rest

  loose_kids : Once node → Loose s c node → Loose (spot_below true s part) c kids
  loose_kids once h = by (has c kids) refl
    where
      by : (b : Bool) → has c kids ≡ b → Loose (spot_below true s part) c kids
      by true e = ap is_tiled_spot (sym (spot_kids c s part kids floats rest (once c) e)) ∙ h
      by false e = ap is_tiled_spot (spot_absent (spot_below true s part) c kids e)

  loose_floats : Once node → Loose s c node → Loose (spot_below false s part) c floats
  loose_floats once h = by (has c floats) refl
    where
      by : (b : Bool) → has c floats ≡ b → Loose (spot_below false s part) c floats
      by true e = ap is_tiled_spot (sym (spot_floats c s part kids floats rest (once c) e)) ∙ h
      by false e = ap is_tiled_spot (spot_absent (spot_below false s part) c floats e)

  loose_rest : Once node → Loose s c node → Loose s c rest
  loose_rest once h = by (has c rest) refl
    where
      by : (b : Bool) → has c rest ≡ b → Loose s c rest
      by true e = ap is_tiled_spot (sym (spot_rest c s part kids floats rest (once c) e)) ∙ h
      by false e = ap is_tiled_spot (spot_absent s c rest e)

  -- the first node of a tiled row is not c
  not_first : s.tiled ≡ true → Loose s c node → same part.id c ≡ false
  not_first t h = by (same part.id c) h
    where
      by : (a : Bool) → is_tiled_spot (cond a (Some (spot_of s part)) (cond (has c kids) (spot_in (spot_below true s part) c kids) (cond (has c floats) (spot_in (spot_below false s part) c floats) (spot_in s c rest)))) ≡ false → a ≡ false
      by true h = let tiled : s.tiled ≡ false = h in absurd (cc (tiled, t))
      by false h = refl

-- d is not within c in a node whose rows it is not within c in
module _ (c d : ConId) (part : Part) (kids floats rest : Forest) where
  out : same part.id c ≡ false → has d (only c kids) ≡ false → has d (only c floats) ≡ false → has d (only c rest) ≡ false → has d (only c (con part kids floats rest)) ≡ false
  out first u v x = step (same part.id c) (has c kids) (has c floats) first
    where
      step : (a k l : Bool) → a ≡ false → has d (cond a (con part kids floats end) (cond k (only c kids) (cond l (only c floats) (only c rest)))) ≡ false
      step true k l h = cc
      step false true l h = u
      step false false true h = v
      step false false false h = x

-- ---- along tiled rows

module _ (ids : List ConId) (c : ConId) where
  leaf_row : (s : Spot) (row : Forest) → s.tiled ≡ true → Once row → Loose s c row → (i : ConId) → has i row ≡ true → Beside c (leaf_at ids row i) row
  leaf_row s end t once h i there = cc
  leaf_row s (con part kids floats rest) t once h i there =
      step (same part.id i || has i kids || has i floats || false) refl
      (low (first_held kids ids) refl (leaf_row (spot_below true s part) kids refl (λ j. omega (arith, once j)) (loose_kids c s part kids floats rest once h)))
      (leaf_row s rest t (λ j. omega (arith, once j)) (loose_rest c s part kids floats rest once h))
    where
      first : same part.id c ≡ false
      first = not_first c s part kids floats rest t h

      own : one_of part.id part ≡ 1
      own = rw (same_self part.id part.id refl) refl

      low : (o : Option ConId) → first_held kids ids ≡ o → ((j : ConId) → has j kids ≡ true → Beside c (leaf_at ids kids j) kids) → Beside c (follow part.id (leaf_at ids kids) o) (con part kids floats rest)
      low None e below =
          let once_own : one_of part.id part + tally part.id kids + tally part.id floats + tally part.id rest ≤ 1 = once part.id in (
            rw (same_self part.id part.id refl) refl,
            out c part.id part kids floats rest first (nowhere_in c part.id kids (omega (arith, once_own, own))) (nowhere_in c part.id floats (omega (arith, once_own, own))) (nowhere_in c part.id rest (omega (arith, once_own, own))),
          )
      low (Some j) e below =
          let d = leaf_at ids kids j in
          let b = below j (first_there kids ids j e) in
          let n = counted d kids b.0 in (
            in_kids d part kids floats rest b.0,
            out c d part kids floats rest first b.1 (nowhere_in c d floats (omega (arith, once d, n))) (nowhere_in c d rest (omega (arith, once d, n))),
          )

      behind : (a k l r : Bool) → (a || k || l || false) ≡ false → (a || k || l || r) ≡ true → r ≡ true
      behind true k l r e h = cc
      behind false true l r e h = cc
      behind false false true r e h = cc
      behind false false false r e h = h

      step : (b : Bool) → (same part.id i || has i kids || has i floats || false) ≡ b → Beside c (follow part.id (leaf_at ids kids) (first_held kids ids)) (con part kids floats rest)
          → ((j : ConId) → has j rest ≡ true → Beside c (leaf_at ids rest j) rest)
          → Beside c (cond b (follow part.id (leaf_at ids kids) (first_held kids ids)) (leaf_at ids rest i)) (con part kids floats rest)
      step true e u x = u
      step false e u x =
          let d = leaf_at ids rest i in
          let b = x i (behind (same part.id i) (has i kids) (has i floats) (has i rest) e there) in
          let n = counted d rest b.0 in (
            in_rest d part kids floats rest b.0,
            out c d part kids floats rest first (nowhere_in c d kids (omega (arith, once d, n))) (nowhere_in c d floats (omega (arith, once d, n))) b.1,
          )

-- ---- down to the workspace

module _ (ids : List ConId) (c w d : ConId) where
  -- w, which is not within c, has the leaf d, which is another one
  record Leads (f : Forest) : Type 0 where
    away : has w (only c f) ≡ false
    leads : leaf_of ids (only w f) ≡ Some d
    there : has w f ≡ true

  leaf_beside : same w d ≡ false → (s : Spot) (f : Forest) → Once f → Loose s c f → Leads f → Beside c d f
  leaf_beside other s end once h q = let bad = q.there in cc
  leaf_beside other s (con part kids floats rest) once h q =
      step (same part.id w) (has w kids) (has w floats) (has w rest) refl refl refl refl
      (leaf_beside other (spot_below true s part) kids (λ i. omega (arith, once i)) (loose_kids c s part kids floats rest once h))
      (leaf_beside other (spot_below false s part) floats (λ i. omega (arith, once i)) (loose_floats c s part kids floats rest once h))
      (leaf_beside other s rest (λ i. omega (arith, once i)) (loose_rest c s part kids floats rest once h))
    where
      -- one that holds w is not c
      not_c : has w (con part kids floats end) ≡ true → same part.id c ≡ false
      not_c k = by (same part.id c) q.away
        where
          by : (a : Bool) → has w (cond a (con part kids floats end) (cond (has c kids) (only c kids) (cond (has c floats) (only c floats) (only c rest)))) ≡ false → a ≡ false
          by true e = cc
          by false e = refl

      first_own : has part.id (con part kids floats end) ≡ true
      first_own = rw (same_self part.id part.id refl) refl

      in_row : (g : Forest) → (has c g ≡ true → only c (con part kids floats rest) ≡ only c g) → has w (only c g) ≡ false
      in_row g same_found = by (has c g) refl
        where
          by : (b : Bool) → has c g ≡ b → has w (only c g) ≡ false
          by true e = ap (λ z. has w z) (sym (same_found e)) ∙ q.away
          by false e = ap (λ z. has w z) (only_absent c g e)

      -- w is the first node
      tiled_has : (kind : NodeKind) (j : ConId) → has j (tiled_by kind kids) ≡ true → has j kids ≡ true
      tiled_has (Root x) j h = cc
      tiled_has (Output o) j h = cc
      tiled_has (Space x) j h = h
      tiled_has (Con x) j h = h

      here : same part.id w ≡ true → Beside c d (con part kids floats rest)
      here a = by (first_held (tiled_by part.kind kids) ids) refl (rw a at q.leads)
        where
          by : (o : Option ConId) → first_held (tiled_by part.kind kids) ids ≡ o → Some (follow part.id (leaf_at ids kids) (first_held (tiled_by part.kind kids) ids)) ≡ Some d → Beside c d (con part kids floats rest)
          by None e k =
              let one : part.id ≡ d = cc (e, k) in
              let two : part.id ≡ w = same_is part.id w a in
              let bad = same_self w d (sym two ∙ one) in
              absurd (cc (bad, other))
          by (Some j) e k =
              let b = leaf_row ids c (spot_below true s part) kids refl (λ i. omega (arith, once i)) (loose_kids c s part kids floats rest once h) j (tiled_has part.kind j (first_there (tiled_by part.kind kids) ids j e)) in
              let one : leaf_at ids kids j ≡ d = cc (e, k) in
              let On : ConId → Type 0 = λ z. Beside c z kids in
              let bd = subst On one b in
              let n = counted d kids bd.0 in
              let w_in : has w (con part kids floats end) ≡ true = rw a refl in (
                in_kids d part kids floats rest bd.0,
                out c d part kids floats rest (not_c w_in) bd.1 (nowhere_in c d floats (omega (arith, once d, n))) (nowhere_in c d rest (omega (arith, once d, n))),
              )

      by_kids : (Leads kids → Beside c d kids) → has w kids ≡ true → Beside c d (con part kids floats rest)
      by_kids u k =
          let b =
          u (record { away = in_row kids (only_kids c part kids floats rest (once c)); leads = ap (leaf_of ids) (sym (only_kids w part kids floats rest (once w) k)) ∙ q.leads; there = k }) in
          let n = counted d kids b.0 in (
            in_kids d part kids floats rest b.0,
            out c d part kids floats rest (not_c (in_kids w part kids floats end k)) b.1 (nowhere_in c d floats (omega (arith, once d, n))) (nowhere_in c d rest (omega (arith, once d, n))),
          )

      by_floats : (Leads floats → Beside c d floats) → has w floats ≡ true → Beside c d (con part kids floats rest)
      by_floats u k =
          let b =
          u (record { away = in_row floats (only_floats c part kids floats rest (once c)); leads = ap (leaf_of ids) (sym (only_floats w part kids floats rest (once w) k)) ∙ q.leads; there = k }) in
          let n = counted d floats b.0 in (
            in_floats d part kids floats rest b.0,
            out c d part kids floats rest (not_c (in_floats w part kids floats end k)) (nowhere_in c d kids (omega (arith, once d, n))) b.1 (nowhere_in c d rest (omega (arith, once d, n))),
          )

      by_rest : (Leads rest → Beside c d rest) → has w rest ≡ true → Beside c d (con part kids floats rest)
      by_rest u k =
          let b =
          u (record { away = in_row rest (only_rest c part kids floats rest (once c)); leads = ap (leaf_of ids) (sym (only_rest w part kids floats rest (once w) k)) ∙ q.leads; there = k }) in
          let n = counted d rest b.0 in
          let gone = λ (e : tally d (con part kids floats end) ≤ 0). nowhere_in c d (con part kids floats end) e in
          let far = gone (omega (arith, once d, n)) in
          (in_rest d part kids floats rest b.0, behind (same part.id c) (has c kids) (has c floats) far b.1)
        where
          behind : (a k l : Bool) → has d (cond a (con part kids floats end) (cond k (only c kids) (cond l (only c floats) end))) ≡ false → has d (only c rest) ≡ false
              → has d (cond a (con part kids floats end) (cond k (only c kids) (cond l (only c floats) (only c rest)))) ≡ false
          behind true k l u x = u
          behind false true l u x = u
          behind false false true u x = u
          behind false false false u x = x

      step : (a k l r : Bool) → same part.id w ≡ a → has w kids ≡ k → has w floats ≡ l → has w rest ≡ r → (Leads kids → Beside c d kids) → (Leads floats → Beside c d floats) → (Leads rest → Beside c d rest) → Beside c d (con part kids floats rest)
      step true k l r ea ek el er u v x = here ea
      step false true l r ea ek el er u v x = by_kids u ek
      step false false true r ea ek el er u v x = by_floats v el
      step false false false true ea ek el er u v x = by_rest x er
      step false false false false ea ek el er u v x = let bad : has w (con part kids floats rest) ≡ false = rw (ea, ek, el, er) refl in let good = q.there in absurd (cc (bad, good))

-- ---- the place

takes : (o : Option Part) → kind_by space_kind o ≢ None → TakesFirst o × (is_con o ≡ false)
takes None ok = absurd (ok refl)
takes (Some part) ok = by part.kind ok
  where
    by : (kind : NodeKind) → space_kind kind ≢ None → TakesKids kind × (is_con (Some (record part { kind = kind })) ≡ false)
    by (Root c) ok = absurd (ok refl)
    by (Output o) ok = absurd (ok refl)
    by (Space w) ok = (tt, refl)
    by (Con c) ok = absurd (ok refl)

con_true : (o : Option Part) → kind_by con_kind o ≢ None → is_con o ≡ true
con_true None ok = absurd (ok refl)
con_true (Some part) ok = by part.kind ok
  where
    by : (kind : NodeKind) → con_kind kind ≢ None → is_con (Some (record part { kind = kind })) ≡ true
    by (Root c) ok = absurd (ok refl)
    by (Output o) ok = absurd (ok refl)
    by (Space w) ok = absurd (ok refl)
    by (Con c) ok = refl

pub tiling_goal : (c w : ConId) (t : TreeValue) → IsSound t → natural_of c t ≢ None → workspace_of t c ≡ Some w → is_tiled_con t c ≡ false → IsGoal c (tiling_place w t) t
tiling_goal c w t s window h loose = by (is_tiled_con t (or_id (leaf t w) w)) refl
  where
    ok : kind_of con_kind c t.nodes ≢ None
    ok = window_con c t window

    ok_w : IsSpaceIn w t.nodes
    ok_w = space_is w t (workspace_is c w t s h)

    as_space : TakesFirst (first_part (only w t.nodes)) × (is_con (first_part (only w t.nodes)) ≡ false)
    as_space = takes (first_part (only w t.nodes)) ok_w

    away : has w (only c t.nodes) ≡ false
    away = not_within c w t s ok ok_w

    not_tiled : Loose top c t.nodes
    not_tiled = (rw (con_true (first_part (only c t.nodes)) ok) at loose)

    beyond : (o : Option ConId) → leaf t w ≡ o → is_tiled_con t (or_id o w) ≡ true → has (or_id o w) (only c t.nodes) ≡ false
    beyond None e tiled = away
    beyond (Some d) e tiled = (leaf_beside t.recency c w d (other (same w d) refl) top t.nodes s.once not_tiled (record { away = away; leads = e; there = space_there w t.nodes ok_w })).1
      where
        other : (b : Bool) → same w d ≡ b → b ≡ false
        other false k = refl
        other true k =
            let one = same_is w d k in
            let not_con : is_tiled_con t w ≡ false = rw as_space.1 refl in
            let Tiled : ConId → Type 0 = λ z. is_tiled_con t z ≡ true in
            let is : is_tiled_con t w ≡ true = subst Tiled (sym one) tiled in
            absurd (cc (not_con, is))

    by : (b : Bool) → is_tiled_con t (or_id (leaf t w) w) ≡ b → IsGoal c (cond b (After (or_id (leaf t w) w)) (Last w)) t
    by true e = let k = after_fits t (or_id (leaf t w) w) e in (con_there c t.nodes ok, k.0, (λ i. ok, k.1, λ i j. beyond (leaf t w) refl e))
    by false e = (con_there c t.nodes ok, space_there w t.nodes ok_w, (λ i. ok, λ i. as_space.0, λ i j. away))

pub tiling_by : (c w : ConId) (p : Place) (t : TreeValue) → p ≡ tiling_place w t → IsSound t → natural_of c t ≢ None → workspace_of t c ≡ Some w → is_tiled_con t c ≡ false → IsGoal c p t
tiling_by c w p t e s window h loose = rw e (tiling_goal c w t s window h loose)
