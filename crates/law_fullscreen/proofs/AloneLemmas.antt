-- A container that becomes fullscreen is counted in its workspace, and alone there.
use Rattle.std.proofs.Common.{◌≡◌, ◌≢◌, ℕ, ◌≤◌, Bool, true, false, cond, ◌||◌, Option, None, Some, refl, ap, sym, ◌∙◌, subst, arith}
use Rattle.std.specs.Option.{option_map}
use Rattle.wm_base.specs.declared.ids.ConId.{ConId}
use Rattle.wm_floats.specs.Fullscreen.{is_full, others_unfull, unfull_but}
use Rattle.wm_floats.specs.Windows.{full_set, restated}
use Rattle.law_fullscreen.proofs.FillLemmas.{but_own, within-set}
use Rattle.law_fullscreen.proofs.FullLemmas.{alone, here_one}
use Rattle.law_fullscreen.proofs.HasOneLemmas.{IsFirst, counted_alike, first_found, left_none, none_counted}
use Rattle.law_fullscreen.proofs.LawLemmas.{sound_fullscreen}
use Rattle.law_fullscreen.proofs.RowLemmas.{full_but, space_unfull, within-split}
use Rattle.law_fullscreen.proofs.WithinLemmas.{cond_most, space_in, within-most}
use Rattle.law_fullscreen.proofs.WordLemmas.{space_changed}
use Rattle.law_fullscreen.specs.Fullscreen.{full_count, full_of, within}
use Rattle.law_fullscreen.specs.Laws.{FillingFillsAlone}
use Rattle.wm_forest.proofs.CountLemmas.{count-same, count-without, counted, tally-absent}
use Rattle.wm_forest.proofs.ForestLemmas.{only_absent}
use Rattle.wm_tree.proofs.RaiseLemmas.{count-unfull, unfull_one}
use Rattle.wm_forest.proofs.RecencyLemmas.{same_self}
use Rattle.wm_forest.specs.Change.{at, is_id, unfull, unfull_kind, without}
use Rattle.wm_forest.specs.Counts.{count, one_con}
use Rattle.wm_forest.specs.declared.kind.KindEdit.TheVariants as edits
use Rattle.wm_forest.specs.declared.part.ConPart.{ConPart}
use Rattle.wm_forest.specs.declared.part.ConState.{ConState}
use Rattle.wm_forest.specs.declared.part.NodeKind.{NodeKind}
use Rattle.wm_forest.specs.declared.part.NodeKind.TheVariants.{Root, Output, Space, Con}
use Rattle.wm_forest.specs.declared.part.Part.{Part}
use Rattle.wm_forest.specs.declared.part.SpacePart.{SpacePart}
use Rattle.wm_forest.specs.declared.spot.Spot.{Spot}
use Rattle.wm_forest.specs.Forest.{Forest, end, con}
use Rattle.wm_forest.specs.Kinds.{changed, kind_changed}
use Rattle.wm_forest.specs.Look.{con_kind, first_part, has, kind_by, kind_of, only, same, space_kind}
use Rattle.wm_tree.specs.Sound.{IsSound}
use Rattle.wm_forest.specs.SoundRow.{one_of, tally}
use Rattle.wm_forest.specs.Spot.{space_at, spot_below, spot_in, spot_of, top}
use Rattle.wm_tree.specs.TreeValue.{TreeValue, workspace_of}

-- ---- what a change leaves counts

module _ (m : Part → ℕ) (w : ConId) {X : Type 0} (c : ConId) (f : X → Part → Forest → Forest → Forest → Forest) (x : X)
    (here : (space : Option ConId) (part : Part) (kids floats rest : Forest) → within m w space (con part kids floats rest) ≤ within m w space (f x part kids floats rest))
  where
    keep_step : (a k l : Bool) (space : Option ConId) (part : Part) (kids floats rest : Forest)
        → within m w (space_at space part) kids ≤ within m w (space_at space part) (at c f x kids)
        → within m w (space_at space part) floats ≤ within m w (space_at space part) (at c f x floats)
        → within m w space rest ≤ within m w space (at c f x rest)
        → within m w space (con part kids floats rest)
        ≤ within m w space (cond a (f x part kids floats rest) (cond k (con part (at c f x kids) floats rest) (cond l (con part kids (at c f x floats) rest) (con part kids floats (at c f x rest)))))
    keep_step true k l space part kids floats rest p q r = here space part kids floats rest
    keep_step false true l space part kids floats rest p q r = omega (arith, p)
    keep_step false false true space part kids floats rest p q r = omega (arith, q)
    keep_step false false false space part kids floats rest p q r = omega (arith, r)

    -- a change that takes nothing where it is made
    within_keeps : (space : Option ConId) (forest : Forest) → within m w space forest ≤ within m w space (at c f x forest)
    within_keeps space end = omega arith
    within_keeps space (con part kids floats rest) =
        keep_step (same part.id c) (has c kids) (has c floats) space part kids floats rest (within_keeps (space_at space part) kids) (within_keeps (space_at space part) floats) (within_keeps space rest)

-- ids stay where they are when fullscreen is lost
ids-unfull : (w i c : ConId) (space : Option ConId) (f : Forest) → within (one_of i) w space (unfull c f) ≡ within (one_of i) w space f
ids-unfull w i c space end = refl
ids-unfull w i c space (con part kids floats rest) =
    step (same part.id c) (ids-unfull w i c (space_at space part) kids) (ids-unfull w i c (space_at space part) floats) (ids-unfull w i c space rest)
  where
    step : (b : Bool) → within (one_of i) w (space_at space part) (unfull c kids) ≡ within (one_of i) w (space_at space part) kids
        → within (one_of i) w (space_at space part) (unfull c floats) ≡ within (one_of i) w (space_at space part) floats → within (one_of i) w space (unfull c rest) ≡ within (one_of i) w space rest
        → within (one_of i) w space (con (cond b part (record part { kind = unfull_kind part.kind })) (unfull c kids) (unfull c floats) (unfull c rest)) ≡ within (one_of i) w space (con part kids floats rest)
    step true p q r = omega (arith, p, q, r)
    step false p q r = rw (space_unfull space part.id part.kind) (omega (arith, p, q, r))

-- ---- a node counts in its workspace

named_in : (w c : ConId) (s : Spot) (f : Forest) → has c f ≡ true → is_id w (space_in (spot_in s c f)) ≡ true → 1 ≤ within (one_of c) w s.space f
named_in w c s end h e = cc
named_in w c s (con part kids floats rest) h e =
    step (same part.id c) (has c kids) (has c floats) (has c rest) refl h e (named_in w c (spot_below true s part) kids) (named_in w c (spot_below false s part) floats) (named_in w c s rest)
  where
    step : (a k l r : Bool) → same part.id c ≡ a → (a || k || l || r) ≡ true
        → is_id w (space_in (cond a (Some (spot_of s part)) (cond k (spot_in (spot_below true s part) c kids) (cond l (spot_in (spot_below false s part) c floats) (spot_in s c rest))))) ≡ true
        → (k ≡ true → is_id w (space_in (spot_in (spot_below true s part) c kids)) ≡ true → 1 ≤ within (one_of c) w (space_at s.space part) kids)
        → (l ≡ true → is_id w (space_in (spot_in (spot_below false s part) c floats)) ≡ true → 1 ≤ within (one_of c) w (space_at s.space part) floats)
        → (r ≡ true → is_id w (space_in (spot_in s c rest)) ≡ true → 1 ≤ within (one_of c) w s.space rest)
        → 1 ≤ within (one_of c) w s.space (con part kids floats rest)
    step true k l r ea h d p q u =
        let own : cond (is_id w (space_at s.space part)) (one_of c part) 0 ≡ one_of c part = ap (λ b. cond b (one_of c part) 0) d in
        omega (arith, own, here_one c part ea)
    step false true l r ea h d p q u = omega (arith, p refl d)
    step false false true r ea h d p q u = omega (arith, q refl d)
    step false false false r ea h d p q u = omega (arith, u h d)

-- ---- what is made fullscreen counts

full_con : (r : ConState) (kind : NodeKind) → r.fullscreen ≡ true → con_kind kind ≢ None → is_full (changed (edits.State r) kind) ≡ true
full_con r (Root d) e ok = absurd (ok refl)
full_con r (Output o) e ok = absurd (ok refl)
full_con r (Space s) e ok = absurd (ok refl)
full_con r (Con d) e ok = e

one_most : (c : ConId) (part : Part) → one_of c part ≤ 1
one_most c part = by (same part.id c)
  where
    by : (b : Bool) → cond b 1 0 ≤ 1
    by true = omega arith
    by false = omega arith

nothing : (b : Bool) (n k : ℕ) → n ≡ 0 → cond b n 0 ≤ cond b k 0
nothing true n k e = omega (arith, e)
nothing false n k e = omega arith

full_there : (w c : ConId) (r : ConState) (space : Option ConId) (f : Forest) → r.fullscreen ≡ true → tally c f ≤ 1 → kind_by con_kind (first_part (only c f)) ≢ None
    → within (one_of c) w space (at c kind_changed (edits.State r) f) ≤ within full_of w space (at c kind_changed (edits.State r) f)
full_there w c r space end e once ok = omega arith
full_there w c r space (con part kids floats rest) e once ok =
    step (same part.id c) (has c kids) (has c floats) refl refl refl ok (full_there w c r (space_at space part) kids e (omega (arith, once))) (full_there w c r (space_at space part) floats e (omega (arith, once)))
    (full_there w c r space rest e (omega (arith, once)))
  where
    most : (v : Option ConId) (g : Forest) → within (one_of c) w v g ≤ tally c g
    most v g = within-most (one_of c) w v g

    here : same part.id c ≡ true → con_kind part.kind ≢ None → within (one_of c) w space (kind_changed (edits.State r) part kids floats rest) ≤ within full_of w space (kind_changed (edits.State r) part kids floats rest)
    here ea k =
        let now : Part = record part { kind = changed (edits.State r) part.kind } in
        let full : full_of now ≡ 1 = ap (λ b. cond {A = ℕ} b 1 0) (full_con r part.kind e k) in
        omega (
          arith,
          once,
          here_one c part ea,
          cond_most (is_id w (space_at space now)) (one_of c now) (full_of now) (omega (arith, full, one_most c now)),
          most (space_at space now) kids,
          most (space_at space now) floats,
          most space rest,
        )

    step : (a k l : Bool) → same part.id c ≡ a → has c kids ≡ k → has c floats ≡ l
        → kind_by con_kind (first_part (cond a (con part kids floats end) (cond k (only c kids) (cond l (only c floats) (only c rest))))) ≢ None
        → (kind_by con_kind (first_part (only c kids)) ≢ None → within (one_of c) w (space_at space part) (at c kind_changed (edits.State r) kids) ≤ within full_of w (space_at space part) (at c kind_changed (edits.State r) kids))
        → (kind_by con_kind (first_part (only c floats)) ≢ None → within (one_of c) w (space_at space part) (at c kind_changed (edits.State r) floats) ≤ within full_of w (space_at space part) (at c kind_changed (edits.State r) floats))
        → (kind_by con_kind (first_part (only c rest)) ≢ None → within (one_of c) w space (at c kind_changed (edits.State r) rest) ≤ within full_of w space (at c kind_changed (edits.State r) rest))
        → within (one_of c) w space (cond a (kind_changed (edits.State r) part kids floats rest) (cond k (con part (at c kind_changed (edits.State r) kids) floats rest) (cond l (con part kids (at c kind_changed (edits.State r) floats) rest) (con part kids floats (at c kind_changed (edits.State r) rest)))))
        ≤ within full_of w space (cond a (kind_changed (edits.State r) part kids floats rest) (cond k (con part (at c kind_changed (edits.State r) kids) floats rest) (cond l (con part kids (at c kind_changed (edits.State r) floats) rest) (con part kids floats (at c kind_changed (edits.State r) rest)))))
    step true k l ea ek el found p q u = here ea found
    step false true l ea ek el found p q u =
        let none : one_of c part ≡ 0 = ap (λ b. cond {A = ℕ} b 1 0) ea in
        omega (arith, once, nothing (is_id w (space_at space part)) (one_of c part) (full_of part) none, counted c kids ek, p found, most (space_at space part) floats, most space rest)
    step false false true ea ek el found p q u =
        let none : one_of c part ≡ 0 = ap (λ b. cond {A = ℕ} b 1 0) ea in
        omega (arith, once, nothing (is_id w (space_at space part)) (one_of c part) (full_of part) none, counted c floats el, q found, tally-absent c kids ek, most (space_at space part) kids, most space rest)
    step false false false ea ek el found p q u =
        let none : one_of c part ≡ 0 = ap (λ b. cond {A = ℕ} b 1 0) ea in
        omega (arith, once, nothing (is_id w (space_at space part)) (one_of c part) (full_of part) none, u found, tally-absent c kids ek, tally-absent c floats el, most (space_at space part) kids, most (space_at space part) floats)

-- ---- a container stays one

-- one for a container with the id c
abbrev con_id : ConId → Part → ℕ
con_id c part = cond (same part.id c) (one_con part.kind) 0

con_one : (b : Bool) (kind : NodeKind) → cond b (one_con kind) 0 ≤ cond b 1 0
con_one true (Root c) = omega arith
con_one true (Output o) = omega arith
con_one true (Space s) = omega arith
con_one true (Con c) = omega arith
con_one false kind = omega arith

cons_most : (c : ConId) (f : Forest) → count (con_id c) f ≤ tally c f
cons_most c end = omega arith
cons_most c (con part kids floats rest) = omega (arith, con_one (same part.id c) part.kind, cons_most c kids, cons_most c floats, cons_most c rest)

-- where the node c is a container, it is counted as one, and where it is counted as one, it is a container
con_first : (c : ConId) (f : Forest) → IsFirst c f → kind_by con_kind (first_part f) ≢ None → 1 ≤ count (con_id c) f
con_first c end first ok = absurd (ok refl)
con_first c (con part kids floats rest) first ok =
    let one : con_id c part ≡ one_con part.kind = ap (λ b. cond b (one_con part.kind) 0) first in
    omega (arith, one, by part.kind ok)
  where
    by : (kind : NodeKind) → con_kind kind ≢ None → one_con kind ≡ 1
    by (Root d) k = absurd (k refl)
    by (Output o) k = absurd (k refl)
    by (Space s) k = absurd (k refl)
    by (Con d) k = refl

first_con : (c : ConId) (f : Forest) → IsFirst c f → tally c f ≤ 1 → 1 ≤ count (con_id c) f → kind_by con_kind (first_part f) ≢ None
first_con c end first once some = absurd (omega (arith, some))
first_con c (con part kids floats rest) first once some = by part.kind refl
  where
    one : one_of c part ≡ 1
    one = here_one c part first

    none : one_con part.kind ≡ 0 → 1 ≤ 0
    none z =
        let zero : con_id c part ≡ 0 = ap (λ b. cond b (one_con part.kind) 0) first ∙ z in
        omega (arith, one, once, some, zero, cons_most c kids, cons_most c floats, cons_most c rest)

    by : (kind : NodeKind) → part.kind ≡ kind → con_kind kind ≢ None
    by (Root d) e = λ k. absurd (omega (arith, none (ap one_con e)))
    by (Output o) e = λ k. absurd (omega (arith, none (ap one_con e)))
    by (Space s) e = λ k. absurd (omega (arith, none (ap one_con e)))
    by (Con d) e = λ k. (let bad : Some d ≡ None = k in cc)

-- ---- the law

module _ (c w : ConId) (t : TreeValue) (s : IsSound t) (ok : kind_of con_kind c t.nodes ≢ None) (is : workspace_of t c ≡ Some w) where
  abbrev u : TreeValue
  u = others_unfull c (Some w) t

  same_cons : count (con_id c) u.nodes ≡ count (con_id c) t.nodes
  same_cons = count-same (con_id c) w unfull_but c (λ part kids floats rest. omega (arith, count-unfull c (con_id c) alike kids, count-unfull c (con_id c) alike floats)) t.nodes
    where
      alike : (part : Part) → con_id c (record part { kind = unfull_kind part.kind }) ≡ con_id c part
      alike part = ap (λ n. cond (same part.id c) n 0) (unfull_one part.kind)

  same_ids : tally c u.nodes ≡ tally c t.nodes
  same_ids = count-same (one_of c) w unfull_but c (λ part kids floats rest. omega (arith, count-unfull c (one_of c) (λ p. refl) kids, count-unfull c (one_of c) (λ p. refl) floats)) t.nodes

  still_con : kind_of con_kind c u.nodes ≢ None
  still_con =
      first_con c (only c u.nodes) (first_found c u.nodes) (omega (arith, same_ids, s.once c, count-without (one_of c) c u.nodes))
      (omega (
        arith,
        con_first c (only c t.nodes) (first_found c t.nodes) ok,
        count-without (con_id c) c t.nodes,
        same_cons,
        count-without (con_id c) c u.nodes,
        cons_most c (without c u.nodes),
        left_none c u.nodes (omega (arith, same_ids, s.once c)),
      ))

  is_there : has c t.nodes ≡ true
  is_there = by (has c t.nodes) refl
    where
      by : (b : Bool) → has c t.nodes ≡ b → b ≡ true
      by true e = refl
      by false e = absurd (ok (ap (λ z. kind_by con_kind (first_part z)) (only_absent c t.nodes e)))

  one_there : 1 ≤ within (one_of c) w None u.nodes
  one_there =
      omega (
        arith,
        named_in w c top t.nodes is_there (ap (is_id w) is ∙ same_self w w refl),
        within_keeps (one_of c) w w unfull_but c (λ space part kids floats rest. omega (arith, ids-unfull w c c (space_at space part) kids, ids-unfull w c c (space_at space part) floats)) None t.nodes,
      )

  full_counts : 1 ≤ within full_of w None (full_set true c u).nodes
  full_counts = by (kind_of con_kind c u.nodes) refl
    where
      by : (o : Option ConPart) → kind_of con_kind c u.nodes ≡ o → 1 ≤ within full_of w None (restated c (option_map (λ (x : ConState). record x { fullscreen = true }) (option_map (λ (p : ConPart). p.state) o)) u).nodes
      by None e = absurd (still_con e)
      by (Some p) e =
          let r : ConState = record p.state { fullscreen = true } in
          omega (
            arith,
            one_there,
            within_keeps (one_of c) w c kind_changed (edits.State r) (λ space part kids floats rest. rw (space_changed space part.id (edits.State r) part.kind) (omega arith)) None u.nodes,
            full_there w c r None u.nodes refl (omega (arith, same_ids, s.once c)) still_con,
          )

  no_other : within full_of w None (full_set true c u).nodes ≤ 1
  no_other =
      omega (
        arith,
        within-split w c None (full_set true c u).nodes,
        within-set (full_but c) w c true u (but_own c),
        within-set (one_of c) w c true u (λ r part e. omega arith),
        alone w c None t.nodes refl (s.once w),
        within-most (one_of c) w None u.nodes,
        same_ids,
        s.once c,
      )

  filled_alone : full_count w (full_set true c u) ≡ 1
  filled_alone = by (kind_of space_kind w (full_set true c u).nodes) refl
    where
      sound : IsSound (full_set true c u)
      sound =
          let Now : Option ConId → Type 0 = λ z. IsSound (full_set true c (others_unfull c z t)) in
          subst Now is (sound_fullscreen c true t s)

      by : (o : Option SpacePart) → kind_of space_kind w (full_set true c u).nodes ≡ o → full_count w (full_set true c u) ≡ 1
      by None e = absurd (omega (arith, full_counts, none_counted w (full_set true c u) sound e))
      by (Some p) e = omega (arith, full_counts, no_other, counted_alike w (full_set true c u) sound (λ none. (let bad : Some p ≡ None = sym e ∙ none in cc)))

pub filling_fills_alone : FillingFillsAlone
filling_fills_alone c w t s ok is =
    let Full : Option ConId → Type 0 = λ z. full_count w (full_set true c (others_unfull c z t)) ≡ 1 in
    subst Full (sym is) (filled_alone c w t s ok is)
