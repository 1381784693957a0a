-- Making a container fullscreen leaves each workspace at most one fullscreen container.
use Rattle.std.proofs.Common.{◌≡◌, ℕ, ◌+◌, ◌≤◌, Bool, true, false, cond, Option, None, Some, refl, ap, ◌∙◌, subst, arith}
use Rattle.std.specs.Option.{option_map}
use Rattle.wm_base.specs.declared.ids.ConId.{ConId}
use Rattle.wm_floats.specs.Fullscreen.{fullscreen_tree, others_unfull, unfull_but}
use Rattle.wm_floats.specs.Windows.{full_set, restated, state_of}
use Rattle.law_fullscreen.proofs.FullLemmas.{alone, elsewhere}
use Rattle.law_fullscreen.proofs.RowLemmas.{full_but, unfull_none, within-split, within-unfull}
use Rattle.law_fullscreen.proofs.WithinLemmas.{cond_most, within-most, within_at}
use Rattle.law_fullscreen.proofs.WordLemmas.{changed_most, one_full_set_off}
use Rattle.law_fullscreen.specs.Fullscreen.{IsSingle, full_of, within}
use Rattle.wm_forest.proofs.RecencyLemmas.{same_is}
use Rattle.wm_forest.specs.Change.{at, is_id, unfull_kind}
use Rattle.wm_forest.specs.declared.kind.KindEdit.TheVariants as edits
use Rattle.wm_forest.specs.declared.part.ConState.{ConState}
use Rattle.wm_forest.specs.declared.part.Part.{Part}
use Rattle.wm_forest.specs.Forest.{Forest, end, con}
use Rattle.wm_forest.specs.Kinds.{changed, kind_changed}
use Rattle.wm_forest.specs.Look.{same}
use Rattle.wm_tree.specs.Sound.{IsSound}
use Rattle.wm_forest.specs.SoundRow.{one_of}
use Rattle.wm_forest.specs.Spot.{space_at, top}
use Rattle.wm_tree.specs.TreeValue.{TreeValue, workspace_of}

-- ---- what neither change adds

but_most : (c : ConId) (part : Part) → full_but c part ≤ full_of part
but_most c part = by (same part.id c) (full_of part)
  where
    by : (b : Bool) (n : ℕ) → cond b 0 n ≤ n
    by true n = omega arith
    by false n = omega arith

but_unfull : (c : ConId) (part : Part) → full_but c (record part { kind = unfull_kind part.kind }) ≤ full_but c part
but_unfull c part = rw (unfull_none part.kind) (by (same part.id c))
  where
    by : (b : Bool) → cond b 0 0 ≤ cond b 0 (full_of part)
    by true = omega arith
    by false = omega arith

within-but : (w c : ConId) (space : Option ConId) (f : Forest) → within (full_but c) w space f ≤ within full_of w space f
within-but w c space end = omega arith
within-but w c space (con part kids floats rest) =
    omega (arith, cond_most (is_id w (space_at space part)) (full_but c part) (full_of part) (but_most c part), within-but w c (space_at space part) kids, within-but w c (space_at space part) floats, within-but w c space rest)

-- others that lose fullscreen
within-others : (m : Part → ℕ) (w c : ConId) (o : Option ConId) (t : TreeValue) → ((part : Part) → m (record part { kind = unfull_kind part.kind }) ≤ m part)
    → within m w None (others_unfull c o t).nodes ≤ within m w None t.nodes
within-others m w c None t less = omega arith
within-others m w c (Some v) t less =
    omega (
      arith,
      within_at m w v unfull_but c 0 (λ space part kids floats rest e. omega (arith, within-unfull m w c less (space_at space part) kids, within-unfull m w c less (space_at space part) floats)) None t.nodes,
    )

-- c that becomes fullscreen, or loses it
pub within-set : (m : Part → ℕ) (w c : ConId) (on : Bool) (t : TreeValue) → ((r : ConState) (part : Part) → same part.id c ≡ true → m (record part { kind = changed (edits.State r) part.kind }) ≤ m part)
    → within m w None (full_set on c t).nodes ≤ within m w None t.nodes
within-set m w c on t less = by (state_of c t)
  where
    by : (o : Option ConState) → within m w None (restated c (option_map (λ (s : ConState). record s { fullscreen = on }) o) t).nodes ≤ within m w None t.nodes
    by None = omega arith
    by (Some s) =
        let r : ConState = record s { fullscreen = on } in
        omega (arith, within_at m w c kind_changed (edits.State r) 0 (λ space part kids floats rest e. omega (arith, changed_most m w space (edits.State r) part kids floats rest (less r part e))) None t.nodes)

-- ---- c alone

pub but_own : (c : ConId) (r : ConState) (part : Part) → same part.id c ≡ true → full_but c (record part { kind = changed (edits.State r) part.kind }) ≤ full_but c part
but_own c r part e = rw e (omega arith)

filled : (c : ConId) (o : Option ConId) (t : TreeValue) → workspace_of t c ≡ o → IsSound t → IsSingle t.nodes → IsSingle (full_set true c (others_unfull c o t)).nodes
filled c o t is s one w = by o is
  where
    most : (v : Option ConId) → within full_of w None (full_set true c (others_unfull c v t)).nodes ≤ within (full_but c) w None (others_unfull c v t).nodes + within (one_of c) w None t.nodes
    most v =
        let u : TreeValue = others_unfull c v t in
        omega (
          arith,
          within-split w c None (full_set true c u).nodes,
          within-set (full_but c) w c true u (but_own c),
          within-set (one_of c) w c true u (λ r part e. omega arith),
          within-others (one_of c) w c v t (λ part. omega arith),
        )

    kept : (v : Option ConId) → within (full_but c) w None (others_unfull c v t).nodes ≤ 1
    kept v = omega (arith, one w, within-but w c None t.nodes, within-others (full_but c) w c v t (but_unfull c))

    other : (v : Option ConId) → workspace_of t c ≡ v → is_id w v ≡ false → within full_of w None (full_set true c (others_unfull c v t)).nodes ≤ 1
    other v e d =
        let none : within (one_of c) w None t.nodes ≡ 0 = elsewhere w c top t.nodes (s.once c) (ap (is_id w) e ∙ d) in
        omega (arith, most v, kept v, none)

    own : (v : ConId) → same w v ≡ true → within full_of w None (full_set true c (others_unfull c (Some v) t)).nodes ≤ 1
    own v d =
        let Alone : ConId → Type 0 = λ z. within (full_but c) w None (at z unfull_but c t.nodes) ≡ 0 in
        let none : within (full_but c) w None (others_unfull c (Some v) t).nodes ≡ 0 = subst Alone (same_is w v d) (alone w c None t.nodes refl (s.once w)) in
        omega (arith, most (Some v), none, within-most (one_of c) w None t.nodes, s.once c)

    by_test : (v : ConId) (b : Bool) → workspace_of t c ≡ Some v → same w v ≡ b → within full_of w None (full_set true c (others_unfull c (Some v) t)).nodes ≤ 1
    by_test v true e d = own v d
    by_test v false e d = other (Some v) e d

    by : (v : Option ConId) → workspace_of t c ≡ v → within full_of w None (full_set true c (others_unfull c v t)).nodes ≤ 1
    by None e = other None e refl
    by (Some v) e = by_test v (same w v) e refl

pub one_fullscreen : (c : ConId) (on : Bool) (t : TreeValue) → IsSound t → IsSingle t.nodes → IsSingle (fullscreen_tree c on t).nodes
one_fullscreen c true t s one = filled c (workspace_of t c) t refl s one
one_fullscreen c false t s one = one_full_set_off c t one
