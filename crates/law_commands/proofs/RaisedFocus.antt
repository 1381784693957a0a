-- What is raised in the workspace that is shown is focused.
use Rattle.std.proofs.Common.{◌≡◌, ◌+◌, ◌≤◌, Bool, true, false, cond, ◌||◌, List, [], ◌∷◌, Option, None, Some, refl, ap, sym, ◌∙◌, subst, arith}
use Rattle.law_commands.proofs.ShownLemmas.{IsShown, bare, bare_raised, shown_alike}
use Rattle.law_commands.proofs.UnderLemmas.{IsUnder, space_under, under_raised}
use Rattle.wm_base.specs.declared.ids.ConId.{ConId}
use Rattle.wm_shared.proofs.ShowLemmas.{space_is}
use Rattle.wm_shared.proofs.SpaceLemmas.{IsSpaceIn}
use Rattle.wm_shared.proofs.SpaceOfLemmas.{IsLow, LowKind}
use Rattle.wm_shared.proofs.StandingLemmas.{of_output, stands_has, stands_space}
use Rattle.wm_shared.specs.Subject.{IsSubject, is_subject_kind}
use Rattle.wm_tree.proofs.AttachLemmas.{has_row}
use Rattle.wm_forest.proofs.OnceLemmas.{only_kids, only_rest}
use Rattle.wm_tree.proofs.OutputRows.{by_row}
use Rattle.wm_tree.proofs.RaiseLemmas.{sound-raised}
use Rattle.wm_forest.specs.Change.{at, raised_in, raised_at}
use Rattle.wm_forest.specs.declared.part.NodeKind.{NodeKind}
use Rattle.wm_forest.specs.declared.part.NodeKind.TheVariants.{Root, Output, Space, Con}
use Rattle.wm_forest.specs.declared.part.Part.{Part}
use Rattle.wm_forest.specs.Forest.{Forest, end, con}
use Rattle.wm_forest.specs.Look.{con_kind, first_alone, first_kids, first_part, has, in_row, kind_by, node_in, only, same, space_kind}
use Rattle.wm_forest.specs.Recency.{first_held, lists, raised}
use Rattle.wm_tree.specs.Sound.{IsSound}
use Rattle.wm_forest.specs.SoundRow.{rank_of, ranked, ranks, tally, times}
use Rattle.wm_tree.specs.TreeValue.{TreeValue, current, focused, or_id, shown, shown_space}
use Rattle.wm_tree.specs.Words.{with_raised}

-- ---- what stands in the workspace that is shown

-- a node of a row, alone
alone_in : (w : ConId) (row : Forest) → in_row w row ≡ true → tally w row ≤ 1 → only w row ≡ first_alone (node_in w row)
alone_in w row h once =
    by_row w (λ row part kids floats rest. rest) end (λ old new found. found ≡ first_alone (node_in w old)) (λ part kids floats rest e. rw e refl) (λ part kids floats rest new found e g. rw e g) row h once

-- a workspace is found where it stands, on its output
on_output : (w o : ConId) (row : Forest) → in_row w (first_kids (node_in o row)) ≡ true → tally w row ≤ 1 → only w row ≡ first_alone (node_in w (first_kids (node_in o row)))
on_output w o end h once = cc
on_output w o (con part kids floats rest) h once = step (same part.id o) h (on_output w o rest)
  where
    step : (a : Bool) → in_row w (first_kids (cond a (con part kids floats rest) (node_in o rest))) ≡ true
        → (in_row w (first_kids (node_in o rest)) ≡ true → tally w rest ≤ 1 → only w rest ≡ first_alone (node_in w (first_kids (node_in o rest))))
        → only w (con part kids floats rest) ≡ first_alone (node_in w (first_kids (cond a (con part kids floats rest) (node_in o rest))))
    step true h u = only_kids w part kids floats rest once (has_row w kids h) ∙ alone_in w kids h (omega (arith, once))
    step false h u = only_rest w part kids floats rest once (stands_has w rest (of_output w o rest h)) ∙ u h (omega (arith, once))

found_shown : (w o : ConId) (f : Forest) → IsShown w o f → tally w f ≤ 1 → only w f ≡ first_alone (node_in w (first_kids (node_in o (first_kids f))))
found_shown w o end s once = let on = s.on in cc
found_shown w o (con part kids floats rest) s once =
    only_kids w part kids floats rest once (stands_has w kids (of_output w o kids s.on)) ∙ on_output w o kids s.on (omega (arith, once))

is_the_shown : (w o : ConId) (t : TreeValue) → IsShown w o t.nodes → shown t ≡ w
is_the_shown w o t s = rw (s.now, s.shows) refl

the_shown_space : (w o : ConId) (t : TreeValue) → IsSound t → IsShown w o t.nodes → shown_space t ≡ only w t.nodes
the_shown_space w o t s h = ap (λ z. first_alone (node_in z (first_kids (node_in (current t) (first_kids t.nodes))))) (is_the_shown w o t h) ∙ (ap (λ z. first_alone (node_in w (first_kids (node_in z (first_kids t.nodes))))) h.now ∙ sym (found_shown w o t.nodes h (s.once w)))

-- a workspace that is shown is one
pub shown_is : (w o : ConId) (t : TreeValue) → IsSound t → IsShown w o t.nodes → IsSpaceIn w t.nodes
shown_is w o t s h = space_is w t (stands_space w t s (of_output w o (first_kids t.nodes) h.on))

-- ---- what was raised is focused

first_of : (f : Forest) (c d : ConId) (ids : List ConId) → lists c ids ≡ true → has c f ≡ true → or_id (first_held f (raised c ids)) d ≡ c
first_of f c d ids l h = rw (l, h) refl

-- what is raised in the workspace that is shown is focused
pub raised_focused : (c w o : ConId) (t : TreeValue) → IsSound t → IsShown w o t.nodes → IsUnder c w t.nodes → lists c t.recency ≡ true → focused (with_raised c t) ≡ c
raised_focused c w o t s h u l =
    let there = space_under c w t s (shown_is w o t s h) u.under in
    let nodes : (with_raised c t).nodes ≡ at w raised_in c t.nodes = ap (λ z. raised_at c z t.nodes) there in
    let shown_new : IsShown w o (with_raised c t).nodes = shown_alike w o t.nodes (with_raised c t).nodes (ap bare nodes ∙ bare_raised c w t.nodes) h in
    let under_new : IsUnder c w (with_raised c t).nodes = subst (IsUnder c w) (sym nodes) (under_raised c w t.nodes u) in
    let held : has c (shown_space (with_raised c t)) ≡ true = ap (has c) (the_shown_space w o (with_raised c t) (sound-raised c t s) shown_new) ∙ under_new.under in
    first_of (shown_space (with_raised c t)) c (shown (with_raised c t)) t.recency l held

-- ---- recency has each workspace and container

listed : (c : ConId) (ids : List ConId) → 1 ≤ times c ids → lists c ids ≡ true
listed c [] h = absurd (omega (arith, h))
listed c (id ∷ ids) h = step (same id c) h (listed c ids)
  where
    step : (a : Bool) → 1 ≤ cond a 1 0 + times c ids → (1 ≤ times c ids → lists c ids ≡ true) → (a || lists c ids) ≡ true
    step true h u = refl
    step false h u = u (omega (arith, h))

low_ranks : (kind : NodeKind) → LowKind kind → ranks kind ≡ 1
low_ranks (Root c) ok = absurd ok
low_ranks (Output o) ok = absurd ok
low_ranks (Space w) ok = refl
low_ranks (Con c) ok = refl

low_ranked : (c : ConId) (f : Forest) → IsLow (first_part (only c f)) → 1 ≤ ranked c f
low_ranked c end ok = absurd ok
low_ranked c (con part kids floats rest) ok = step (same part.id c) (has c kids) (has c floats) refl ok (low_ranked c kids) (low_ranked c floats) (low_ranked c rest)
  where
    step : (a k l : Bool) → same part.id c ≡ a → IsLow (first_part (cond a (con part kids floats end) (cond k (only c kids) (cond l (only c floats) (only c rest)))))
        → (IsLow (first_part (only c kids)) → 1 ≤ ranked c kids) → (IsLow (first_part (only c floats)) → 1 ≤ ranked c floats) → (IsLow (first_part (only c rest)) → 1 ≤ ranked c rest)
        → 1 ≤ ranked c (con part kids floats rest)
    step true k l e ok u v x = let one : rank_of c part ≡ 1 = rw e (low_ranks part.kind ok) in omega (arith, one)
    step false true l e ok u v x = omega (arith, u ok)
    step false false true e ok u v x = omega (arith, v ok)
    step false false false e ok u v x = omega (arith, x ok)

pub subject_low : (c : ConId) (t : TreeValue) → IsSubject t c → IsLow (first_part (only c t.nodes))
subject_low c t h = by (first_part (only c t.nodes)) h.kind
  where
    by : (o : Option Part) → is_subject_kind (kind_by space_kind o) (kind_by con_kind o) ≡ true → IsLow o
    by None h = cc
    by (Some part) h = by_kind part.kind h
      where
        by_kind : (kind : NodeKind) → is_subject_kind (space_kind kind) (con_kind kind) ≡ true → LowKind kind
        by_kind (Root d) h = cc
        by_kind (Output o) h = cc
        by_kind (Space w) h = tt
        by_kind (Con d) h = tt

pub subject_listed : (c : ConId) (t : TreeValue) → IsSubject t c → lists c t.recency ≡ true
subject_listed c t h = listed c t.recency (omega (arith, h.sound.known c, low_ranked c t.nodes (subject_low c t h)))
