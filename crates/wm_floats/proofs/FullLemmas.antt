-- Taking fullscreen from the other containers of a workspace, one after another.
use Rattle.std.proofs.Common.{◌≡◌, ℕ, ◌+◌, ◌≤◌, ◌<◌, Bool, true, false, cond, ◌&&◌, not, Option, None, Some, refl, ap, sym, ◌∙◌, subst, arith, if◌then◌else◌}
use Rattle.std.specs.Option.{option_map, option_or}
use Rattle.std.specs.Prelude.{is_none}
use Rattle.wm_base.specs.declared.ids.ConId.{ConId}
use Rattle.wm_floats.specs.Fullscreen.{fills_alone, full_in, is_full, other_full, others_unfull, unfull_but}
use Rattle.wm_floats.specs.Windows.{full_set, restated, state_of}
use Rattle.wm_forest.proofs.CountLemmas.{counted}
use Rattle.wm_forest.proofs.OnceLemmas.{in_floats, in_kids, in_rest, only_floats, only_kids, only_rest}
use Rattle.wm_forest.proofs.RecencyLemmas.{same_is, same_self}
use Rattle.wm_forest.specs.declared.kind.KindEdit.{KindEdit}
use Rattle.wm_forest.specs.declared.kind.KindEdit.TheVariants as edits
use Rattle.wm_forest.specs.declared.part.ConPart.{ConPart}
use Rattle.wm_forest.specs.declared.part.ConState.{ConState}
use Rattle.wm_forest.specs.declared.part.NodeKind.{NodeKind}
use Rattle.wm_forest.specs.declared.part.NodeKind.TheVariants.{Root, Output, Space, Con}
use Rattle.wm_forest.specs.declared.part.Part.{Part}
use Rattle.wm_forest.specs.Change.{at, unfull, unfull_kind}
use Rattle.wm_forest.specs.Counts.{count}
use Rattle.wm_forest.specs.Forest.{Forest, end, con}
use Rattle.wm_forest.specs.Kinds.{changed, kind_changed}
use Rattle.wm_forest.specs.Look.{con_kind, first_part, has, kind_by, kind_of, only, same}
use Rattle.wm_tree.specs.Sound.{IsSound}
use Rattle.wm_forest.specs.SoundRow.{one_of, tally}
use Rattle.wm_tree.specs.TreeValue.{TreeValue}

abbrev Once : Forest → Type 0
Once f = (i : ConId) → tally i f ≤ 1

-- ---- one that loses fullscreen

abbrev clear_word : Bool → Part → Forest → Forest → Forest → Forest
clear_word b part kids floats rest = con (record part { kind = unfull_kind part.kind }) kids floats rest

abbrev cleared : ConId → Forest → Forest
cleared i f = at i clear_word true f

as_cleared : (i : ConId) (p : ConPart) (f : Forest) → kind_by con_kind (first_part (only i f)) ≡ Some p → at i kind_changed (edits.State (record p.state { fullscreen = false })) f ≡ cleared i f
as_cleared i p end h = cc
as_cleared i p (con part kids floats rest) h = step (same part.id i) (has i kids) (has i floats) h (as_cleared i p kids) (as_cleared i p floats) (as_cleared i p rest)
  where
    by_kind : (k : NodeKind) → con_kind k ≡ Some p → changed (edits.State (record p.state { fullscreen = false })) k ≡ unfull_kind k
    by_kind (Root d) h = cc
    by_kind (Output o) h = cc
    by_kind (Space w) h = cc
    by_kind (Con d) h = let e : d ≡ p = cc in rw e refl

    step : (a k l : Bool) → kind_by con_kind (first_part (cond a (con part kids floats end) (cond k (only i kids) (cond l (only i floats) (only i rest))))) ≡ Some p
        → (kind_by con_kind (first_part (only i kids)) ≡ Some p → at i kind_changed (edits.State (record p.state { fullscreen = false })) kids ≡ cleared i kids)
        → (kind_by con_kind (first_part (only i floats)) ≡ Some p → at i kind_changed (edits.State (record p.state { fullscreen = false })) floats ≡ cleared i floats)
        → (kind_by con_kind (first_part (only i rest)) ≡ Some p → at i kind_changed (edits.State (record p.state { fullscreen = false })) rest ≡ cleared i rest)
        → cond a (kind_changed (edits.State (record p.state { fullscreen = false })) part kids floats rest) (cond k (con part (at i kind_changed (edits.State (record p.state { fullscreen = false })) kids) floats rest) (cond l (con part kids (at i kind_changed (edits.State (record p.state { fullscreen = false })) floats) rest) (con part kids floats (at i kind_changed (edits.State (record p.state { fullscreen = false })) rest))))
        ≡ cond a (clear_word true part kids floats rest) (cond k (con part (cleared i kids) floats rest) (cond l (con part kids (cleared i floats) rest) (con part kids floats (cleared i rest))))
    step true k l h u v x = ap (λ (z : NodeKind). con (record part { kind = z }) kids floats rest) (by_kind part.kind h)
    step false true l h u v x = ap (λ z. con part z floats rest) (u h)
    step false false true h u v x = ap (λ z. con part kids z rest) (v h)
    step false false false h u v x = ap (λ z. con part kids floats z) (x h)

has_cleared : (w i : ConId) (f : Forest) → has w (cleared i f) ≡ has w f
has_cleared w i end = refl
has_cleared w i (con part kids floats rest) = step (same part.id i) (has i kids) (has i floats) (has_cleared w i kids) (has_cleared w i floats) (has_cleared w i rest)
  where
    step : (a k l : Bool) → has w (cleared i kids) ≡ has w kids → has w (cleared i floats) ≡ has w floats → has w (cleared i rest) ≡ has w rest
        → has w (cond a (clear_word true part kids floats rest) (cond k (con part (cleared i kids) floats rest) (cond l (con part kids (cleared i floats) rest) (con part kids floats (cleared i rest))))) ≡ has w (con part kids floats rest)
    step true k l u v x = refl
    step false true l u v x = rw u refl
    step false false true u v x = rw v refl
    step false false false u v x = rw x refl

twice : (k : NodeKind) → unfull_kind (unfull_kind k) ≡ unfull_kind k
twice (Root d) = refl
twice (Output o) = refl
twice (Space w) = refl
twice (Con d) = refl

-- it would lose that with the others all the same
unfull_cleared : (c i : ConId) (f : Forest) → same i c ≡ false → unfull c (cleared i f) ≡ unfull c f
unfull_cleared c i end h = refl
unfull_cleared c i (con part kids floats rest) h = step (same part.id i) (has i kids) (has i floats) refl (unfull_cleared c i kids h) (unfull_cleared c i floats h) (unfull_cleared c i rest h)
  where
    step : (a k l : Bool) → same part.id i ≡ a → unfull c (cleared i kids) ≡ unfull c kids → unfull c (cleared i floats) ≡ unfull c floats → unfull c (cleared i rest) ≡ unfull c rest
        → unfull c (cond a (clear_word true part kids floats rest) (cond k (con part (cleared i kids) floats rest) (cond l (con part kids (cleared i floats) rest) (con part kids floats (cleared i rest))))) ≡ unfull c (con part kids floats rest)
    step true k l e u v x =
        let Other : ConId → Type 0 = λ z. same z c ≡ false in
        let other : same part.id c ≡ false = subst Other (sym (same_is part.id i e)) h in
        rw (other, twice part.kind) refl
    step false true l e u v x = rw u refl
    step false false true e u v x = rw v refl
    step false false false e u v x = rw x refl

-- ---- where no other is fullscreen

or_none : (a b : Option ConId) → option_or a b ≡ None → (a ≡ None) × (b ≡ None)
or_none None b h = (refl, h)
or_none (Some x) b h = cc

none_full : (c : ConId) (f : Forest) → other_full c f ≡ None → unfull c f ≡ f
none_full c end h = refl
none_full c (con part kids floats rest) h = step (same part.id c) (is_full part.kind) refl (none_full c kids) (none_full c floats) (none_full c rest) h
  where
    by_kind : (k : NodeKind) → is_full k ≡ false → unfull_kind k ≡ k
    by_kind (Root d) e = refl
    by_kind (Output o) e = refl
    by_kind (Space w) e = refl
    by_kind (Con d) e = ap (λ (b : Bool). Con (record d { state = record d.state { fullscreen = b } })) (sym e)

    rows : (p : Part) → p ≡ part → (other_full c kids ≡ None → unfull c kids ≡ kids) → (other_full c floats ≡ None → unfull c floats ≡ floats) → (other_full c rest ≡ None → unfull c rest ≡ rest)
        → option_or (other_full c kids) (option_or (other_full c floats) (other_full c rest)) ≡ None → con p (unfull c kids) (unfull c floats) (unfull c rest) ≡ con part kids floats rest
    rows p e u v x n =
        let one = or_none (other_full c kids) (option_or (other_full c floats) (other_full c rest)) n in
        let two = or_none (other_full c floats) (other_full c rest) one.1 in
        rw (e, u one.0, v two.0, x two.1) refl

    step : (a b : Bool) → is_full part.kind ≡ b → (other_full c kids ≡ None → unfull c kids ≡ kids) → (other_full c floats ≡ None → unfull c floats ≡ floats) → (other_full c rest ≡ None → unfull c rest ≡ rest)
        → cond (not a && b) (Some part.id) (option_or (other_full c kids) (option_or (other_full c floats) (other_full c rest))) ≡ None
        → con (cond a part (record part { kind = unfull_kind part.kind })) (unfull c kids) (unfull c floats) (unfull c rest) ≡ con part kids floats rest
    step true b e u v x n = rows part refl u v x n
    step false true e u v x n = cc
    step false false e u v x n = rows (record part { kind = unfull_kind part.kind }) (ap (λ (z : NodeKind). record part { kind = z }) (by_kind part.kind e)) u v x n

pub none_in : (w c : ConId) (f : Forest) → full_in w c f ≡ None → at w unfull_but c f ≡ f
none_in w c end h = refl
none_in w c (con part kids floats rest) h = step (same part.id w) (has w kids) (has w floats) h (none_in w c kids) (none_in w c floats) (none_in w c rest)
  where
    step : (a k l : Bool) → cond a (option_or (other_full c kids) (other_full c floats)) (option_or (full_in w c kids) (option_or (full_in w c floats) (full_in w c rest))) ≡ None
        → (full_in w c kids ≡ None → at w unfull_but c kids ≡ kids) → (full_in w c floats ≡ None → at w unfull_but c floats ≡ floats) → (full_in w c rest ≡ None → at w unfull_but c rest ≡ rest)
        → cond a (unfull_but c part kids floats rest) (cond k (con part (at w unfull_but c kids) floats rest) (cond l (con part kids (at w unfull_but c floats) rest) (con part kids floats (at w unfull_but c rest)))) ≡ con part kids floats rest
    step true k l n u v x = let one = or_none (other_full c kids) (other_full c floats) n in rw (none_full c kids one.0, none_full c floats one.1) refl
    step false true l n u v x = let one = or_none (full_in w c kids) (option_or (full_in w c floats) (full_in w c rest)) n in ap (λ z. con part z floats rest) (u one.0)
    step false false true n u v x =
        let one = or_none (full_in w c kids) (option_or (full_in w c floats) (full_in w c rest)) n in
        let two = or_none (full_in w c floats) (full_in w c rest) one.1 in
        ap (λ z. con part kids z rest) (v two.0)
    step false false false n u v x =
        let one = or_none (full_in w c kids) (option_or (full_in w c floats) (full_in w c rest)) n in
        let two = or_none (full_in w c floats) (full_in w c rest) one.1 in
        ap (λ z. con part kids floats z) (x two.1)

-- ---- the one that is found

abbrev first_full : Option Part → Bool
first_full None = false
first_full (Some p) = is_full p.kind

-- i is there, is not c, and is fullscreen
record Full (c i : ConId) (f : Forest) : Type 0 where
  there : has i f ≡ true
  other : same i c ≡ false
  full : first_full (first_part (only i f)) ≡ true

module _ (c i : ConId) (part : Part) (kids floats rest : Forest) where
  full_kids : Once (con part kids floats rest) → Full c i kids → Full c i (con part kids floats rest)
  full_kids once q = record { there = in_kids i part kids floats rest q.there; other = q.other; full = ap (λ z. first_full (first_part z)) (only_kids i part kids floats rest (once i) q.there) ∙ q.full }

  full_floats : Once (con part kids floats rest) → Full c i floats → Full c i (con part kids floats rest)
  full_floats once q = record { there = in_floats i part kids floats rest q.there; other = q.other; full = ap (λ z. first_full (first_part z)) (only_floats i part kids floats rest (once i) q.there) ∙ q.full }

  full_rest : Once (con part kids floats rest) → Full c i rest → Full c i (con part kids floats rest)
  full_rest once q = record { there = in_rest i part kids floats rest q.there; other = q.other; full = ap (λ z. first_full (first_part z)) (only_rest i part kids floats rest (once i) q.there) ∙ q.full }

found_full : (c i : ConId) (f : Forest) → Once f → other_full c f ≡ Some i → Full c i f
found_full c i end once h = cc
found_full c i (con part kids floats rest) once h =
    step (same part.id c) (is_full part.kind) refl refl h (found_full c i kids (λ j. omega (arith, once j))) (found_full c i floats (λ j. omega (arith, once j))) (found_full c i rest (λ j. omega (arith, once j)))
  where
    here : part.id ≡ i → same part.id c ≡ false → is_full part.kind ≡ true → Full c i (con part kids floats rest)
    here e a b =
        let own = same_self part.id i e in
        let Other : ConId → Type 0 = λ z. same z c ≡ false in
        record { there = rw own refl; other = subst Other e a; full = rw own b }

    rows : (x y z : Option ConId) → other_full c kids ≡ x → other_full c floats ≡ y → other_full c rest ≡ z → option_or x (option_or y z) ≡ Some i → (other_full c kids ≡ Some i → Full c i kids) → (other_full c floats ≡ Some i → Full c i floats) → (other_full c rest ≡ Some i → Full c i rest) → Full c i (con part kids floats rest)
    rows (Some j) y z ex ey ez n u v w = full_kids c i part kids floats rest once (u (ex ∙ n))
    rows None (Some j) z ex ey ez n u v w = full_floats c i part kids floats rest once (v (ey ∙ n))
    rows None None z ex ey ez n u v w = full_rest c i part kids floats rest once (w (ez ∙ n))

    step : (a b : Bool) → same part.id c ≡ a → is_full part.kind ≡ b → cond (not a && b) (Some part.id) (option_or (other_full c kids) (option_or (other_full c floats) (other_full c rest))) ≡ Some i → (other_full c kids ≡ Some i → Full c i kids) → (other_full c floats ≡ Some i → Full c i floats) → (other_full c rest ≡ Some i → Full c i rest) → Full c i (con part kids floats rest)
    step true b ea eb n u v w = rows (other_full c kids) (other_full c floats) (other_full c rest) refl refl refl n u v w
    step false true ea eb n u v w = let e : part.id ≡ i = cc in here e ea eb
    step false false ea eb n u v w = rows (other_full c kids) (other_full c floats) (other_full c rest) refl refl refl n u v w

-- ---- what is changed there

absent : (i : ConId) (f : Forest) → tally i f ≤ 0 → has i f ≡ false
absent i f h = by (has i f) refl
  where
    by : (b : Bool) → has i f ≡ b → b ≡ false
    by true e = absurd (omega (arith, h, counted i f e))
    by false e = refl

not_here : (i : ConId) (part : Part) → one_of i part ≤ 0 → same part.id i ≡ false
not_here i part h = by (same part.id i) h
  where
    by : (b : Bool) → cond b 1 0 ≤ 0 → b ≡ false
    by true h = absurd (omega (arith, h))
    by false h = refl

module _ {X : Type 0} (i : ConId) (f : X → Part → Forest → Forest → Forest → Forest) (x : X) (part : Part) (kids floats rest : Forest) where
  at_in_kids : same part.id i ≡ false → has i kids ≡ true → at i f x (con part kids floats rest) ≡ con part (at i f x kids) floats rest
  at_in_kids a k = rw (a, k) refl

  at_in_floats : same part.id i ≡ false → has i kids ≡ false → has i floats ≡ true → at i f x (con part kids floats rest) ≡ con part kids (at i f x floats) rest
  at_in_floats a k l = rw (a, k, l) refl

  at_in_rest : same part.id i ≡ false → has i kids ≡ false → has i floats ≡ false → at i f x (con part kids floats rest) ≡ con part kids floats (at i f x rest)
  at_in_rest a k l = rw (a, k, l) refl

  at_here : same part.id i ≡ true → at i f x (con part kids floats rest) ≡ f x part kids floats rest
  at_here a = rw a refl

-- where i, in w, loses fullscreen, the others of w lose it as they do without that
record Keeps (w c i : ConId) (f : Forest) : Type 0 where
  found : Full c i f
  inside : has w f ≡ true
  keeps : at w unfull_but c (cleared i f) ≡ at w unfull_but c f

keep : (w c i : ConId) (f : Forest) → Once f → full_in w c f ≡ Some i → Keeps w c i f
keep w c i end once h = cc
keep w c i (con part kids floats rest) once h =
    step (same part.id w) refl h (keep w c i kids (λ j. omega (arith, once j))) (keep w c i floats (λ j. omega (arith, once j))) (keep w c i rest (λ j. omega (arith, once j)))
  where
    once_i : one_of i part + tally i kids + tally i floats + tally i rest ≤ 1
    once_i = once i

    once_w : one_of w part + tally w kids + tally w floats + tally w rest ≤ 1
    once_w = once w

    here_kids : same part.id w ≡ true → Full c i kids → Keeps w c i (con part kids floats rest)
    here_kids a q =
        let n = counted i kids q.there in
        let first = at_in_kids i clear_word true part kids floats rest (not_here i part (omega (arith, once_i, n))) q.there in
        record {
          found = full_kids c i part kids floats rest once q;
          inside = rw a refl;
          keeps = ap (at w unfull_but c) first ∙ (at_here w unfull_but c part (cleared i kids) floats rest a ∙ (ap (λ z. con part z (unfull c floats) rest) (unfull_cleared c i kids q.other) ∙ sym (at_here w unfull_but c part kids floats rest a)));
        }

    here_floats : same part.id w ≡ true → Full c i floats → Keeps w c i (con part kids floats rest)
    here_floats a q =
        let n = counted i floats q.there in
        let first = at_in_floats i clear_word true part kids floats rest (not_here i part (omega (arith, once_i, n))) (absent i kids (omega (arith, once_i, n))) q.there in
        record {
          found = full_floats c i part kids floats rest once q;
          inside = rw a refl;
          keeps = ap (at w unfull_but c) first ∙ (at_here w unfull_but c part kids (cleared i floats) rest a ∙ (ap (λ z. con part (unfull c kids) z rest) (unfull_cleared c i floats q.other) ∙ sym (at_here w unfull_but c part kids floats rest a)));
        }

    here : same part.id w ≡ true → (x : Option ConId) → other_full c kids ≡ x → option_or x (other_full c floats) ≡ Some i → Keeps w c i (con part kids floats rest)
    here a (Some j) e n = here_kids a (found_full c i kids (λ j. omega (arith, once j)) (e ∙ n))
    here a None e n = here_floats a (found_full c i floats (λ j. omega (arith, once j)) n)

    by_kids : same part.id w ≡ false → Keeps w c i kids → Keeps w c i (con part kids floats rest)
    by_kids a q =
        let n = counted i kids q.found.there in
        let first = at_in_kids i clear_word true part kids floats rest (not_here i part (omega (arith, once_i, n))) q.found.there in
        record {
          found = full_kids c i part kids floats rest once q.found;
          inside = in_kids w part kids floats rest q.inside;
          keeps = ap (at w unfull_but c) first ∙ (at_in_kids w unfull_but c part (cleared i kids) floats rest a (has_cleared w i kids ∙ q.inside) ∙ (ap (λ z. con part z floats rest) q.keeps ∙ sym (at_in_kids w unfull_but c part kids floats rest a q.inside)));
        }

    by_floats : same part.id w ≡ false → Keeps w c i floats → Keeps w c i (con part kids floats rest)
    by_floats a q =
        let n = counted i floats q.found.there in
        let m = counted w floats q.inside in
        let no_i = absent i kids (omega (arith, once_i, n)) in
        let no_w = absent w kids (omega (arith, once_w, m)) in
        let first = at_in_floats i clear_word true part kids floats rest (not_here i part (omega (arith, once_i, n))) no_i q.found.there in
        record {
          found = full_floats c i part kids floats rest once q.found;
          inside = in_floats w part kids floats rest q.inside;
          keeps = ap (at w unfull_but c) first ∙ (at_in_floats w unfull_but c part kids (cleared i floats) rest a no_w (has_cleared w i floats ∙ q.inside) ∙ (ap (λ z. con part kids z rest) q.keeps ∙ sym (at_in_floats w unfull_but c part kids floats rest a no_w q.inside)));
        }

    by_rest : same part.id w ≡ false → Keeps w c i rest → Keeps w c i (con part kids floats rest)
    by_rest a q =
        let n = counted i rest q.found.there in
        let m = counted w rest q.inside in
        let no_w = absent w kids (omega (arith, once_w, m)) in
        let none_w = absent w floats (omega (arith, once_w, m)) in
        let first = at_in_rest i clear_word true part kids floats rest (not_here i part (omega (arith, once_i, n))) (absent i kids (omega (arith, once_i, n))) (absent i floats (omega (arith, once_i, n))) in
        record {
          found = full_rest c i part kids floats rest once q.found;
          inside = in_rest w part kids floats rest q.inside;
          keeps = ap (at w unfull_but c) first ∙ (at_in_rest w unfull_but c part kids floats (cleared i rest) a no_w none_w ∙ (ap (λ z. con part kids floats z) q.keeps ∙ sym (at_in_rest w unfull_but c part kids floats rest a no_w none_w)));
        }

    rows : same part.id w ≡ false → (x y : Option ConId) → full_in w c kids ≡ x → full_in w c floats ≡ y → option_or x (option_or y (full_in w c rest)) ≡ Some i → (full_in w c kids ≡ Some i → Keeps w c i kids) → (full_in w c floats ≡ Some i → Keeps w c i floats) → (full_in w c rest ≡ Some i → Keeps w c i rest) → Keeps w c i (con part kids floats rest)
    rows a (Some j) y ex ey n u v x = by_kids a (u (ex ∙ n))
    rows a None (Some j) ex ey n u v x = by_floats a (v (ey ∙ n))
    rows a None None ex ey n u v x = by_rest a (x n)

    step : (a : Bool) → same part.id w ≡ a → cond a (option_or (other_full c kids) (other_full c floats)) (option_or (full_in w c kids) (option_or (full_in w c floats) (full_in w c rest))) ≡ Some i → (full_in w c kids ≡ Some i → Keeps w c i kids) → (full_in w c floats ≡ Some i → Keeps w c i floats) → (full_in w c rest ≡ Some i → Keeps w c i rest) → Keeps w c i (con part kids floats rest)
    step true a n u v x = here a (other_full c kids) refl n
    step false a n u v x = rows a (full_in w c kids) (full_in w c floats) refl refl n u v x

-- ---- how many are fullscreen

abbrev pub full_part : ConId → Part → ℕ
full_part c part = if same part.id c then 0 else if is_full part.kind then 1 else 0

-- how many containers other than c are fullscreen
abbrev pub fulls : ConId → Forest → ℕ
fulls c f = count (full_part c) f

fewer : (c i : ConId) (f : Forest) → same i c ≡ false → first_full (first_part (only i f)) ≡ true → fulls c (cleared i f) + 1 ≡ fulls c f
fewer c i end h q = cc
fewer c i (con part kids floats rest) h q = step (same part.id i) (has i kids) (has i floats) refl q (fewer c i kids h) (fewer c i floats h) (fewer c i rest h)
  where
    by_kind : (k : NodeKind) → is_full (unfull_kind k) ≡ false
    by_kind (Root d) = refl
    by_kind (Output o) = refl
    by_kind (Space w) = refl
    by_kind (Con d) = refl

    one : same part.id c ≡ false → is_full part.kind ≡ true → full_part c part ≡ 1
    one a b = rw (a, b) refl

    none : same part.id c ≡ false → full_part c (record part { kind = unfull_kind part.kind }) ≡ 0
    none a = rw (a, by_kind part.kind) refl

    step : (a k l : Bool) → same part.id i ≡ a → first_full (first_part (cond a (con part kids floats end) (cond k (only i kids) (cond l (only i floats) (only i rest))))) ≡ true
        → (first_full (first_part (only i kids)) ≡ true → fulls c (cleared i kids) + 1 ≡ fulls c kids) → (first_full (first_part (only i floats)) ≡ true → fulls c (cleared i floats) + 1 ≡ fulls c floats)
        → (first_full (first_part (only i rest)) ≡ true → fulls c (cleared i rest) + 1 ≡ fulls c rest)
        → fulls c (cond a (clear_word true part kids floats rest) (cond k (con part (cleared i kids) floats rest) (cond l (con part kids (cleared i floats) rest) (con part kids floats (cleared i rest))))) + 1 ≡ fulls c (con part kids floats rest)
    step true k l e q u v x =
        let Other : ConId → Type 0 = λ z. same z c ≡ false in
        let other : same part.id c ≡ false = subst Other (sym (same_is part.id i e)) h in
        omega (arith, one other q, none other)
    step false true l e q u v x = omega (arith, u q)
    step false false true e q u v x = omega (arith, v q)
    step false false false e q u v x = omega (arith, x q)

-- ---- the tree

a_container : (o : Option Part) → first_full o ≡ true → (p : ConPart) × (kind_by con_kind o ≡ Some p)
a_container None h = cc
a_container (Some part) h = by part.kind h
  where
    by : (k : NodeKind) → is_full k ≡ true → (p : ConPart) × (con_kind k ≡ Some p)
    by (Root d) h = cc
    by (Output o) h = cc
    by (Space w) h = cc
    by (Con d) h = (d, refl)

set_cleared : (i : ConId) (p : ConPart) (t : TreeValue) → kind_of con_kind i t.nodes ≡ Some p → full_set false i t ≡ record t { nodes = cleared i t.nodes }
set_cleared i p t e = rw e (ap (λ z. record t { nodes = z }) (as_cleared i p t.nodes e))

-- where one that is found loses it, fewer have it, and the others lose it as before
pub one_less : (w c i : ConId) (t new : TreeValue) → IsSound t → full_in w c t.nodes ≡ Some i → new ≡ full_set false i t
    → (others_unfull c (Some w) new ≡ others_unfull c (Some w) t) × (fulls c new.nodes < fulls c t.nodes)
one_less w c i t new s h e =
    let k = keep w c i t.nodes s.once h in
    let p = a_container (first_part (only i t.nodes)) k.found.full in
    let made : new ≡ record t { nodes = cleared i t.nodes } = e ∙ set_cleared i p.0 t p.1 in
    let less = fewer c i t.nodes k.found.other k.found.full in
    let Done : TreeValue → Type 0 = λ z. (others_unfull c (Some w) z ≡ others_unfull c (Some w) t) × (fulls c z.nodes < fulls c t.nodes) in
    subst Done (sym made) (ap (λ z. record t { nodes = z }) k.keeps, omega (arith, less))

-- where none is found, none loses it
pub none_left : (w c : ConId) (t : TreeValue) → full_in w c t.nodes ≡ None → others_unfull c (Some w) t ≡ t
none_left w c t h = ap (λ z. record t { nodes = z }) (none_in w c t.nodes h)

-- ---- who fills it alone

-- a change of c leaves the others as they are
other_edited : (c : ConId) (e : KindEdit) (f : Forest) → other_full c (at c kind_changed e f) ≡ other_full c f
other_edited c e end = refl
other_edited c e (con part kids floats rest) = step (same part.id c) (has c kids) (has c floats) refl (other_edited c e kids) (other_edited c e floats) (other_edited c e rest)
  where
    step : (a k l : Bool) → same part.id c ≡ a → other_full c (at c kind_changed e kids) ≡ other_full c kids → other_full c (at c kind_changed e floats) ≡ other_full c floats → other_full c (at c kind_changed e rest) ≡ other_full c rest
        → other_full c (cond a (kind_changed e part kids floats rest) (cond k (con part (at c kind_changed e kids) floats rest) (cond l (con part kids (at c kind_changed e floats) rest) (con part kids floats (at c kind_changed e rest)))))
        ≡ other_full c (con part kids floats rest)
    step true k l ea u v x = rw ea refl
    step false true l ea u v x = rw u refl
    step false false true ea u v x = rw v refl
    step false false false ea u v x = rw x refl

full_edited : (w c : ConId) (e : KindEdit) (f : Forest) → full_in w c (at c kind_changed e f) ≡ full_in w c f
full_edited w c e end = refl
full_edited w c e (con part kids floats rest) = step (same part.id c) (has c kids) (has c floats) (full_edited w c e kids) (full_edited w c e floats) (full_edited w c e rest)
  where
    step : (a k l : Bool) → full_in w c (at c kind_changed e kids) ≡ full_in w c kids → full_in w c (at c kind_changed e floats) ≡ full_in w c floats → full_in w c (at c kind_changed e rest) ≡ full_in w c rest
        → full_in w c (cond a (kind_changed e part kids floats rest) (cond k (con part (at c kind_changed e kids) floats rest) (cond l (con part kids (at c kind_changed e floats) rest) (con part kids floats (at c kind_changed e rest)))))
        ≡ full_in w c (con part kids floats rest)
    step true k l u v x = refl
    step false true l u v x = rw (u, other_edited c e kids) refl
    step false false true u v x = rw (v, other_edited c e floats) refl
    step false false false u v x = rw x refl

pub alone_kept : (c : ConId) (w : Option ConId) (on : Bool) (t new : TreeValue) → new ≡ full_set on c t → fills_alone c w t ≡ true → fills_alone c w new ≡ true
alone_kept c None on t new e h = refl
alone_kept c (Some w) on t new e h = rw e (by (state_of c t))
  where
    by : (o : Option ConState) → fills_alone c (Some w) (restated c (option_map (λ (s : ConState). record s { fullscreen = on }) o) t) ≡ true
    by None = h
    by (Some s) = ap is_none (full_edited w c (edits.State (record s { fullscreen = on })) t.nodes) ∙ h
