-- The scratchpad under windows that hide in it, and under windows that are tiled again.
use Rattle.std.proofs.Common.{◌≡◌, ◌≢◌, ℕ, ◌≤◌, Bool, true, false, cond, ◌&&◌, ◌||◌, not, Option, None, Some, refl, ap, subst, sym, ◌∙◌, arith}
use Rattle.std.specs.Prelude.{is_some}
use Rattle.std.specs.Option.{option_map}
use Rattle.wm_base.specs.declared.geometry.Rect.{Rect}
use Rattle.wm_base.specs.declared.ids.ConId.{ConId}
use Rattle.wm_floats.proofs.FloatLemmas.{flagged_is, hide_goal, window_con, window_is}
use Rattle.wm_floats.proofs.LeafLemmas.{tiling_goal}
use Rattle.wm_floats.proofs.MovedLemmas.{moved_rect}
use Rattle.wm_floats.specs.declared.kinds.Kind.TheVariants as kinds
use Rattle.wm_floats.specs.Floating.{IsGoal, earlier_in, floating_rect, sink_refusal, sink_tree, sunk, sunk_refusal, tiling_place}
use Rattle.wm_floats.specs.Kinds.{is_flagged_state, is_of_space}
use Rattle.wm_floats.specs.Scratchpad.{put_away, to_scratchpad_refusal, to_scratchpad_tree}
use Rattle.wm_floats.specs.Windows.{flag_set, natural_of, restated, state_of, window_refusal}
use Rattle.law_lasting.proofs.LastFloats.{sound_moved}
use Rattle.law_lasting.proofs.StowedLemmas.{Stowed, not_first, stowed_deep}
use Rattle.law_lasting.proofs.StowedMoves.{IsRooted, con_not_root, first_root, lacks_put, outside_without, place_low, place_outside, stowed_put, stowed_sound, stowed_without}
use Rattle.law_lasting.proofs.StowedWords.{HasState, row_append}
use Rattle.law_lasting.specs.Changes.{stows}
use Rattle.law_lasting.specs.Rows.{AreStowed, is_stowed}
use Rattle.wm_opens.proofs.OpenLemmas.{IsAt, found_at}
use Rattle.wm_opens.proofs.SureSpaces.{none_of_two}
use Rattle.wm_shared.specs.Refusing.{full_error}
use Rattle.wm_shared.specs.Subject.{is_container}
use Rattle.wm_shared.proofs.KidLemmas.{con_there}
use Rattle.wm_shared.specs.Rects.{rect_of}
use Rattle.wm_tree.proofs.AttachLemmas.{has_row}
use Rattle.wm_forest.proofs.CountLemmas.{counted, tally-absent}
use Rattle.wm_tree.proofs.SoundLemmas.{gone-detached}
use Rattle.wm_forest.specs.Change.{append, arriving, at, is_id, placed, unfull_kind, without}
use Rattle.wm_forest.specs.declared.kind.KindEdit.TheVariants as edits
use Rattle.wm_forest.specs.declared.part.ConPart.{ConPart}
use Rattle.wm_forest.specs.declared.part.ConState.{ConState}
use Rattle.wm_forest.specs.declared.part.NodeKind.{NodeKind}
use Rattle.wm_forest.specs.declared.part.NodeKind.TheVariants.{Root, Output, Space, Con}
use Rattle.wm_forest.specs.declared.place.Place.{Place}
use Rattle.wm_forest.specs.declared.place.Place.TheVariants.{After, Last, Scratchpad}
use Rattle.wm_forest.specs.Forest.{Forest, end, con}
use Rattle.wm_forest.specs.Kinds.{changed, kind_changed}
use Rattle.wm_forest.specs.Look.{con_kind, first_floats, first_part, has, in_row, kind_by, kind_of, only, same}
use Rattle.wm_tree.specs.Move.{apart, moved, moved_share, passed_by_move}
use Rattle.wm_forest.specs.Place.{named, put, rect_at}
use Rattle.wm_tree.specs.Sound.{IsSound}
use Rattle.wm_forest.specs.SoundRow.{one_of, tally}
use Rattle.wm_tree.specs.TreeValue.{TreeValue, is_tiled_con, leaf, or_id, workspace_of}
use Rattle.wm_forest.specs.RootId.{root}

-- ---- moves outside the scratchpad

pub stowed_moved : (c : ConId) (p : Place) (t : TreeValue) → IsSound t → IsGoal c p t → stows p ≡ false → Stowed t.nodes → Stowed (moved c p t).nodes
stowed_moved c p t s goal out q =
    let low : same root c ≡ false = con_not_root c t s (goal.2.0 goal.0) in
    stowed_put p (arriving (moved_share c p t.nodes) (rect_at p) (apart t c (named p)) (only c t.nodes)) (without c t.nodes) (place_low p t s goal.1 goal.2.1 out)
    (outside_without p c t.nodes low q (place_outside p t s q goal.1 goal.2.1 out)) (stowed_without c t.nodes low q)

row_has : (c : ConId) (f : Forest) → has c f ≡ false → in_row c (first_floats f) ≡ false
row_has c end h = refl
row_has c (con part kids floats rest) h = check (in_row c floats) refl
  where
    four : (a k l r : Bool) → (a || k || l || r) ≡ false → l ≡ false
    four true k l r e = cc
    four false true l r e = cc
    four false false true r e = cc
    four false false false r e = refl

    check : (b : Bool) → in_row c floats ≡ b → b ≡ false
    check false e = refl
    check true e =
        let here : has c floats ≡ true = has_row c floats e in
        let gone : has c floats ≡ false = four (same part.id c) (has c kids) (has c floats) (has c rest) h in
        cc

moved_lacks : (c : ConId) (p : Place) (t : TreeValue) → IsSound t → IsGoal c p t → stows p ≡ false → Stowed t.nodes → in_row c (first_floats (moved c p t).nodes) ≡ false
moved_lacks c p t s goal out q =
    let low : same root c ≡ false = con_not_root c t s (goal.2.0 goal.0) in
    lacks_put p (arriving (moved_share c p t.nodes) (rect_at p) (apart t c (named p)) (only c t.nodes)) (without c t.nodes) c (place_low p t s goal.1 goal.2.1 out)
    (outside_without p c t.nodes low q (place_outside p t s q goal.1 goal.2.1 out)) (stowed_without c t.nodes low q) (row_has c (without c t.nodes) (gone-detached c t s))

-- ---- windows that are tiled again

tiling_out : (w : ConId) (t : TreeValue) → stows (tiling_place w t) ≡ false
tiling_out w t = step (is_tiled_con t (or_id (leaf t w) w))
  where
    step : (b : Bool) → stows (cond b (After (or_id (leaf t w) w)) (Last w)) ≡ false
    step true = refl
    step false = refl

stowed_sunk : (c : ConId) (w : Option ConId) (t : TreeValue) → workspace_of t c ≡ w → IsSound t → natural_of c t ≢ None → Stowed t.nodes → Stowed (sunk c w t).nodes
stowed_sunk c None t e s ok q = q
stowed_sunk c (Some w) t e s ok q = step (is_tiled_con t c) refl
  where
    step : (b : Bool) → is_tiled_con t c ≡ b → Stowed (cond b t (flag_set false c (moved c (tiling_place w t) t))).nodes
    step true d = q
    step false d = by (state_of c (moved c (tiling_place w t) t))
      where
        goal : IsGoal c (tiling_place w t) t
        goal = tiling_goal c w t s ok e d

        by : (o : Option ConState) → Stowed (restated c (option_map (λ (z : ConState). record z { flagged = false }) o) (moved c (tiling_place w t) t)).nodes
        by None = stowed_moved c (tiling_place w t) t s goal (tiling_out w t) q
        by (Some z) =
            stowed_deep c kind_changed (edits.State (record z { flagged = false })) (con_not_root c t s (goal.2.0 goal.0)) (moved c (tiling_place w t) t).nodes (moved_lacks c (tiling_place w t) t s goal (tiling_out w t) q)
            (stowed_moved c (tiling_place w t) t s goal (tiling_out w t) q)

pub stowed_sink : (c : ConId) (t : TreeValue) → IsSound t → sink_refusal c t ≡ None → Stowed t.nodes → Stowed (sink_tree c t).nodes
stowed_sink c t s fits q =
    let both = none_of_two (window_refusal c t) (sunk_refusal c (workspace_of t c) t) fits in
    stowed_sunk c (workspace_of t c) t refl s (window_is c t both.0).1 q

-- ---- windows that hide

-- the second row of the root, with another row behind it
row_put : (r : Rect) (row f : Forest) (Q : Forest → Type 0) → Stowed f → ((a : Forest) → AreStowed a → Q (append a row)) → Q end → Q (first_floats (put (Scratchpad r) row f))
row_put r row end Q p h none = none
row_put r row (con part kids floats rest) Q p h none = rw p.0 (h floats p.1)

-- a container with an outer rectangle
abbrev is_boxed : NodeKind → Bool
is_boxed (Root c) = false
is_boxed (Output o) = false
is_boxed (Space s) = false
is_boxed (Con c) = is_some c.state.rect

-- each node of the row but c may stand in the scratchpad, and c has a rectangle
abbrev AreBut : ConId → Forest → Type 0
AreBut c end = Unit {0}
AreBut c (con part kids floats rest) = (same part.id c ≡ true → is_boxed part.kind ≡ true) × (same part.id c ≡ false → is_stowed part.kind ≡ true) × AreBut c rest

stowed_boxed : (kind : NodeKind) → is_stowed kind ≡ true → is_boxed kind ≡ true
stowed_boxed (Root c) h = cc
stowed_boxed (Output o) h = cc
stowed_boxed (Space s) h = cc
stowed_boxed (Con c) h = by c.state.flagged h
  where
    by : (b : Bool) → (b && is_some c.state.rect) ≡ true → is_some c.state.rect ≡ true
    by true k = k
    by false k = cc

but_append : (c : ConId) (a b : Forest) → AreStowed a → AreBut c b → AreBut c (append a b)
but_append c end b p q = q
but_append c (con part kids floats rest) b p q = (λ e. stowed_boxed part.kind p.0, λ e. p.0, but_append c rest b p.1 q)

-- where c is not there the whole row is in order
but_rest : (c : ConId) (row : Forest) → tally c row ≤ 0 → AreBut c row → AreStowed row
but_rest c end few p = tt
but_rest c (con part kids floats rest) few p = (by (same part.id c) refl, but_rest c rest (omega (arith, few)) p.2)
  where
    by : (b : Bool) → same part.id c ≡ b → is_stowed part.kind ≡ true
    by true e = let one : one_of c part ≡ 1 = ap (λ b. cond {A = ℕ} b 1 0) e in absurd (omega (arith, few, one))
    by false e = p.1 e

module _ (c : ConId) (s : ConState) where
  flagged_kind : (kind : NodeKind) → option_map (λ (q : ConPart). q.state) (con_kind kind) ≡ Some s → is_boxed kind ≡ true → is_stowed (changed (edits.State (record s { flagged = true })) kind) ≡ true
  flagged_kind (Root d) g h = cc
  flagged_kind (Output o) g h = cc
  flagged_kind (Space w) g h = cc
  flagged_kind (Con d) g h = let one : d.state ≡ s = cc in ap (λ (z : ConState). is_some z.rect) (sym one) ∙ h

  -- c gets the flag in the row
  flagged_row : (row : Forest) → tally c row ≤ 1 → AreBut c row → HasState s (only c row) → AreStowed (at c kind_changed (edits.State (record s { flagged = true })) row)
  flagged_row end once p g = tt
  flagged_row (con part kids floats rest) once p g = step (same part.id c) (has c kids) (has c floats) refl refl refl g (λ z. flagged_row rest (omega (arith, once)) p.2 z)
    where
      step : (a k l : Bool) → same part.id c ≡ a → has c kids ≡ k → has c floats ≡ l → HasState s (cond a (con part kids floats end) (cond k (only c kids) (cond l (only c floats) (only c rest))))
          → (HasState s (only c rest) → AreStowed (at c kind_changed (edits.State (record s { flagged = true })) rest))
          → AreStowed
          (cond a (kind_changed (edits.State (record s { flagged = true })) part kids floats rest)
          (cond k (con part (at c kind_changed (edits.State (record s { flagged = true })) kids) floats rest)
          (cond l (con part kids (at c kind_changed (edits.State (record s { flagged = true })) floats) rest) (con part kids floats (at c kind_changed (edits.State (record s { flagged = true })) rest)))))
      step true k l e u v z next =
          let one : one_of c part ≡ 1 = ap (λ b. cond {A = ℕ} b 1 0) e in
          (flagged_kind part.kind z (p.0 e), but_rest c rest (omega (arith, once, one)) p.2)
      step false true l e u v z next = (p.1 e, but_rest c rest (omega (arith, once, counted c kids u)) p.2)
      step false false true e u v z next = (p.1 e, but_rest c rest (omega (arith, once, counted c floats v)) p.2)
      step false false false e u v z next = (p.1 e, next z)

  -- c gets the flag in a forest, whose second row is in order but for that
  flagged_first : (f : Forest) → same root c ≡ false → IsRooted f → tally c f ≤ 1 → AreBut c (first_floats f) → HasState s (only c f) → Stowed (at c kind_changed (edits.State (record s { flagged = true })) f)
  flagged_first end low own once p g = tt
  flagged_first (con part kids floats rest) low own once p g = step (same part.id c) (has c kids) (has c floats) (not_first part.id c own low) refl refl g
    where
      step : (a k l : Bool) → a ≡ false → has c kids ≡ k → has c floats ≡ l → HasState s (cond a (con part kids floats end) (cond k (only c kids) (cond l (only c floats) (only c rest))))
          → Stowed
          (cond a (kind_changed (edits.State (record s { flagged = true })) part kids floats rest)
          (cond k (con part (at c kind_changed (edits.State (record s { flagged = true })) kids) floats rest)
          (cond l (con part kids (at c kind_changed (edits.State (record s { flagged = true })) floats) rest) (con part kids floats (at c kind_changed (edits.State (record s { flagged = true })) rest)))))
      step true k l e u v z = cc
      step false true l e u v z = (own, but_rest c floats (omega (arith, once, counted c kids u)) p)
      step false false true e u v z = (own, flagged_row floats (omega (arith, once)) p z)
      step false false false e u v z = let gone : tally c floats ≡ 0 = tally-absent c floats v in (own, but_rest c floats (omega (arith, gone)) p)

-- ---- what arrives

placed_boxed : (share : ℕ) (r : Rect) (kind : NodeKind) → con_kind kind ≢ None → (is_boxed (placed share (Some r) kind) ≡ true) × (is_boxed (unfull_kind (placed share (Some r) kind)) ≡ true)
placed_boxed share r (Root d) ok = absurd (ok refl)
placed_boxed share r (Output o) ok = absurd (ok refl)
placed_boxed share r (Space w) ok = absurd (ok refl)
placed_boxed share r (Con d) ok = (refl, refl)

arrived_but : (c : ConId) (share : ℕ) (r : Rect) (away : Bool) (g : Forest) → IsAt c g → kind_by con_kind (first_part g) ≢ None → AreBut c (arriving share (Some r) away g)
arrived_but c share r away end at ok = absurd at
arrived_but c share r true (con part kids floats rest) at ok = (λ e. (placed_boxed share r part.kind ok).1, λ e. let own = at.0 in cc, subst (AreBut c) (sym at.1) tt)
arrived_but c share r false (con part kids floats rest) at ok = (λ e. (placed_boxed share r part.kind ok).0, λ e. let own = at.0 in cc, subst (AreBut c) (sym at.1) tt)

placed_stowed : (share : ℕ) (r : Rect) (kind : NodeKind) → is_flagged_state (option_map (λ (q : ConPart). q.state) (con_kind kind)) ≡ true
    → (is_stowed (placed share (Some r) kind) ≡ true) × (is_stowed (unfull_kind (placed share (Some r) kind)) ≡ true)
placed_stowed share r (Root d) h = cc
placed_stowed share r (Output o) h = cc
placed_stowed share r (Space w) h = cc
placed_stowed share r (Con d) h = (rw h refl, rw h refl)

arrived_stowed : (c : ConId) (share : ℕ) (r : Rect) (away : Bool) (g : Forest) → IsAt c g → is_flagged_state (option_map (λ (q : ConPart). q.state) (kind_by con_kind (first_part g))) ≡ true → AreStowed (arriving share (Some r) away g)
arrived_stowed c share r away end at h = absurd at
arrived_stowed c share r true (con part kids floats rest) at h = ((placed_stowed share r part.kind h).1, subst AreStowed (sym at.1) tt)
arrived_stowed c share r false (con part kids floats rest) at h = ((placed_stowed share r part.kind h).0, subst AreStowed (sym at.1) tt)

-- ---- hiding

pub stowed_hidden : (c : ConId) (t : TreeValue) → IsSound t → to_scratchpad_refusal c t ≡ None → Stowed t.nodes → Stowed (to_scratchpad_tree c t).nodes
stowed_hidden c t s fits q =
    let two = none_of_two (window_refusal c t) (full_error (passed_by_move c place t.nodes)) fits in
    let is = window_is c t two.0 in
    let ok : kind_of con_kind c t.nodes ≢ None = window_con c t is.1 in
    let goal : IsGoal c place t = hide_goal c (floating_rect c t) t s ok is.0 in
    let low : same root c ≡ false = con_not_root c t s ok in
    let come : AreBut c arrived = arrived_but c (moved_share c place t.nodes) (floating_rect c t) (apart t c root) (only c t.nodes) (found_at c t.nodes goal.0) ok in
    let row : AreBut c (first_floats away.nodes) = row_put (floating_rect c t) arrived (without c t.nodes) (AreBut c) (stowed_without c t.nodes low q) (λ a h. but_append c a arrived h come) tt in
    by low row (sound_moved c place t s goal two.1) (kind_of con_kind c away.nodes) refl (moved_rect c place t s goal ok)
  where
    place : Place
    place = Scratchpad (floating_rect c t)

    away : TreeValue
    away = moved c place t

    arrived : Forest
    arrived = arriving (moved_share c place t.nodes) (Some (floating_rect c t)) (apart t c root) (only c t.nodes)

    by : same root c ≡ false → AreBut c (first_floats away.nodes) → IsSound away → (o : Option ConPart) → kind_of con_kind c away.nodes ≡ o → earlier_in o ≡ Some (floating_rect c t)
        → Stowed (restated c (option_map (λ (z : ConState). record z { flagged = true }) (option_map (λ (q : ConPart). q.state) o)) away).nodes
    by low row sound None e had = cc
    by low row sound (Some p) e had = flagged_first c p.state away.nodes low (first_root away sound) (sound.once c) row (ap (option_map (λ (q : ConPart). q.state)) e)

-- ---- putting away

flag_of : (w c : ConId) (t : TreeValue) → is_of_space kinds.Flagged w t c ≡ true → is_flagged_state (state_of c t) ≡ true
flag_of w c t h = by (is_id w (workspace_of t c)) (is_container t c) (is_tiled_con t c) (is_flagged_state (state_of c t)) h
  where
    by : (a b d e : Bool) → (a && (b && not d && e)) ≡ true → e ≡ true
    by true true false true k = refl
    by true true false false k = cc
    by true true true e k = cc
    by true false d e k = cc
    by false b d e k = cc

pub stowed_put_away : (w c : ConId) (t : TreeValue) → IsSound t → is_of_space kinds.Flagged w t c ≡ true → IsSound (put_away c t) → Stowed t.nodes → Stowed (put_away c t).nodes
stowed_put_away w c t s on after q =
    let is = flagged_is w c t on in
    let come : AreStowed arrived =
    arrived_stowed c (moved_share c (Scratchpad (rect_of c t)) t.nodes) (rect_of c t) (apart t c root) (only c t.nodes) (found_at c t.nodes (con_there c t.nodes is.0)) (flag_of w c t on) in
    stowed_sound (put_away c t) after
    (row_put (rect_of c t) arrived (without c t.nodes) AreStowed (stowed_without c t.nodes (con_not_root c t s is.0) q) (λ a h. row_append a arrived h come) tt)
  where
    arrived : Forest
    arrived = arriving (moved_share c (Scratchpad (rect_of c t)) t.nodes) (Some (rect_of c t)) (apart t c root) (only c t.nodes)
