-- After `focus` on a container or workspace, it is what is focused.
use Rattle.std.proofs.Common.{◌≡◌, ℕ, Bool, true, false, cond, ◌||◌, Option, None, Some, refl, ap, sym, ◌∙◌, subst, arith}
use Rattle.std.specs.Prelude.{is_none, option_and_then}
use Rattle.law_commands.proofs.RaisedFocus.{raised_focused, subject_listed, subject_low}
use Rattle.law_commands.proofs.ShownLemmas.{IsShown, bare, bare_at, is_shown, plain, shown_alike}
use Rattle.law_commands.proofs.UnderLemmas.{IsUnder, StaysUnder, own_spot, space_under, stays_edited, stays_loosened, stays_trans, still_under, under_come, under_joined, under_space}
use Rattle.law_commands.specs.Focused.{FocusFocuses}
use Rattle.wm_base.specs.declared.errors.Limit.{Limit}
use Rattle.wm_base.specs.declared.errors.Refusal.{Refusal}
use Rattle.wm_base.specs.declared.geometry.Rect.{Rect}
use Rattle.wm_base.specs.declared.ids.ConId.{ConId}
use Rattle.wm_floats.proofs.FloatLemmas.{coming_goal, hidden_is}
use Rattle.wm_floats.specs.Scratchpad.{brought, brought_refusal, coming_place, middle_on}
use Rattle.wm_shared.proofs.RiseLemmas.{showing_same}
use Rattle.wm_shared.proofs.ShowLemmas.{sound_showing, space_is, workspace_is}
use Rattle.wm_shared.proofs.SpaceLemmas.{IsSpaceIn, placed, shown_is_space}
use Rattle.wm_shared.proofs.SpaceOfLemmas.{IsLow, LowKind, low_space}
use Rattle.wm_shared.proofs.StandingLemmas.{shown_row}
use Rattle.wm_shared.specs.Rects.{rect_of}
use Rattle.wm_shared.specs.Refusing.{full_error}
use Rattle.wm_shared.specs.Showing.{followed, focusing, remembering, showing, showing_some, shown_on, shown_there, space_name, with_current}
use Rattle.wm_shared.specs.Subject.{IsSubject, is_hidden}
use Rattle.wm_forest.proofs.CountLemmas.{found_counted, there}
use Rattle.wm_tree.proofs.FocusLemmas.{current_there, outputs_of}
use Rattle.wm_forest.proofs.LookLemmas.{seen-without}
use Rattle.wm_tree.proofs.MoveLemmas.{count-arriving, sound-moved}
use Rattle.wm_forest.proofs.RecencyLemmas.{same_self}
use Rattle.wm_tree.specs.Along.{gone_along, nowhere}
use Rattle.wm_forest.specs.Sticky.{loosened, sticky}
use Rattle.wm_forest.specs.Change.{arriving, at, nobody, shown_of, unfull, without}
use Rattle.wm_forest.specs.declared.kind.KindEdit.TheVariants as edits
use Rattle.wm_forest.specs.declared.part.NodeKind.{NodeKind}
use Rattle.wm_forest.specs.declared.part.NodeKind.TheVariants.{Root, Output, Space, Con}
use Rattle.wm_forest.specs.declared.place.Place.TheVariants.{Float}
use Rattle.wm_forest.specs.declared.spot.Spot.{Spot}
use Rattle.wm_forest.specs.Forest.{Forest, end, con}
use Rattle.wm_forest.specs.Look.{first_floats, first_kids, first_part, has, in_row, kind_by, kind_of, node_in, only, output_kind, same}
use Rattle.wm_tree.specs.Move.{apart, moved, moved_share, passed_by_move}
use Rattle.wm_forest.specs.Place.{put_word}
use Rattle.wm_forest.specs.Recency.{lists}
use Rattle.wm_tree.specs.Sets.{shown_by, with_shown}
use Rattle.wm_forest.specs.SoundRow.{IsNode, IsSoundRow, one_of, outputs, roots, spaces}
use Rattle.wm_tree.specs.Sound.{IsSound}
use Rattle.wm_forest.specs.Spot.{room_below, space_at, space_by, spot_below, spot_in, spot_of, top}
use Rattle.wm_tree.specs.TreeValue.{TreeValue, current, focused, or_id, parent, shown, workspace_of}
use Rattle.wm_forest.specs.RootId.{root}
use Rattle.wm_tree.specs.Words.{with_raised}

-- ---- a workspace is shown, and what is below it stays there

stays_shown_by : (a b : ConId) (p : Option ConId) (w : ConId) (t : TreeValue) → StaysUnder a b t.nodes (shown_by p w t).nodes
stays_shown_by a b None w t = record { one = refl; space = refl; under = refl }
stays_shown_by a b (Some p) w t = stays_edited a b p (edits.Shown w) t.nodes

stays_there : (a b w o : ConId) (t : TreeValue) → StaysUnder a b t.nodes (with_shown w (with_current o t)).nodes
stays_there a b w o t =
    let t1 : TreeValue = with_current o t in
    stays_trans a b t.nodes t1.nodes (with_shown w t1).nodes (stays_edited a b root (edits.Current o) t.nodes) (stays_shown_by a b (parent t1 w) w t1)

-- a node of one workspace is not below another one
not_under : (c v w : ConId) (t : TreeValue) → IsSound t → IsSpaceIn v t.nodes → workspace_of t c ≡ Some w → same v w ≡ false → has c (only v t.nodes) ≡ false
not_under c v w t s ok here other = by (has c (only v t.nodes)) refl
  where
    by : (b : Bool) → has c (only v t.nodes) ≡ b → has c (only v t.nodes) ≡ false
    by false e = e
    by true e =
        let one : v ≡ w = let z : Some v ≡ Some w = sym (space_under c v t s ok e) ∙ here in cc in
        let same_one = same_self v w one in
        absurd (cc (same_one, other))

under_there : (c w o : ConId) (t : TreeValue) → IsSound t → IsSpaceIn w t.nodes → workspace_of t c ≡ Some w → IsUnder c w (shown_there w (Some o) t).nodes
under_there c w o t s ok here = by (shown_on o t) refl
  where
    shown_w : TreeValue
    shown_w = with_shown w (with_current o t)

    under : IsUnder c w shown_w.nodes
    under = still_under c w t.nodes shown_w.nodes (stays_there c w w o t) (under_space c w t s here)

    by : (x : Option ConId) → shown_on o t ≡ x → IsUnder c w (followed x w shown_w).nodes
    by None e = under
    by (Some v) e = step (same v w) refl
      where
        ok_v : IsSpaceIn v t.nodes
        ok_v = shown_is_space o v t s e

        step : (b : Bool) → same v w ≡ b → IsUnder c w (cond b shown_w (gone_along v w shown_w)).nodes
        step true other = under
        step false other =
            let c_out : has c (only v shown_w.nodes) ≡ false = (stays_there c v w o t).under ∙ not_under c v w t s ok_v here other in
            let w_out : has w (only v shown_w.nodes) ≡ false = (stays_there w v w o t).under ∙ not_under w v w t s ok_v (own_spot w top t.nodes ok) other in
            under_joined c w nowhere (unfull nobody (sticky (first_floats (only v shown_w.nodes)))) (at v loosened end shown_w.nodes) (still_under c w shown_w.nodes (at v loosened end shown_w.nodes) (stays_loosened c w v shown_w.nodes c_out w_out) under)

remembering_nodes : (old new : TreeValue) → (remembering old new).nodes ≡ new.nodes
remembering_nodes old new = step (same (shown old) (shown new))
  where
    step : (b : Bool) → (cond b new (record new { previous = space_name (shown old) old })).nodes ≡ new.nodes
    step true = refl
    step false = refl

-- a node is raised in its workspace, which is shown
focusing_focuses : (c w : ConId) (t : TreeValue) → IsSubject t c → workspace_of t c ≡ Some w → focused (with_raised c (showing w t)) ≡ c
focusing_focuses c w t sub here =
    let s = sub.sound in
    let ok = workspace_is c w t s here in
    let p = placed w t s (space_is w t ok) in
    let nodes : (showing w t).nodes ≡ (shown_there w (Some p.output) t).nodes = remembering_nodes t (shown_there w (parent t w) t) ∙ ap (λ z. (shown_there w z t).nodes) p.held_by in
    let shows : IsShown w p.output (showing w t).nodes = subst (IsShown w p.output) (sym nodes) (is_shown w p.output t s ok p.held_by) in
    let under : IsUnder c w (showing w t).nodes = subst (IsUnder c w) (sym nodes) (under_there c w p.output t s (space_is w t ok) here) in
    let same_ids = showing_same w t in
    let known : lists c (showing w t).recency ≡ true = ap (lists c) same_ids.recency ∙ subject_listed c t sub in
    raised_focused c w p.output (showing w t) (sound_showing w t ok s) shows under known

-- ---- what is in no workspace stands among floating windows

abbrev spaced : Option Spot → Option ConId
spaced o = option_and_then (λ (s : Spot). s.space) o

-- among workspaces there is none
seen_in : (c : ConId) (s : Spot) (tiled : Bool) (room : ℕ) (row : Forest) → IsSoundRow spaces tiled room row → has c row ≡ true → spaced (spot_in s c row) ≡ None → ⊥
seen_in c s tiled room end p h e = cc
seen_in c s tiled room (con part kids floats rest) p h e =
    step (same part.id c) (has c kids) (has c floats) h e (low_space c (spot_below true s part) true (room_below room part.kind) kids p.2) (low_space c (spot_below false s part) false (room_below room part.kind) floats p.3) (seen_in c s tiled room rest p.4)
  where
    own : (kind : NodeKind) → IsNode spaces tiled room part.id kind part.marks kids → space_by s.space part.id kind ≡ None → ⊥
    own (Root d) n e = absurd n
    own (Output o) n e = absurd n
    own (Space x) n e = cc
    own (Con d) n e = absurd n

    step : (a k l : Bool) → (a || k || l || has c rest) ≡ true
        → spaced (cond a (Some (spot_of s part)) (cond k (spot_in (spot_below true s part) c kids) (cond l (spot_in (spot_below false s part) c floats) (spot_in s c rest)))) ≡ None
        → (k ≡ true → spaced (spot_in (spot_below true s part) c kids) ≡ space_at s.space part) → (l ≡ true → spaced (spot_in (spot_below false s part) c floats) ≡ space_at s.space part)
        → (has c rest ≡ true → spaced (spot_in s c rest) ≡ None → ⊥) → ⊥
    step true k l h e u v x = own part.kind p.0 e
    step false true l h e u v x = own part.kind p.0 (sym (u refl) ∙ e)
    step false false true h e u v x = own part.kind p.0 (sym (v refl) ∙ e)
    step false false false h e u v x = x h e

abbrev Out : ConId → Forest → Type 0
Out c f = bare (without c f) ≡ bare f

-- taking it out of a row of outputs is not seen without floating windows
out_outputs : (c : ConId) (s : Spot) (tiled : Bool) (room : ℕ) (row : Forest) → IsSoundRow outputs tiled room row → IsLow (first_part (only c row)) → spaced (spot_in s c row) ≡ None → Out c row
out_outputs c s tiled room end p ok e = refl
out_outputs c s tiled room (con part kids floats rest) p ok e = step (same part.id c) (has c kids) (has c floats) refl ok e (out_outputs c s tiled room rest p.4)
  where
    own : (kind : NodeKind) → IsNode outputs tiled room part.id kind part.marks kids → LowKind kind → ⊥
    own (Root d) n ok = absurd ok
    own (Output o) n ok = absurd ok
    own (Space x) n ok = absurd n
    own (Con d) n ok = absurd n

    step : (a k l : Bool) → has c kids ≡ k → IsLow (first_part (cond a (con part kids floats end) (cond k (only c kids) (cond l (only c floats) (only c rest)))))
        → spaced (cond a (Some (spot_of s part)) (cond k (spot_in (spot_below true s part) c kids) (cond l (spot_in (spot_below false s part) c floats) (spot_in s c rest)))) ≡ None
        → (IsLow (first_part (only c rest)) → spaced (spot_in s c rest) ≡ None → Out c rest)
        → bare (cond a rest (cond k (con part (without c kids) floats rest) (cond l (con part kids (without c floats) rest) (con part kids floats (without c rest))))) ≡ bare (con part kids floats rest)
    step true k l h ok e u = absurd (own part.kind p.0 ok)
    step false true l h ok e u = absurd (seen_in c (spot_below true s part) true (room_below room part.kind) kids p.2 h e)
    step false false true h ok e u = refl
    step false false false h ok e u = ap (λ z. con (plain part) (bare kids) end z) (u ok e)

-- nor of the whole
out_roots : (c : ConId) (s : Spot) (f : Forest) → IsSoundRow roots false 0 f → IsLow (first_part (only c f)) → spaced (spot_in s c f) ≡ None → Out c f
out_roots c s end p ok e = refl
out_roots c s (con part kids floats rest) p ok e = step (same part.id c) (has c kids) (has c floats) ok e (out_outputs c (spot_below true s part) true (room_below 0 part.kind) kids p.2) (out_roots c s rest p.4)
  where
    own : (kind : NodeKind) → IsNode roots false 0 part.id kind part.marks kids → LowKind kind → ⊥
    own (Root d) n ok = absurd ok
    own (Output o) n ok = absurd ok
    own (Space x) n ok = absurd n
    own (Con d) n ok = absurd n

    step : (a k l : Bool) → IsLow (first_part (cond a (con part kids floats end) (cond k (only c kids) (cond l (only c floats) (only c rest)))))
        → spaced (cond a (Some (spot_of s part)) (cond k (spot_in (spot_below true s part) c kids) (cond l (spot_in (spot_below false s part) c floats) (spot_in s c rest)))) ≡ None
        → (IsLow (first_part (only c kids)) → spaced (spot_in (spot_below true s part) c kids) ≡ None → Out c kids) → (IsLow (first_part (only c rest)) → spaced (spot_in s c rest) ≡ None → Out c rest)
        → bare (cond a rest (cond k (con part (without c kids) floats rest) (cond l (con part kids (without c floats) rest) (con part kids floats (without c rest))))) ≡ bare (con part kids floats rest)
    step true k l ok e u v = absurd (own part.kind p.0 ok)
    step false true l ok e u v = ap (λ z. con (plain part) z end (bare rest)) (u ok e)
    step false false true ok e u v = refl
    step false false false ok e u v = ap (λ z. con (plain part) (bare kids) end z) (v ok e)

-- ---- a window comes from the scratchpad

shows_row : (c : ConId) (row : Forest) → IsSoundRow outputs true 32 row → in_row c row ≡ true → kind_by shown_of (first_part (node_in c row)) ≡ Some (or_id (kind_by shown_of (first_part (node_in c row))) c)
shows_row c end s h = cc
shows_row c (con part kids floats rest) s h = step (same part.id c) h (shows_row c rest s.4)
  where
    own : (kind : NodeKind) → IsNode outputs true 32 part.id kind part.marks kids → shown_of kind ≡ Some (or_id (shown_of kind) c)
    own (Root d) n = absurd n
    own (Output o) n = refl
    own (Space w) n = absurd n
    own (Con d) n = absurd n

    step : (a : Bool) → (a || in_row c rest) ≡ true → (in_row c rest ≡ true → kind_by shown_of (first_part (node_in c rest)) ≡ Some (or_id (kind_by shown_of (first_part (node_in c rest))) c))
        → kind_by shown_of (first_part (cond a (con part kids floats rest) (node_in c rest))) ≡ Some (or_id (kind_by shown_of (first_part (cond a (con part kids floats rest) (node_in c rest)))) c)
    step true h u = own part.kind s.0
    step false h u = u h

shown_now : (t : TreeValue) → IsSound t → IsShown (shown t) (current t) t.nodes
shown_now t s =
    let rows = outputs_of t.nodes s.shaped in
    let out = current_there t.nodes s.shaped s.rooted in
    record { now = refl; out = out; on = shown_row (current t) (first_kids t.nodes) rows out; shows = shows_row (current t) (first_kids t.nodes) rows out }

fits_there : (o : Option Limit) → full_error o ≡ None → o ≡ None
fits_there None e = refl
fits_there (Some limit) e = cc

bringing_focuses : (c : ConId) (t : TreeValue) → IsSubject t c → is_hidden t c ≡ true → brought_refusal c t ≡ None → focused (brought c t) ≡ c
bringing_focuses c t sub hid fine = raised_focused c (shown t) (current t) new sound shows under (subject_listed c t sub)
  where
    s : IsSound t
    s = sub.sound

    r : Rect
    r = middle_on (kind_of output_kind (current t) t.nodes) (rect_of c t)

    new : TreeValue
    new = moved c (coming_place c t) t

    row : Forest
    row = arriving (moved_share c (coming_place c t) t.nodes) (Some r) (apart t c (shown t)) (only c t.nodes)

    goal : (has c t.nodes ≡ true) × (has (shown t) t.nodes ≡ true) × (has (shown t) (only c t.nodes) ≡ false)
    goal = let g = coming_goal c (coming_place c t) t refl s (hidden_is c t sub hid) in (g.0, g.1, g.2.2 g.0 g.1)

    sound : IsSound new
    sound = let g = coming_goal c (coming_place c t) t refl s (hidden_is c t sub hid) in sound-moved c (coming_place c t) t (hidden_is c t sub hid) g.0 g.1 goal.2 g.2.1 (fits_there (passed_by_move c (coming_place c t) t.nodes) fine) s

    nowhere_seen : (o : Option ConId) → is_none o ≡ true → o ≡ None
    nowhere_seen None e = refl
    nowhere_seen (Some w) e = cc

    shows : IsShown (shown t) (current t) new.nodes
    shows =
        let out = out_roots c top t.nodes s.shaped (subject_low c t sub) (nowhere_seen (workspace_of t c) hid) in
        let joined = bare_at (shown t) (put_word (Float (shown t) r)) row (λ part kids floats rest. refl) (without c t.nodes) in
        shown_alike (shown t) (current t) t.nodes new.nodes (joined ∙ out) (shown_now t s)

    come : has c row ≡ true
    come =
        let sum = count-arriving (one_of c) (moved_share c (coming_place c t) t.nodes) (Some r) (λ part. refl) (λ part. refl) (apart t c (shown t)) (only c t.nodes) in
        there c row (omega (arith, sum, found_counted c t.nodes goal.0))

    under : IsUnder c (shown t) new.nodes
    under = let seen = seen-without c (shown t) top t.nodes goal.2 in under_come c (shown t) r row (without c t.nodes) (seen.there ∙ goal.1) come

-- ---- the command

pub focus_focuses : FocusFocuses
focus_focuses c t sub fine = by_hidden (is_hidden t c) _ _ refl fine
  where
    by_space : (o : Option ConId) → workspace_of t c ≡ o → is_none o ≡ false → focused (with_raised c (showing_some o t)) ≡ c
    by_space None e seen = cc
    by_space (Some w) e seen = focusing_focuses c w t sub e

    by_hidden : (b : Bool) (r : Option Refusal) (new : TreeValue) → is_hidden t c ≡ b → cond b (cond b (brought_refusal c t) r) None ≡ None → focused (cond b (cond b (brought c t) new) (focusing c t)) ≡ c
    by_hidden true r new e fine = bringing_focuses c t sub e fine
    by_hidden false r new e fine = by_space (workspace_of t c) refl e
