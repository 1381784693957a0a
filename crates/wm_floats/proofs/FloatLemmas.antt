-- Where windows may go that float or hide.
use Rattle.std.proofs.Common.{◌≡◌, ℕ, ◌≢◌, ◌≤◌, Bool, true, false, cond, ◌&&◌, not, inl, inr, Option, None, Some, refl, ap, sym, ◌∙◌}
use Rattle.std.specs.Prelude.{is_none, is_some, option_and_then}
use Rattle.wm_base.specs.declared.errors.ErrorText.TheVariants as texts
use Rattle.wm_base.specs.declared.errors.Refusal.{Refusal}
use Rattle.wm_base.specs.declared.geometry.Rect.{Rect}
use Rattle.wm_base.specs.declared.geometry.Size.{Size}
use Rattle.wm_base.specs.declared.ids.ConId.{ConId}
use Rattle.wm_floats.specs.declared.kinds.Kind.TheVariants as kinds
use Rattle.wm_floats.specs.Floating.{IsGoal, float_refusal, sink_refusal}
use Rattle.wm_floats.specs.Kinds.{is_flagged_state, is_of, is_of_space}
use Rattle.wm_floats.specs.Scratchpad.{coming_place, first_hidden, middle_on}
use Rattle.wm_floats.specs.Switches.{set_floating_refusal, will_float}
use Rattle.wm_floats.specs.Windows.{natural_in, natural_of, state_of, window_refusal}
use Rattle.wm_shared.proofs.ShowLemmas.{space_is}
use Rattle.wm_shared.proofs.SpaceLemmas.{not_within}
use Rattle.wm_shared.specs.Refusing.{error_if, full_error, refusal_by}
use Rattle.wm_shared.specs.Subject.{IsSubject, is_hidden, is_space, is_subject_kind}
use Rattle.wm_shared.proofs.KidLemmas.{con_there}
use Rattle.wm_shared.proofs.StandingLemmas.{shown_stands, stands_space}
use Rattle.wm_shared.specs.Rects.{rect_of}
use Rattle.wm_shared.proofs.SpaceOfLemmas.{IsLow, LowKind, below_space}
use Rattle.wm_tree.proofs.AlongLemmas.{space_there}
use Rattle.wm_tree.proofs.AttachLemmas.{has_row}
use Rattle.wm_forest.proofs.OnceLemmas.{only_floats}
use Rattle.wm_forest.proofs.RecencyLemmas.{same_self}
use Rattle.wm_forest.specs.declared.part.ConPart.{ConPart}
use Rattle.wm_forest.specs.declared.part.NodeKind.{NodeKind}
use Rattle.wm_forest.specs.declared.part.NodeKind.TheVariants.{Root, Output, Space, Con}
use Rattle.wm_forest.specs.declared.part.Part.{Part}
use Rattle.wm_forest.specs.declared.place.Place.{Place}
use Rattle.wm_forest.specs.declared.place.Place.TheVariants.{Float, Scratchpad}
use Rattle.wm_tree.specs.declared.refusal.TreeRefusal.{TreeRefusal}
use Rattle.wm_tree.specs.declared.refusal.TreeRefusal.TheVariants as refusals
use Rattle.wm_forest.specs.declared.part.SpacePart.{SpacePart}
use Rattle.wm_forest.specs.declared.spot.Spot.{Spot}
use Rattle.wm_forest.specs.Change.{is_id}
use Rattle.wm_forest.specs.Forest.{Forest, end, con}
use Rattle.wm_forest.specs.Look.{con_kind, first_floats, first_part, has, in_row, kind_by, kind_of, nth_id, only, output_kind, same, space_kind}
use Rattle.wm_tree.specs.Move.{IsMoveCause, passed_by_move}
use Rattle.wm_forest.specs.SoundRow.{IsNode, IsSoundRow, containers, roots, tally}
use Rattle.wm_tree.specs.Sound.{IsSound}
use Rattle.wm_forest.specs.Spot.{room_below, space_by, spot_below, spot_in, spot_of, top}
use Rattle.wm_tree.specs.TreeValue.{TreeValue, current, is_tiled_con, shown, workspace_of}
use Rattle.wm_forest.specs.RootId.{root}

-- ---- why a container does not move

pub go_cause : (c : ConId) (p : Place) (t : TreeValue) (e : TreeRefusal) → IsGoal c p t → IsMoveCause t c p e → full_error (passed_by_move c p t.nodes) ≡ Some (refusal_by e)
go_cause c p t (refusals.Full limit) g h = ap full_error h.2
go_cause c p t (refusals.Missing i) g (inl h) = let here = g.0 in absurd (cc (h.1, here))
go_cause c p t (refusals.Missing i) g (inr h) = let here = g.1 in absurd (cc (h.2, here))
go_cause c p t refusals.NoMemory g h = absurd h

-- ---- what is a window

-- one to which a command for windows is done is a container, and not in the scratchpad
pub window_is : (c : ConId) (t : TreeValue) → window_refusal c t ≡ None → (is_hidden t c ≡ false) × (natural_of c t ≢ None)
window_is c t h = by (is_hidden t c) (is_space t c) (natural_of c t) h
  where
    by : (a b : Bool) (o : Option Size) → error_if a texts.NoWorkspace (error_if b texts.AtWorkspace (error_if (is_none o) texts.NotWindow None)) ≡ None → (a ≡ false) × (o ≢ None)
    by true b o h = cc
    by false true o h = cc
    by false false None h = cc
    by false false (Some n) h = (refl, λ e. cc)

pub window_con : (c : ConId) (t : TreeValue) → natural_of c t ≢ None → kind_of con_kind c t.nodes ≢ None
window_con c t ok = by (kind_of con_kind c t.nodes) ok
  where
    by : (o : Option ConPart) → natural_in o ≢ None → o ≢ None
    by None ok = absurd (ok refl)
    by (Some p) ok = λ e. cc

con_low : (o : Option Part) → kind_by con_kind o ≢ None → IsLow o
con_low None ok = absurd (ok refl)
con_low (Some part) ok = by_kind part.kind ok
  where
    by_kind : (kind : NodeKind) → con_kind kind ≢ None → LowKind kind
    by_kind (Root c) ok = absurd (ok refl)
    by_kind (Output o) ok = absurd (ok refl)
    by_kind (Space w) ok = absurd (ok refl)
    by_kind (Con c) ok = tt

-- where it is none, that is the first error of a command that lets it float or tiles it
pub float_first : (c : ConId) (on : Option Bool) (t : TreeValue) (e : Refusal) → window_refusal c t ≡ Some e → set_floating_refusal c on t ≡ Some e
float_first c on t e h = by_test (will_float c on t)
  where
    by_test : (b : Bool) → cond b (float_refusal c t) (sink_refusal c t) ≡ Some e
    by_test true = rw h refl
    by_test false = rw h refl

-- ---- where it may float

pub float_goal : (c w : ConId) (r : Rect) (t : TreeValue) → IsSound t → kind_of con_kind c t.nodes ≢ None → is_space t w ≡ true → IsGoal c (Float w r) t
float_goal c w r t s ok sp =
    let ok_w = space_is w t sp in (con_there c t.nodes ok, space_there w t.nodes ok_w, (λ h. ok, λ h. ok_w, λ h k. not_within c w t s ok ok_w))

-- ---- where it may hide

-- the root is in no workspace
root_apart : (t : TreeValue) → IsSound t → workspace_of t root ≡ None
root_apart t s = by t.nodes s.shaped s.rooted
  where
    by : (f : Forest) → IsSoundRow roots false 0 f → in_row root f ≡ true → option_and_then (λ (z : Spot). z.space) (spot_in top root f) ≡ None
    by end p h = cc
    by (con part kids floats rest) p h = here part.kind refl p.0
      where
        here : (kind : NodeKind) → part.kind ≡ kind → IsNode roots false 0 part.id kind part.marks kids → option_and_then (λ (z : Spot). z.space) (spot_in top root (con part kids floats rest)) ≡ None
        here (Root c) e n = rw (same_self part.id root n.0, e) refl
        here (Output o) e n = absurd n
        here (Space w) e n = absurd n
        here (Con c) e n = absurd n

root_there : (t : TreeValue) → IsSound t → has root t.nodes ≡ true
root_there t s = has_row root t.nodes s.rooted

seen_apart : (c : ConId) (t : TreeValue) → IsSound t → kind_of con_kind c t.nodes ≢ None → is_hidden t c ≡ false → has root (only c t.nodes) ≡ false
seen_apart c t s ok seen = by (has root (only c t.nodes)) refl
  where
    by : (b : Bool) → has root (only c t.nodes) ≡ b → b ≡ false
    by false e = refl
    by true e =
        let one = below_space c root t s (con_low (first_part (only c t.nodes)) ok) e in
        let none : is_hidden t c ≡ true = ap is_none (sym one ∙ root_apart t s) in
        cc

pub hide_goal : (c : ConId) (r : Rect) (t : TreeValue) → IsSound t → kind_of con_kind c t.nodes ≢ None → is_hidden t c ≡ false → IsGoal c (Scratchpad r) t
hide_goal c r t s ok seen = (con_there c t.nodes ok, root_there t s, (λ h. ok, tt, λ h k. seen_apart c t s ok seen))

-- ---- who hides and comes

-- a flagged window that floats on a workspace is a container, and not in the scratchpad
pub flagged_is : (w c : ConId) (t : TreeValue) → is_of_space kinds.Flagged w t c ≡ true → (kind_of con_kind c t.nodes ≢ None) × (is_hidden t c ≡ false)
flagged_is w c t h = let k = both (is_id w (workspace_of t c)) (is_of kinds.Flagged t c) h in (by_con (kind_of con_kind c t.nodes) (is_tiled_con t c) (is_flagged_state (state_of c t)) k.1, by_space (workspace_of t c) k.0)
  where
    both : (a b : Bool) → (a && b) ≡ true → (a ≡ true) × (b ≡ true)
    both true b h = (refl, h)
    both false b h = cc

    by_space : (v : Option ConId) → is_id w v ≡ true → is_none v ≡ false
    by_space None h = cc
    by_space (Some v) h = refl

    by_con : (o : Option ConPart) (a b : Bool) → (is_some o && not a && b) ≡ true → o ≢ None
    by_con None true true h = cc
    by_con None true false h = cc
    by_con None false true h = cc
    by_con None false false h = cc
    by_con (Some p) a b h = λ e. cc

-- the first of the scratchpad is a container
pub first_is : (t : TreeValue) (c : ConId) → IsSound t → first_hidden t ≡ Some c → kind_of con_kind c t.nodes ≢ None
first_is t c s h = by t.nodes s.shaped (s.once c) h
  where
    is_con : (tiled : Bool) (room : ℕ) (part : Part) (kids : Forest) (kind : NodeKind) → part.kind ≡ kind → IsNode containers tiled room part.id kind part.marks kids → con_kind part.kind ≢ None
    is_con tiled room part kids (Root d) e n = absurd n
    is_con tiled room part kids (Output o) e n = absurd n
    is_con tiled room part kids (Space w) e n = absurd n
    is_con tiled room part kids (Con d) e n = rw e (λ z. cc)

    on_row : (floats : Forest) (room : ℕ) → IsSoundRow containers false room floats → nth_id 0 floats ≡ Some c → (has c floats ≡ true) × (kind_by con_kind (first_part (only c floats)) ≢ None)
    on_row end room p h = cc
    on_row (con q k l r) room p h =
        let one : q.id ≡ c = cc in
        let own = same_self q.id c one in
        (rw own refl, rw own (is_con false room q k q.kind refl p.0))

    by : (f : Forest) → IsSoundRow roots false 0 f → tally c f ≤ 1 → nth_id 0 (first_floats f) ≡ Some c → kind_by con_kind (first_part (only c f)) ≢ None
    by end p once h = cc
    by (con part kids floats rest) p once h =
        let found = on_row floats (room_below 0 part.kind) p.3 h in
        rw (only_floats c part kids floats rest once found.0) found.1

-- ---- a subject in the scratchpad is a container

space_spot : (c : ConId) (s : Spot) (f : Forest) → kind_by space_kind (first_part (only c f)) ≢ None → is_none (option_and_then (λ (z : Spot). z.space) (spot_in s c f)) ≡ false
space_spot c s end ok = absurd (ok refl)
space_spot c s (con part kids floats rest) ok =
    step (same part.id c) (has c kids) (has c floats) ok (λ h. space_spot c (spot_below true s part) kids h) (λ h. space_spot c (spot_below false s part) floats h) (λ h. space_spot c s rest h)
  where
    here : (kind : NodeKind) → space_kind kind ≢ None → is_none (space_by s.space part.id kind) ≡ false
    here (Root d) ok = absurd (ok refl)
    here (Output o) ok = absurd (ok refl)
    here (Space w) ok = refl
    here (Con d) ok = absurd (ok refl)

    seen : Option Spot → Bool
    seen o = is_none (option_and_then (λ (z : Spot). z.space) o)

    step : (a k l : Bool) → kind_by space_kind (first_part (cond a (con part kids floats end) (cond k (only c kids) (cond l (only c floats) (only c rest))))) ≢ None
        → (kind_by space_kind (first_part (only c kids)) ≢ None → is_none (option_and_then (λ (z : Spot). z.space) (spot_in (spot_below true s part) c kids)) ≡ false)
        → (kind_by space_kind (first_part (only c floats)) ≢ None → is_none (option_and_then (λ (z : Spot). z.space) (spot_in (spot_below false s part) c floats)) ≡ false)
        → (kind_by space_kind (first_part (only c rest)) ≢ None → is_none (option_and_then (λ (z : Spot). z.space) (spot_in s c rest)) ≡ false)
        → is_none (option_and_then (λ (z : Spot). z.space) (cond a (Some (spot_of s part)) (cond k (spot_in (spot_below true s part) c kids) (cond l (spot_in (spot_below false s part) c floats) (spot_in s c rest))))) ≡ false
    step true k l ok u v x = here part.kind ok
    step false true l ok u v x = u ok
    step false false true ok u v x = v ok
    step false false false ok u v x = x ok

pub hidden_is : (c : ConId) (t : TreeValue) → IsSubject t c → is_hidden t c ≡ true → kind_of con_kind c t.nodes ≢ None
hidden_is c t sub hid = by (kind_of space_kind c t.nodes) (kind_of con_kind c t.nodes) refl sub.kind
  where
    by : (a : Option SpacePart) (b : Option ConPart) → kind_of space_kind c t.nodes ≡ a → is_subject_kind a b ≡ true → b ≢ None
    by (Some x) b e h = let bad = space_spot c top t.nodes (λ z. cc (z, e)) in absurd (cc (bad, hid))
    by None (Some p) e h = λ z. cc
    by None None e h = cc

-- ---- where one of the scratchpad comes

shown_is : (t : TreeValue) → IsSound t → is_space t (shown t) ≡ true
shown_is t s = stands_space (shown t) t s (shown_stands t s)

pub coming_goal : (c : ConId) (p : Place) (t : TreeValue) → p ≡ coming_place c t → IsSound t → kind_of con_kind c t.nodes ≢ None → IsGoal c p t
coming_goal c p t e s ok = rw e (float_goal c (shown t) (middle_on (kind_of output_kind (current t) t.nodes) (rect_of c t)) t s ok (shown_is t s))
