-- A window that hides in the empty scratchpad is the one that comes back.
use Rattle.std.proofs.Common.{◌≡◌, ◌≢◌, ℕ, Bool, true, false, cond, Option, None, Some, refl, ap, sym, ◌∙◌, subst}
use Rattle.std.specs.Option.{option_map}
use Rattle.law_layouts.proofs.MoveLooks.{Led, led}
use Rattle.law_layouts.proofs.NodeChanges.{kinded}
use Rattle.law_layouts.proofs.StateChanges.{restated_is, stated}
use Rattle.law_layouts.proofs.Steps.{no_limit, second_none}
use Rattle.law_layouts.proofs.StowLaws.{moves_to_scratchpad, shows_first}
use Rattle.law_layouts.specs.Stowing.{ComesFirst, IsBack, NoneIsOut, ShowsWhatHid, centred}
use Rattle.wm_base.specs.declared.geometry.Rect.{Rect}
use Rattle.wm_base.specs.declared.ids.ConId.{ConId}
use Rattle.wm_floats.proofs.FloatLemmas.{hide_goal, window_con, window_is}
use Rattle.wm_floats.specs.Floating.{floating_rect, moved_refusal}
use Rattle.wm_floats.specs.Kinds.{is_flagged_state}
use Rattle.wm_floats.specs.Scratchpad.{first_hidden, show_scratchpad_refusal, show_scratchpad_tree, to_scratchpad_refusal, to_scratchpad_tree}
use Rattle.wm_floats.specs.Windows.{flag_set, restated, state_of, window_refusal}
use Rattle.wm_forest.proofs.EditLemmas.{fits_state}
use Rattle.wm_forest.proofs.RecencyLemmas.{same_is, same_self}
use Rattle.wm_forest.specs.Change.{arriving, at, without}
use Rattle.wm_forest.specs.declared.kind.KindEdit.TheVariants as edits
use Rattle.wm_forest.specs.declared.part.ConPart.{ConPart}
use Rattle.wm_forest.specs.declared.part.ConState.{ConState}
use Rattle.wm_forest.specs.declared.part.NodeKind.{NodeKind}
use Rattle.wm_forest.specs.declared.part.NodeKind.TheVariants.{Root, Output, Space, Con}
use Rattle.wm_forest.specs.declared.part.Part.{Part}
use Rattle.wm_forest.specs.declared.part.SpacePart.{SpacePart}
use Rattle.wm_forest.specs.declared.place.Place.{Place}
use Rattle.wm_forest.specs.declared.place.Place.TheVariants.{Scratchpad}
use Rattle.wm_forest.specs.Forest.{Forest, end, con}
use Rattle.wm_forest.specs.Look.{con_kind, first_floats, first_kids, first_part, has, in_row, kind_by, kind_of, nth_id, only, same, space_kind}
use Rattle.wm_forest.specs.Place.{named, put, put_word, rect_at}
use Rattle.wm_forest.specs.RootId.{root}
use Rattle.wm_forest.specs.SoundRow.{IsNode, IsSoundRow, roots}
use Rattle.wm_forest.specs.Spot.{spot_in, top}
use Rattle.wm_shared.specs.Subject.{IsSubject, is_subject_kind}
use Rattle.wm_tree.proofs.MoveLemmas.{sound-moved}
use Rattle.wm_tree.proofs.SoundLemmas.{sound-edited}
use Rattle.wm_tree.specs.Move.{apart, moved, moved_share, passed_by_move}
use Rattle.wm_tree.specs.Sound.{IsSound}
use Rattle.wm_tree.specs.TreeValue.{TreeValue, shown}

-- ---- who is first

first_kinded : (c : ConId) (g : NodeKind → NodeKind) (row : Forest) → nth_id 0 (at c kinded g row) ≡ nth_id 0 row
first_kinded c g end = refl
first_kinded c g (con part kids floats rest) = step (same part.id c) (has c kids) (has c floats)
  where
    step : (a k l : Bool) → nth_id 0 (cond a (kinded g part kids floats rest) (cond k (con part (at c kinded g kids) floats rest) (cond l (con part kids (at c kinded g floats) rest) (con part kids floats (at c kinded g rest))))) ≡ Some part.id
    step true k l = refl
    step false true l = refl
    step false false true = refl
    step false false false = refl

first_after : (c : ConId) (g : NodeKind → NodeKind) (f : Forest) → nth_id 0 (first_floats (at c kinded g f)) ≡ nth_id 0 (first_floats f)
first_after c g end = refl
first_after c g (con part kids floats rest) = step (same part.id c) (has c kids) (has c floats)
  where
    step : (a k l : Bool) → nth_id 0 (first_floats (cond a (kinded g part kids floats rest) (cond k (con part (at c kinded g kids) floats rest) (cond l (con part kids (at c kinded g floats) rest) (con part kids floats (at c kinded g rest)))))) ≡ nth_id 0 floats
    step true k l = refl
    step false true l = refl
    step false false true = first_kinded c g floats
    step false false false = refl

no_row : (row : Forest) → nth_id 0 row ≡ None → row ≡ end
no_row end h = refl
no_row (con part kids floats rest) h = cc

arriving_first : (c : ConId) (share : ℕ) (rect : Option Rect) (away : Bool) (f : Forest) → has c f ≡ true → nth_id 0 (arriving share rect away (only c f)) ≡ Some c
arriving_first c share rect away f there = by (led c f there)
  where
    here : (b : Bool) (part : Part) (kids floats : Forest) → same part.id c ≡ true → nth_id 0 (arriving share rect b (con part kids floats end)) ≡ Some c
    here true part kids floats own = ap (λ (z : ConId). Some z) (same_is part.id c own)
    here false part kids floats own = ap (λ (z : ConId). Some z) (same_is part.id c own)

    by : Led c (only c f) → nth_id 0 (arriving share rect away (only c f)) ≡ Some c
    by l = ap (λ z. nth_id 0 (arriving share rect away z)) l.is ∙ here away l.part l.kids l.floats l.own

-- the root is the first node, and no container
root_node : (part : Part) (kids : Forest) (k : NodeKind) → IsNode roots false 0 part.id k part.marks kids → (same part.id root ≡ true) × (con_kind k ≡ None)
root_node part kids (Root d) n = (same_self part.id root n.0, refl)
root_node part kids (Output o) n = absurd n
root_node part kids (Space w) n = absurd n
root_node part kids (Con d) n = absurd n

comes_first : (c : ConId) (r : Rect) (row f : Forest) → IsSoundRow roots false 0 f → in_row root f ≡ true → kind_by con_kind (first_part (only c f)) ≢ None → nth_id 0 (first_floats f) ≡ None → nth_id 0 row ≡ Some c
    → nth_id 0 (first_floats (put (Scratchpad r) row (without c f))) ≡ Some c
comes_first c r row end p h ok none new = cc
comes_first c r row (con part kids floats rest) p h ok none new = step (same part.id c) (has c kids) (has c floats) ok
  where
    node : (same part.id root ≡ true) × (con_kind part.kind ≡ None)
    node = root_node part kids part.kind p.0

    empty : floats ≡ end
    empty = no_row floats none

    on_root : (k l m : Forest) → l ≡ end → nth_id 0 (first_floats (at root (put_word (Scratchpad r)) row (con part k l m))) ≡ Some c
    on_root k l m e = rw (node.0, e) new

    step : (a k l : Bool) → kind_by con_kind (first_part (cond a (con part kids floats end) (cond k (only c kids) (cond l (only c floats) (only c rest))))) ≢ None
        → nth_id 0 (first_floats (at root (put_word (Scratchpad r)) row (cond a rest (cond k (con part (without c kids) floats rest) (cond l (con part kids (without c floats) rest) (con part kids floats (without c rest))))))) ≡ Some c
    step true k l ok = absurd (ok node.1)
    step false true l ok = on_root (without c kids) floats rest empty
    step false false true ok = on_root kids (without c floats) rest (ap (without c) empty)
    step false false false ok = on_root kids floats (without c rest) empty

pub first_comes : ComesFirst
first_comes c t sub fine none =
    let p : Place = Scratchpad (floating_rect c t) in
    let refusals = second_none (window_refusal c t) (moved_refusal c p t) fine in
    let is = window_is c t refusals.0 in
    let ok = window_con c t is.1 in
    let g = hide_goal c (floating_rect c t) t sub.sound ok is.0 in
    ap first_hidden (restated_is (λ z. record z { flagged = true }) c (moved c p t))
    ∙ (first_after c (stated (λ z. record z { flagged = true })) (moved c p t).nodes
    ∙ comes_first c (floating_rect c t) (arriving (moved_share c p t.nodes) (rect_at p) (apart t c (named p)) (only c t.nodes)) t.nodes sub.sound.shaped sub.sound.rooted ok none
    (arriving_first c (moved_share c p t.nodes) (rect_at p) (apart t c (named p)) t.nodes g.0))

-- ---- and comes back

flag_sound : (c : ConId) (t : TreeValue) → IsSound t → IsSound (flag_set true c t)
flag_sound c t s = by (state_of c t)
  where
    by : (o : Option ConState) → IsSound (restated c (option_map (λ (s : ConState). record s { flagged = true }) o) t)
    by None = s
    by (Some x) = sound-edited c (edits.State (record x { flagged = true })) t (fits_state (record x { flagged = true }) (spot_in top c t.nodes) (first_kids (only c t.nodes))) s

hid_subject : (c : ConId) (t : TreeValue) → IsSubject t c → to_scratchpad_refusal c t ≡ None → is_flagged_state (state_of c (to_scratchpad_tree c t)) ≡ true → IsSubject (to_scratchpad_tree c t) c
hid_subject c t sub fine flag =
    let p : Place = Scratchpad (floating_rect c t) in
    let refusals = second_none (window_refusal c t) (moved_refusal c p t) fine in
    let is = window_is c t refusals.0 in
    let ok = window_con c t is.1 in
    let g = hide_goal c (floating_rect c t) t sub.sound ok is.0 in
    record {
      sound = flag_sound c (moved c p t) (sound-moved c p t ok g.0 g.1 (g.2.2 g.0 g.1) g.2.1 (no_limit (passed_by_move c p t.nodes) refusals.1) sub.sound);
      kind = by (kind_of space_kind c (to_scratchpad_tree c t).nodes) (kind_of con_kind c (to_scratchpad_tree c t).nodes) flag;
    }
  where
    by : (a : Option SpacePart) (b : Option ConPart) → is_flagged_state (option_map (λ (q : ConPart). q.state) b) ≡ true → is_subject_kind a b ≡ true
    by (Some x) b h = refl
    by None (Some d) h = refl
    by None None h = cc

pub shows_what_hid : ShowsWhatHid
shows_what_hid c t hid e sub fine none out shows =
    let Same : TreeValue → Type 0 = λ x. NoneIsOut x → show_scratchpad_refusal None x ≡ None → IsBack c (shown x) (centred (floating_rect c t) x) (show_scratchpad_tree None x) in
    let k = moves_to_scratchpad c t sub fine in
    let all : Same (to_scratchpad_tree c t) = λ a b. shows_first c (floating_rect c t) (to_scratchpad_tree c t) (hid_subject c t sub fine k.flagged) k (first_comes c t sub fine none) a b in
    subst Same (sym e) all out shows
