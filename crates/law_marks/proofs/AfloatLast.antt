-- What floats is a window with a rectangle within the limits: each word keeps that.
use Rattle.std.proofs.Common.{◌≡◌, ◌≢◌, ℕ, ◌+◌, ◌≤◌, Bool, true, false, cond, ◌&&◌, not, List, [], ◌∷◌, length, Option, None, Some, refl, sym, subst, arith}
use Rattle.std.specs.Prelude.{is_some}
use Rattle.wm_base.specs.declared.ids.ConId.{ConId}
use Rattle.wm_base.specs.declared.plan.Border.{Border}
use Rattle.wm_base.specs.declared.plan.Layout.{Layout}
use Rattle.wm_base.specs.declared.plan.OutputPlan.{OutputPlan}
use Rattle.law_lasting.proofs.EachLemmas.{each_at, each_change, each_only, each_put, each_settled, each_taking, each_without}
use Rattle.law_lasting.proofs.PlaceLemmas.{natural_window, own_share}
use Rattle.law_lasting.proofs.RectLemmas.{floating_fits, rect_fits}
use Rattle.law_lasting.proofs.StowedWords.{HasState}
use Rattle.law_lasting.specs.Each.{Each}
use Rattle.law_lasting.specs.Lasting.{IsOfNodes, Lasts}
use Rattle.law_lasting.specs.Rects.{FitsRect, RectsFit}
use Rattle.law_marks.proofs.AfloatKinds.{IsRight, Right, rects_of, right_changed, right_named, right_state}
use Rattle.law_marks.proofs.AfloatShares.{come_gives, shareless_window, untiled_share}
use Rattle.law_marks.proofs.AfloatWords.{along_right, exchanged_right, fullscreen_right, kept_state, moving_right, raised_right, stowed_right, tiled_right}
use Rattle.wm_floats.proofs.FloatLemmas.{flagged_is, window_is}
use Rattle.wm_floats.proofs.LeafLemmas.{tiling_goal}
use Rattle.wm_floats.specs.declared.kinds.Kind.TheVariants as kinds
use Rattle.wm_floats.specs.Floating.{floating_rect, sink_refusal, sink_tree, sunk, sunk_refusal, tiling_place}
use Rattle.wm_floats.specs.Kinds.{is_flagged_state, is_of_space}
use Rattle.wm_floats.specs.Scratchpad.{put_away, to_scratchpad_refusal, to_scratchpad_tree}
use Rattle.wm_floats.specs.Windows.{flag_set, natural_of, state_of, window_refusal}
use Rattle.wm_focus.proofs.SubjectLemmas.{tiled_is}
use Rattle.wm_focus.proofs.SwapLemmas.{tiled_there}
use Rattle.wm_focus.specs.Marks.{bare, taken_off}
use Rattle.wm_opens.proofs.SureSpaces.{none_of_two}
use Rattle.wm_shared.proofs.KidLemmas.{con_there}
use Rattle.wm_shared.specs.Rects.{rect_of}
use Rattle.wm_shared.specs.Refusing.{full_error}
use Rattle.wm_shared.specs.Subject.{is_container}
use Rattle.wm_spaces.specs.Coming.{free_name}
use Rattle.wm_forest.specs.Change.{at, is_id, without}
use Rattle.wm_forest.specs.declared.kind.KindEdit.{KindEdit}
use Rattle.wm_forest.specs.declared.kind.KindEdit.TheVariants as edits
use Rattle.wm_forest.specs.declared.part.ConState.{ConState}
use Rattle.wm_forest.specs.declared.part.NodeKind.{NodeKind}
use Rattle.wm_forest.specs.declared.place.NewCon.{NewCon}
use Rattle.wm_forest.specs.declared.place.NewCon.TheVariants as new
use Rattle.wm_forest.specs.declared.place.Place.{Place}
use Rattle.wm_forest.specs.declared.place.Place.TheVariants.{After, Before, First, Last, Float, Scratchpad}
use Rattle.wm_forest.specs.Forest.{Forest, end, con}
use Rattle.wm_forest.specs.Kinds.{changed, kind_changed}
use Rattle.wm_forest.specs.Look.{has, only, same}
use Rattle.wm_forest.specs.Marks.{marks_word, other_marks, unmark_word}
use Rattle.wm_forest.specs.Place.{IsPlace, named, new_part, rect_at, share_at, tiles}
use Rattle.wm_forest.specs.RootId.{id, root}
use Rattle.wm_forest.specs.Taking.{heir}
use Rattle.wm_tree.proofs.PlaceLemmas.{place_fits}
use Rattle.wm_tree.specs.Move.{moved, passed_by_move, share_in, wrap_word, wrapped}
use Rattle.wm_tree.specs.Outputs.{left_to, new_output, new_space, without_output, yielded}
use Rattle.wm_tree.specs.Sound.{IsSound}
use Rattle.wm_tree.specs.TreeValue.{TreeValue, current, focused, is_tiled_con, leaf, newcomer_place, opening, opening_outputs, or_id, shown, workspace_of}
use Rattle.wm_tree.specs.Words.{attached, edited}

abbrev pub AllRight : TreeValue → Type 0
AllRight t = Each Right t.nodes

-- ---- changes of one node

changed_right : (c : ConId) (edit : KindEdit) (f : Forest) → ((kind : NodeKind) → IsRight kind → IsRight (changed edit kind)) → Each Right f → Each Right (at c kind_changed edit f)
changed_right c edit f keeps p = each_change Right c kind_changed edit (λ part kids floats rest q. (keeps part.kind q.0, q.1, q.2, q.3)) f p

restated_right : (c : ConId) (old now : ConState) (t : TreeValue) → state_of c t ≡ Some old → (is_some old.rect ≡ true → is_some now.rect ≡ true) → (RectsFit t → FitsRect old.rect → FitsRect now.rect) → AllRight t → AllRight (edited c (edits.State now) t)
restated_right c old now t has some rects p =
    each_at Right c kind_changed (edits.State now) (HasState old) (λ part kids floats rest g q. (right_state old now part.kind g (rects (rects_of t.nodes p)) some q.0, q.1, q.2, q.3)) t.nodes has p

marked_right : (c : ConId) (marks : List (List ℕ)) (f : Forest) → Each Right f → Each Right (at c marks_word marks f)
marked_right c marks f p = each_change Right c marks_word marks (λ part kids floats rest q. q) f p

taken_right : (keep : Option ConId) (n : List ℕ) (f : Forest) → Each Right f → Each Right (taken_off keep n f)
taken_right keep n end p = p
taken_right keep n (con part kids floats rest) p = (step (is_id part.id keep), taken_right keep n kids p.1, taken_right keep n floats p.2, taken_right keep n rest p.3)
  where
    step : (b : Bool) → Right (cond b part (record part { marks = other_marks n part.marks }))
    step true = p.0
    step false = p.0

bare_right : (f : Forest) → Each Right f → Each Right (bare f)
bare_right end p = p
bare_right (con part kids floats rest) p = (p.0, bare_right kids p.1, bare_right floats p.2, bare_right rest p.3)

-- ---- the scratchpad, and windows that are tiled again

hidden_right : (c : ConId) (t : TreeValue) → IsSound t → to_scratchpad_refusal c t ≡ None → AllRight t → AllRight (to_scratchpad_tree c t)
hidden_right c t s fits p =
    let two = none_of_two (window_refusal c t) (full_error (passed_by_move c (Scratchpad (floating_rect c t)) t.nodes)) fits in
    let window = natural_window c t (window_is c t two.0).1 in
    kept_state c (λ (z : ConState). record z { flagged = true }) (moved c (Scratchpad (floating_rect c t)) t) (λ z. refl) (stowed_right c (floating_rect c t) t (floating_fits c t s (rects_of t.nodes p)) window p)

away_right : (w c : ConId) (t : TreeValue) → IsSound t → is_of_space kinds.Flagged w t c ≡ true → AllRight t → AllRight (put_away c t)
away_right w c t s on p =
    let ok = (flagged_is w c t on).0 in
    let untiled : is_tiled_con t c ≡ false = by (is_id w (workspace_of t c)) (is_container t c) (is_tiled_con t c) (is_flagged_state (state_of c t)) on in
    let window = shareless_window c t p ok (untiled_share c t s (con_there c t.nodes ok) ok untiled) in
    stowed_right c (rect_of c t) t (rect_fits c t (rects_of t.nodes p)) window p
  where
    by : (a b d e : Bool) → (a && (b && not d && e)) ≡ true → d ≡ false
    by true true false e h = refl
    by true true true e h = cc
    by true false d e h = cc
    by false b d e h = cc

tiling_tiles : (w : ConId) (t : TreeValue) → tiles (tiling_place w t) ≡ true
tiling_tiles w t = step (is_tiled_con t (or_id (leaf t w) w))
  where
    step : (b : Bool) → tiles (cond b (After (or_id (leaf t w) w)) (Last w)) ≡ true
    step true = refl
    step false = refl

sunk_right : (c : ConId) (w : Option ConId) (t : TreeValue) → workspace_of t c ≡ w → IsSound t → natural_of c t ≢ None → AllRight t → AllRight (sunk c w t)
sunk_right c None t e s ok p = p
sunk_right c (Some w) t e s ok p = step (is_tiled_con t c) refl
  where
    step : (b : Bool) → is_tiled_con t c ≡ b → AllRight (cond b t (flag_set false c (moved c (tiling_place w t) t)))
    step true d = p
    step false d =
        kept_state c (λ (z : ConState). record z { flagged = false }) (moved c (tiling_place w t) t) (λ z. refl) (tiled_right c (tiling_place w t) t s (tiling_goal c w t s ok e d) (tiling_tiles w t) p)

sink_right : (c : ConId) (t : TreeValue) → IsSound t → sink_refusal c t ≡ None → AllRight t → AllRight (sink_tree c t)
sink_right c t s fits p =
    let two = none_of_two (window_refusal c t) (sunk_refusal c (workspace_of t c) t) fits in
    sunk_right c (workspace_of t c) t refl s (window_is c t two.0).1 p

-- ---- nodes that come and go

new_right : (p : Place) (newcomer : NewCon) (t : TreeValue) → tiles p ≡ true → 1 ≤ share_at p t.nodes → IsRight (new_part (id t.next_id) (share_at p t.nodes) t.border (rect_at p) newcomer).kind
new_right p newcomer t h some = (by p h, λ e. absurd (omega (arith, some, e)))
  where
    by : (d : Place) → tiles d ≡ true → FitsRect (rect_at d)
    by (After x) z = tt
    by (Before x) z = tt
    by (First x) z = tt
    by (Last x) z = tt
    by (Float w r) z = cc
    by (Scratchpad r) z = cc

come_right : (p : Place) (newcomer : NewCon) (t : TreeValue) → IsSound t → has (named p) t.nodes ≡ true → IsPlace p t.nodes → tiles p ≡ true → AllRight t → AllRight (attached p newcomer t)
come_right p newcomer t s there fits h q =
    each_put Right p (con (new_part (id t.next_id) (share_at p t.nodes) t.border (rect_at p) newcomer) end end end) t.nodes (new_right p newcomer t h (come_gives p t s there fits h), tt, tt, tt) q

newcomer_tiles : (t : TreeValue) → tiles (newcomer_place t) ≡ true
newcomer_tiles t = step (same (focused t) (shown t)) (is_tiled_con t (focused t)) (is_tiled_con t (or_id (leaf t (shown t)) (shown t)))
  where
    step : (a b d : Bool) → tiles (cond a (Last (shown t)) (cond b (After (focused t)) (cond d (After (or_id (leaf t (shown t)) (shown t))) (Last (shown t))))) ≡ true
    step true b d = refl
    step false true d = refl
    step false false true = refl
    step false false false = refl

mapped_right : (newcomer : NewCon) (t : TreeValue) → IsSound t → AllRight t → AllRight (attached (newcomer_place t) newcomer t)
mapped_right newcomer t s q = let fit = place_fits t s in come_right (newcomer_place t) newcomer t s fit.0 fit.1 (newcomer_tiles t) q

wrapped_right : (c : ConId) (layout : Layout) (t : TreeValue) → IsSound t → is_tiled_con t c ≡ true → AllRight t → AllRight (wrapped c layout t)
wrapped_right c layout t s own q =
    let share : 1 ≤ share_in c t.nodes = own_share c t s (tiled_there t c own) (tiled_is t c own) in
    each_change Right c wrap_word (new_part (id t.next_id) (share_in c t.nodes) t.border None (new.Split layout))
    (λ part kids floats rest p. ((tt, λ e. absurd (omega (arith, share, e))), (right_changed (edits.Share 65536) part.kind refl (omega arith) p.0, p.1, p.2, tt), tt, p.3)) t.nodes q

output_right : (o : ConId) (t : TreeValue) → AllRight t → AllRight (without_output o t)
output_right o t p = by (heir o t.nodes)
  where
    yields : (h : ConId) → Each Right (yielded o h t).nodes
    yields h = step (same (current t) o)
      where
        step : (b : Bool) → Each Right (cond b (edited root (edits.Current h) t) t).nodes
        step true = changed_right root (edits.Current h) t.nodes (λ kind r. right_changed (edits.Current h) kind refl tt r) p
        step false = p

    by : (h : Option ConId) → Each Right (left_to h o t).nodes
    by None = p
    by (Some h) = each_taking Right h (only o (yielded o h t).nodes) (without o (yielded o h t).nodes) (each_only Right o (yielded o h t).nodes (yields h)) (each_without Right o (yielded o h t).nodes (yields h))

-- ---- the whole

pub afloat_nodes : IsOfNodes AllRight
afloat_nodes t new e q = subst (Each Right) (sym e) q

pub afloat_last : Lasts AllRight
afloat_last = record {
  alike = λ t now e f g h q. subst (Each Right) (sym e) q;
  editing = λ c edit t calm gives q. changed_right c edit t.nodes (λ kind r. right_changed edit kind calm gives r) q;
  renaming = λ was name w t s fits is q. changed_right w (edits.Name name) t.nodes (λ kind r. right_named name kind r) q;
  restating = λ c old now t has keeps rects q. restated_right c old now t has keeps.2 rects q;
  filling = λ c on t s fits q. fullscreen_right c on t q;
  stripping = λ c t q. marked_right c [] t.nodes q;
  unmarking = λ c mark t q. each_change Right c unmark_word mark (λ part kids floats rest p. p) t.nodes q;
  giving = λ c mark add t s q. taken_right (Some c) mark _ (marked_right c _ t.nodes q);
  taking_off = λ keep mark t q. taken_right keep mark t.nodes q;
  baring = λ t q. bare_right t.nodes q;
  urging = λ v t s window new q. q;
  calming = λ v t q. q;
  raising = λ c t s q. raised_right c (workspace_of t c) t.nodes q;
  moving = λ c p t s goal out floats after q. moving_right c p t s goal out floats q;
  exchanging = λ a b t s g after q. exchanged_right a b t s g q;
  space_moving = λ w o t s ok out after q. each_put Right (Last o) (only w t.nodes) (without w t.nodes) (each_only Right w t.nodes q) (each_without Right w t.nodes q);
  going_along = λ v w t low none q. along_right v w t q;
  hiding = λ c t s fits q. hidden_right c t s fits q;
  putting_away = λ w c t s on fits q. away_right w c t s on q;
  sinking = λ c t s fits q. sink_right c t s fits q;
  attaching = λ who props natural t s fits q. mapped_right (new.Window props who natural) t s q;
  joining = λ p newcomer t s room q. come_right (Last p) newcomer t s room.there room.place refl q;
  wrapping = λ c layout t s own after q. wrapped_right c layout t s own q;
  space_coming = λ o name t s out after free q. each_put Right (Last o) (new_space (id t.next_id) name t) t.nodes (tt, tt, tt, tt) q;
  output_coming = λ plan t s fine after q. each_put Right (Last root) (new_output (id t.next_id) plan (id (t.next_id + 1)) (free_name t) t) t.nodes (tt, (tt, tt, tt, tt), tt, tt) q;
  detaching = λ c t s ok q. each_without Right c t.nodes q;
  settling = λ t s q. each_settled Right None t.nodes q;
  output_going = λ o t s out q. output_right o t q;
}

-- ---- the opening tree

none_open : (k last inner outer : ℕ) (plans : List OutputPlan) → Each Right (opening_outputs k last inner outer plans)
none_open k last inner outer [] = tt
none_open k last inner outer (plan ∷ plans) = (tt, (tt, tt, tt, tt), tt, none_open (k + 1) last inner outer plans)

pub opening_right : (plans : List OutputPlan) (border : Border) (inner outer : ℕ) → AllRight (opening plans border inner outer)
opening_right plans border inner outer = (tt, none_open 1 (1 + length plans) inner outer plans, tt, tt)
