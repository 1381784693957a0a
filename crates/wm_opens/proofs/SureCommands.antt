-- Each command keeps a sound tree sound, what is known, and containers without floating windows, where it is not refused.
use Rattle.std.proofs.Common.{◌≡◌, ◌≢◌, ℕ, Bool, true, false, cond, not, ◌&&◌, ◌||◌, Option, None, Some, refl, sym}
use Rattle.std.specs.Prelude.{is_some}
use Rattle.std.specs.Option.{option_or}
use Rattle.wm_apply.specs.FloatRows.{floating_refusal, floating_tree, is_on}
use Rattle.wm_apply.specs.OutputRows.{output_some, to_named_refusal, to_named_tree, to_output_refusal, to_output_tree}
use Rattle.wm_base.specs.declared.errors.ErrorText.{ErrorText}
use Rattle.wm_base.specs.declared.errors.ErrorText.TheVariants as texts
use Rattle.wm_base.specs.declared.errors.Refusal.{Refusal}
use Rattle.wm_base.specs.declared.geometry.Dir.{Dir}
use Rattle.wm_base.specs.declared.ids.ConId.{ConId}
use Rattle.wm_base.specs.declared.plan.Layout.{Layout}
use Rattle.wm_floats.specs.declared.kinds.Kind.TheVariants as kinds
use Rattle.wm_floats.specs.Floating.{float_refusal, float_tree, sink_refusal, sink_tree}
use Rattle.wm_floats.specs.Kinds.{is_of}
use Rattle.wm_floats.specs.Rounds.{focus_round_tree, shift_refusal, shift_tree}
use Rattle.wm_focus.proofs.MoveGoals.{cross_fits, entry_fits, side_fits, turn_fits}
use Rattle.wm_focus.proofs.SubjectLemmas.{tiled_is}
use Rattle.wm_focus.proofs.SwapLemmas.{tiled_there}
use Rattle.wm_focus.proofs.TurnLemmas.{turned_sound}
use Rattle.wm_focus.specs.declared.direction.Goal.{Goal}
use Rattle.wm_focus.specs.declared.direction.Goal.TheVariants as goals
use Rattle.wm_focus.specs.declared.rungs.Aim.TheVariants.{Around, Beside}
use Rattle.wm_focus.specs.Direction.{first_goal, focus_dir_tree, focusing_some, goal_of as dir_goal, gone_to, round_goal}
use Rattle.wm_focus.specs.Moves.{IsTurn, beside, entry, held_out, is_split_con, move_dir_refusal, move_dir_tree, near_end, out_refusal, out_tree, over_refusal, over_tree, side_of, space_over, step_refusal, step_tree, turned}
use Rattle.wm_focus.specs.Parents.{raised_some}
use Rattle.wm_focus.specs.Rungs.{nearest}
use Rattle.wm_focus.specs.Splits.{gives_layout, laid, laid_as, layout_refusal, split_as}
use Rattle.wm_focus.specs.Swaps.{beside_refusal, deep_error, exchange_refusal, exchanged_with, is_part, moved_after}
use Rattle.wm_language.specs.declared.arguments.OnOff.{OnOff}
use Rattle.wm_language.specs.declared.arguments.OutArg.{OutArg}
use Rattle.wm_language.specs.declared.arguments.OutArg.TheVariants as outs
use Rattle.wm_opens.proofs.KeptLemmas.{kept_edited, kept_trans}
use Rattle.wm_opens.proofs.SureSizes.{sure_round}
use Rattle.wm_opens.proofs.SureFloats.{sure_float, sure_placed, sure_sink}
use Rattle.wm_opens.proofs.SureLemmas.{Sure, may_move, not_full, sure_by, sure_edited, sure_exchanged, sure_moved, sure_raised, sure_refl, sure_trans, sure_wrapped}
use Rattle.wm_opens.proofs.SureSpaces.{fits_all, none_of_two, sure_entered, sure_focusing, sure_output, sure_remembering, sure_sent_some, sure_space_goes}
use Rattle.wm_opens.proofs.TidyLemmas.{tidy_edited}
use Rattle.wm_shared.proofs.ShowLemmas.{workspace_is}
use Rattle.wm_shared.specs.Outputs.{output_from}
use Rattle.wm_shared.specs.Refusing.{error_if, full_error}
use Rattle.wm_shared.specs.Showing.{entered, shown_on}
use Rattle.wm_shared.specs.Subject.{IsSubject, is_hidden, is_space, is_subject_kind}
use Rattle.wm_spaces.proofs.OutLemmas.{at_by}
use Rattle.wm_spaces.proofs.SendLemmas.{shown_space}
use Rattle.wm_spaces.specs.Outs.{output_at}
use Rattle.wm_spaces.specs.Sending.{sent_some, sent_some_refusal}
use Rattle.wm_tree.proofs.ExchangeSound.{sound-exchanged}
use Rattle.wm_tree.proofs.SoundLemmas.{sound-edited}
use Rattle.wm_tree.proofs.WrapLemmas.{sound-wrapped}
use Rattle.wm_forest.specs.declared.kind.KindEdit.TheVariants as edits
use Rattle.wm_forest.specs.declared.part.ConPart.{ConPart}
use Rattle.wm_forest.specs.declared.part.SpacePart.{SpacePart}
use Rattle.wm_forest.specs.declared.place.Place.TheVariants.{After}
use Rattle.wm_forest.specs.Look.{con_kind, first_kids, has, kind_of, only, space_kind}
use Rattle.wm_tree.specs.Move.{exchanged, is_too_deep, moved, passed_by_move, passed_by_wrap, share_in, wrapped}
use Rattle.wm_tree.specs.Outputs.{IsOutput}
use Rattle.wm_tree.specs.Sound.{IsSound}
use Rattle.wm_forest.specs.Spot.{spot_in, top}
use Rattle.wm_tree.specs.TreeValue.{TreeValue, is_tiled_con, leaf, parent, workspace_of}
use Rattle.wm_tree.specs.Words.{edited}

-- ---- what is not refused

pub unless : (b : Bool) (text : ErrorText) (rest : Option Refusal) → error_if b text rest ≡ None → (b ≡ false) × (rest ≡ None)
unless true text rest h = cc
unless false text rest h = (refl, h)

not_not : (b : Bool) → not b ≡ false → b ≡ true
not_not true h = refl
not_not false h = cc

both_of : (a b : Bool) → not (a && b) ≡ false → (a ≡ true) × (b ≡ true)
both_of true true h = (refl, refl)
both_of true false h = cc
both_of false b h = cc

neither : (a b : Bool) → (a || b) ≡ false → (a ≡ false) × (b ≡ false)
neither true b h = cc
neither false b h = (refl, h)

-- a subject that is no workspace is a container
pub subject_con : (c : ConId) (t : TreeValue) → IsSubject t c → is_space t c ≡ false → kind_of con_kind c t.nodes ≢ None
subject_con c t sub h = by (kind_of space_kind c t.nodes) (kind_of con_kind c t.nodes) h sub.kind
  where
    by : (a : Option SpacePart) (b : Option ConPart) → is_some a ≡ false → is_subject_kind a b ≡ true → b ≢ None
    by (Some x) b e k = cc
    by None (Some p) e k = λ z. cc
    by None None e k = cc

-- ---- focus and layouts

pub sure_raised_some : (c : Option ConId) (t : TreeValue) → IsSound t → Sure t (raised_some c t)
sure_raised_some None t s = sure_refl t s
sure_raised_some (Some c) t s = sure_raised c t s

pub sure_focusing_some : (c : Option ConId) (t : TreeValue) → IsSound t → Sure t (focusing_some c t)
sure_focusing_some None t s = sure_refl t s
sure_focusing_some (Some c) t s = sure_focusing c t s

from_output : (d : Dir) (c o : ConId) (t : TreeValue) → IsSound t → output_from d c t ≡ Some o → IsOutput o t.nodes
from_output d c o t s e = at_by c (outs.At d) t (Some o) (sym e) s

sure_gone_to : (d : Dir) (c : ConId) (g : Option Goal) (t : TreeValue) → dir_goal d c t ≡ g → IsSound t → Sure t (gone_to g t)
sure_gone_to d c None t e s = sure_refl t s
sure_gone_to d c (Some (goals.Node n)) t e s = sure_focusing_some (leaf t n) t s
sure_gone_to d c (Some (goals.Output o)) t e s = sure_output o t (from_output d c o t s (by (nearest Beside d c t.nodes) (output_from d c t) (nearest Around d c t.nodes) e)) s
  where
    by_round : (z : Option ConId) → round_goal z ≡ Some (goals.Output o) → None ≡ Some o
    by_round None h = cc
    by_round (Some x) h = cc

    by : (x y z : Option ConId) → first_goal x y z ≡ Some (goals.Output o) → y ≡ Some o
    by (Some n) y z h = cc
    by None (Some p) z h = cc
    by None None z h = by_round z h

pub sure_focus_dir : (d : Dir) (c : ConId) (t : TreeValue) → IsSound t → Sure t (focus_dir_tree c d t)
sure_focus_dir d c t s = by_test (is_of kinds.Floating t c)
  where
    by_test : (b : Bool) → Sure t (cond b (focus_round_tree c d t) (gone_to (dir_goal d c t) t))
    by_test true = sure_round c d t s
    by_test false = sure_gone_to d c (dir_goal d c t) t refl s

pub sure_laid : (c : ConId) (layout : Layout) (t : TreeValue) → IsSound t → Sure t (laid_as c layout t)
sure_laid c layout t s =
    sure_edited (laid t c) (edits.Layout layout) t refl
    (sound-edited (laid t c) (edits.Layout layout) t (fits_all (edits.Layout layout) (λ b kids. tt) (spot_in top (laid t c) t.nodes) (first_kids (only (laid t c) t.nodes))) s)

tiled_by : (a b : Bool) → (not a && not b) ≡ false → a ≡ false → b ≡ true
tiled_by true b h e = cc
tiled_by false true h e = refl
tiled_by false false h e = cc

pub sure_split : (c : ConId) (layout : Layout) (t : TreeValue) → IsSound t → option_or (layout_refusal c t) (cond (gives_layout t c) None (full_error (passed_by_wrap c t.nodes t.next_id))) ≡ None → Sure t (split_as c layout t)
sure_split c layout t s fits = step (gives_layout t c) refl both.1
  where
    both : (layout_refusal c t ≡ None) × (cond (gives_layout t c) None (full_error (passed_by_wrap c t.nodes t.next_id)) ≡ None)
    both = let k = none_of_two (layout_refusal c t) (cond (gives_layout t c) None (full_error (passed_by_wrap c t.nodes t.next_id))) fits in (k.0, k.1)

    step : (b : Bool) → gives_layout t c ≡ b → cond b None (full_error (passed_by_wrap c t.nodes t.next_id)) ≡ None → Sure t (cond b (laid_as c layout t) (wrapped c layout t))
    step true e k = sure_laid c layout t s
    step false e k =
        let hid = unless (is_hidden t c) texts.NoWorkspace (error_if (not (is_space t c) && not (is_tiled_con t c)) texts.NotTiled None) both.0 in
        let space = neither (is_space t c) _ e in
        let tiled : is_tiled_con t c ≡ true = tiled_by (is_space t c) (is_tiled_con t c) (unless (not (is_space t c) && not (is_tiled_con t c)) texts.NotTiled None hid.1).0 space.0 in
        sure_wrapped c layout t (sound-wrapped c layout t (tiled_there t c tiled) (tiled_is t c tiled) (not_full (passed_by_wrap c t.nodes t.next_id) k) s)

-- ---- moves and exchanges

shallow : (b : Bool) → deep_error b ≡ None → b ≡ false
shallow true h = cc
shallow false h = refl

sure_turned : (c n : ConId) (t : TreeValue) → IsSound t → IsTurn c n t → is_too_deep c n t.nodes ≡ false → Sure t (turned c n t)
sure_turned c n t s g flat =
    let swapped : TreeValue = exchanged c n t in
    let sound_one : IsSound (exchanged c n t) = sound-exchanged c n t g.0 g.1 (g.2.0 g.0) (g.2.1 g.1) g.2.2 g.2.3 flat s in
    let first : Sure t (exchanged c n t) = sure_exchanged c n t g.0 sound_one in
    let own : TreeValue = edited c (edits.Share (share_in c t.nodes)) swapped in
    let rest : Sure (exchanged c n t) (turned c n t) =
    sure_by swapped (turned c n t) (turned_sound c n t g s sound_one)
    (kept_trans swapped own (turned c n t) (kept_edited c (edits.Share (share_in c t.nodes)) swapped refl) (kept_edited n (edits.Share (share_in n t.nodes)) own refl)) refl
    (λ h. tidy_edited n (edits.Share (share_in n t.nodes)) own.nodes (tidy_edited c (edits.Share (share_in c t.nodes)) swapped.nodes h)) in
    sure_trans t swapped (turned c n t) first rest

sure_over : (d : Dir) (c : ConId) (w : Option ConId) (t : TreeValue) → space_over d c t ≡ w → IsSound t → is_tiled_con t c ≡ true → over_refusal d c w t ≡ None → Sure t (over_tree d c w t)
sure_over d c None t e s own fits = sure_refl t s
sure_over d c (Some w) t e s own fits =
    let went : TreeValue = moved c (near_end d w) t in
    let first : Sure t (moved c (near_end d w) t) = sure_moved c (near_end d w) t s (may_move c (near_end d w) t (cross_fits d c w t s own e)) fits in
    sure_remembering t t (entered c went) (sure_trans t went (entered c went) first (sure_entered c went first.sound))

sure_out : (d : Dir) (c : ConId) (child : Option ConId) (t : TreeValue) → held_out d c t ≡ child → IsSound t → is_tiled_con t c ≡ true → out_refusal d c child t ≡ None → Sure t (out_tree d c child t)
sure_out d c None t e s own fits = sure_over d c (space_over d c t) t refl s own fits
sure_out d c (Some child) t e s own fits = sure_moved c (side_of d child) t s (may_move c (side_of d child) t (side_fits d c child t s own e)) fits

sure_step : (d : Dir) (c : ConId) (n : Option ConId) (t : TreeValue) → beside d c t ≡ n → IsSound t → is_tiled_con t c ≡ true → step_refusal d c n t ≡ None → Sure t (step_tree d c n t)
sure_step d c None t e s own fits = sure_out d c (held_out d c t) t refl s own fits
sure_step d c (Some n) t e s own fits = step (is_split_con t n) refl fits
  where
    step : (b : Bool) → is_split_con t n ≡ b → cond b (full_error (passed_by_move c (entry d n t) t.nodes)) (deep_error (is_too_deep c n t.nodes)) ≡ None → Sure t (cond b (moved c (entry d n t) t) (turned c n t))
    step true k f = sure_moved c (entry d n t) t s (may_move c (entry d n t) t (entry_fits d c n t s own e k)) f
    step false k f = sure_turned c n t s (turn_fits d c n t s own e) (shallow (is_too_deep c n t.nodes) f)

pub sure_dir : (c : ConId) (d : Dir) (px : ℕ) (t : TreeValue) → IsSound t → move_dir_refusal c d px t ≡ None → Sure t (move_dir_tree c d px t)
sure_dir c d px t s fits =
    let a = unless (is_hidden t c) texts.NoWorkspace _ fits in
    let b = unless (is_space t c) texts.AtWorkspace _ a.1 in
    by_test (is_tiled_con t c) refl b.1
  where
    by_test : (b : Bool) → is_tiled_con t c ≡ b → cond b (step_refusal d c (beside d c t) t) (shift_refusal c d px t) ≡ None → Sure t (cond b (step_tree d c (beside d c t) t) (shift_tree c d px t))
    by_test true own k = sure_step d c (beside d c t) t refl s own k
    by_test false own k = sure_placed c _ _ t s

sure_moved_after : (c : ConId) (m : Option ConId) (t : TreeValue) → IsSubject t c → is_space t c ≡ false → beside_refusal c m t ≡ None → Sure t (moved_after c m t)
sure_moved_after c None t sub con fits = sure_refl t sub.sound
sure_moved_after c (Some m) t sub con fits =
    let a = unless (has m (only c t.nodes)) texts.SameContainer _ fits in
    let b = unless (not (is_tiled_con t m)) texts.NotTiled _ a.1 in
    by_test (is_tiled_con t c) refl (not_not (is_tiled_con t m) b.0) a.0 b.1
  where
    by_test : (b : Bool) → is_tiled_con t c ≡ b → is_tiled_con t m ≡ true → has m (only c t.nodes) ≡ false → cond b (full_error (passed_by_move c (After m) t.nodes)) (sent_some_refusal (workspace_of t m) c t) ≡ None
        → Sure t (cond b (moved c (After m) t) (sent_some (workspace_of t m) c t))
    by_test true own other out k = sure_moved c (After m) t sub.sound (record { is_con = (tiled_is t c own).0; here = tiled_there t c own; there = tiled_there t m other; outside = out; fits = λ h. tiled_is t m other }) k
    by_test false own other out k = sure_sent_some (workspace_of t m) c t sub.sound (subject_con c t sub con) (λ v e. workspace_is m v t sub.sound e) k

pub sure_to_mark : (c : ConId) (m : Option ConId) (t : TreeValue) → IsSubject t c → error_if (is_hidden t c) texts.NoWorkspace (error_if (is_space t c) texts.AtWorkspace (beside_refusal c m t)) ≡ None → Sure t (moved_after c m t)
sure_to_mark c m t sub fits =
    let a = unless (is_hidden t c) texts.NoWorkspace (error_if (is_space t c) texts.AtWorkspace (beside_refusal c m t)) fits in
    let b = unless (is_space t c) texts.AtWorkspace (beside_refusal c m t) a.1 in
    sure_moved_after c m t sub b.0 b.1

sure_exchanged_with : (c : ConId) (o : Option ConId) (text : ErrorText) (t : TreeValue) → IsSound t → exchange_refusal c o text t ≡ None → Sure t (exchanged_with c o t)
sure_exchanged_with c None text t s fits = sure_refl t s
sure_exchanged_with c (Some o) text t s fits =
    let a = unless (is_part t c o) texts.SameContainer (error_if (not (is_tiled_con t c && is_tiled_con t o)) texts.NotTiled (deep_error (is_too_deep c o t.nodes))) fits in
    let b = unless (not (is_tiled_con t c && is_tiled_con t o)) texts.NotTiled (deep_error (is_too_deep c o t.nodes)) a.1 in
    let tiled = both_of (is_tiled_con t c) (is_tiled_con t o) b.0 in
    let part = neither (has o (only c t.nodes)) (has c (only o t.nodes)) a.0 in
    let here : has c t.nodes ≡ true = tiled_there t c tiled.0 in
    sure_exchanged c o t here
    (sound-exchanged c o t here (tiled_there t o tiled.1) (tiled_is t c tiled.0) (tiled_is t o tiled.1) part.0 part.1 (shallow (is_too_deep c o t.nodes) b.1) s)

pub sure_swap : (c : ConId) (o : Option ConId) (text : ErrorText) (t : TreeValue) → IsSound t → error_if (is_hidden t c) texts.NoWorkspace (error_if (is_space t c) texts.AtWorkspace (exchange_refusal c o text t)) ≡ None → Sure t (exchanged_with c o t)
sure_swap c o text t s fits =
    let a = unless (is_hidden t c) texts.NoWorkspace (error_if (is_space t c) texts.AtWorkspace (exchange_refusal c o text t)) fits in
    sure_exchanged_with c o text t s (unless (is_space t c) texts.AtWorkspace (exchange_refusal c o text t) a.1).1

-- ---- outputs and floating windows

at_output : (c : ConId) (arg : OutArg) (o : ConId) (t : TreeValue) → IsSound t → output_at c arg t ≡ Some o → IsOutput o t.nodes
at_output c arg o t s e = at_by c arg t (Some o) (sym e) s

pub sure_output_some : (c : ConId) (arg : OutArg) (o : Option ConId) (t : TreeValue) → output_at c arg t ≡ o → IsSound t → Sure t (output_some o t)
sure_output_some c arg None t e s = sure_refl t s
sure_output_some c arg (Some o) t e s = sure_output o t (at_output c arg o t s e) s

pub sure_to_output : (c : ConId) (arg : OutArg) (o : Option ConId) (t : TreeValue) → output_at c arg t ≡ o → IsSubject t c → error_if (is_hidden t c) texts.NoWorkspace (error_if (is_space t c) texts.AtWorkspace (to_output_refusal o c t)) ≡ None → Sure t (to_output_tree o c t)
sure_to_output c arg None t e sub fits = sure_refl t sub.sound
sure_to_output c arg (Some o) t e sub fits =
    let a = unless (is_hidden t c) texts.NoWorkspace _ fits in
    let b = unless (is_space t c) texts.AtWorkspace (to_output_refusal (Some o) c t) a.1 in
    let x = unless (is_hidden t c) texts.NoWorkspace _ b.1 in
    let y = unless (is_space t c) texts.AtWorkspace _ x.1 in
    sure_sent_some (shown_on o t) c t sub.sound (subject_con c t sub b.0) (λ w h. shown_space o w t sub.sound (at_output c arg o t sub.sound e) h) y.1

pub sure_to_named : (c : ConId) (arg : OutArg) (o w : Option ConId) (t : TreeValue) → output_at c arg t ≡ o → workspace_of t c ≡ w → IsSound t → to_named_refusal o w t ≡ None → Sure t (to_named_tree o w t)
sure_to_named c arg None w t e d s fits = sure_refl t s
sure_to_named c arg (Some o) None t e d s fits = sure_refl t s
sure_to_named c arg (Some o) (Some w) t e d s fits = sure_space_goes (parent t w) w o t refl s (workspace_is c w t s d) (at_output c arg o t s e) fits

pub sure_floating : (c : ConId) (arg : OnOff) (t : TreeValue) → IsSound t → floating_refusal c arg t ≡ None → Sure t (floating_tree c arg t)
sure_floating c arg t s fits = step (is_on arg (is_of kinds.Floating t c)) fits
  where
    step : (b : Bool) → cond b (float_refusal c t) (sink_refusal c t) ≡ None → Sure t (cond b (float_tree c t) (sink_tree c t))
    step true k = sure_float c t s k
    step false k = sure_sink c t s k
