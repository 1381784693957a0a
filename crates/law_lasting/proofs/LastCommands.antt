-- Each command keeps what lasts, where it is not refused.
use Rattle.std.proofs.Common.{◌≡◌, ℕ, Bool, true, false, cond, not, ◌&&◌, ◌||◌, Option, None, Some, refl, sym}
use Rattle.std.specs.Option.{option_or}
use Rattle.wm_apply.specs.FloatRows.{floating_refusal, floating_tree, is_on}
use Rattle.wm_apply.specs.OutputRows.{output_some, to_named_refusal, to_named_tree, to_output_refusal, to_output_tree}
use Rattle.wm_base.specs.declared.errors.ErrorText.{ErrorText}
use Rattle.wm_base.specs.declared.errors.ErrorText.TheVariants as texts
use Rattle.wm_base.specs.declared.geometry.Dir.{Dir}
use Rattle.wm_base.specs.declared.ids.ConId.{ConId}
use Rattle.wm_base.specs.declared.plan.Layout.{Layout}
use Rattle.wm_floats.specs.declared.kinds.Kind.TheVariants as kinds
use Rattle.wm_floats.specs.Floating.{float_refusal, float_tree, sink_refusal, sink_tree}
use Rattle.wm_floats.specs.Kinds.{is_of}
use Rattle.wm_floats.specs.Rounds.{focus_round_tree, shift_refusal, shift_tree}
use Rattle.wm_focus.proofs.MoveGoals.{cross_fits, entry_fits, side_fits, turn_fits}
use Rattle.wm_focus.proofs.SubjectLemmas.{tiled_is}
use Rattle.wm_focus.proofs.SwapLemmas.{tiled_there}
use Rattle.wm_focus.specs.declared.direction.Goal.{Goal}
use Rattle.wm_focus.specs.declared.direction.Goal.TheVariants as goals
use Rattle.wm_focus.specs.Direction.{focus_dir_tree, focusing_some, goal_of as dir_goal, gone_to}
use Rattle.wm_focus.specs.Moves.{IsGoal, IsTurn, after_child, beside, entry, held_out, is_split_con, move_dir_refusal, move_dir_tree, near_end, out_refusal, out_tree, over_refusal, over_tree, runs_split, side_of, space_over, step_refusal, step_tree, turned}
use Rattle.wm_focus.specs.Parents.{raised_some}
use Rattle.wm_shared.specs.Neighbours.{is_forward}
use Rattle.wm_focus.specs.Splits.{gives_layout, laid, laid_as, layout_refusal, split_as}
use Rattle.wm_focus.specs.Swaps.{beside_refusal, deep_error, exchange_refusal, exchanged_with, is_part, moved_after}
use Rattle.wm_language.specs.declared.arguments.OnOff.{OnOff}
use Rattle.wm_language.specs.declared.arguments.OutArg.{OutArg}
use Rattle.law_lasting.proofs.LastFloats.{last_float, last_placed, last_tiled}
use Rattle.law_lasting.proofs.LastSizes.{last_round}
use Rattle.law_lasting.proofs.LastSpaces.{last_entered, last_focusing, last_output, last_remembering, last_sent_some, last_space_goes}
use Rattle.law_lasting.proofs.PlaceLemmas.{own_share}
use Rattle.law_lasting.specs.Lasting.{Lasts}
use Rattle.wm_opens.proofs.SureCommands.{subject_con, unless}
use Rattle.wm_opens.proofs.SureLemmas.{not_full}
use Rattle.wm_opens.proofs.SureSpaces.{none_of_two}
use Rattle.wm_shared.proofs.ShowLemmas.{workspace_is}
use Rattle.wm_shared.specs.Refusing.{error_if, full_error}
use Rattle.wm_shared.specs.Showing.{entered, shown_on}
use Rattle.wm_shared.specs.Subject.{IsSubject, is_hidden, is_space}
use Rattle.wm_spaces.proofs.OutLemmas.{at_by}
use Rattle.wm_spaces.proofs.SendLemmas.{shown_space}
use Rattle.wm_spaces.specs.Outs.{output_at}
use Rattle.wm_spaces.specs.Sending.{sent_some, sent_some_refusal}
use Rattle.wm_tree.proofs.ExchangeSound.{sound-exchanged}
use Rattle.wm_tree.proofs.WrapLemmas.{sound-wrapped}
use Rattle.wm_forest.specs.declared.kind.KindEdit.TheVariants as edits
use Rattle.wm_forest.specs.declared.place.Place.TheVariants.{After, Before, First, Last}
use Rattle.wm_forest.specs.Look.{has, only}
use Rattle.wm_forest.specs.Place.{tiles}
use Rattle.wm_tree.specs.Move.{exchanged, is_too_deep, moved, passed_by_move, passed_by_wrap, share_in, wrapped}
use Rattle.wm_tree.specs.Outputs.{IsOutput}
use Rattle.wm_tree.specs.Sound.{IsSound}
use Rattle.wm_tree.specs.TreeValue.{TreeValue, focused_child, is_tiled_con, leaf, parent, workspace_of}
use Rattle.wm_tree.specs.Words.{edited}

-- ---- what is not refused

not_not : (b : Bool) → not b ≡ false → b ≡ true
not_not true h = refl
not_not false h = cc

both_of : (a b : Bool) → not (a && b) ≡ false → (a ≡ true) × (b ≡ true)
both_of true true h = (refl, refl)
both_of true false h = cc
both_of false b h = cc

neither : (a b : Bool) → (a || b) ≡ false → (a ≡ false) × (b ≡ false)
neither true b h = cc
neither false b h = (refl, h)

tiled_by : (a b : Bool) → (not a && not b) ≡ false → a ≡ false → b ≡ true
tiled_by true b h e = cc
tiled_by false true h e = refl
tiled_by false false h e = cc

shallow : (b : Bool) → deep_error b ≡ None → b ≡ false
shallow true h = cc
shallow false h = refl

-- ---- places where containers are tiled

near_tiles : (d : Dir) (n : ConId) → tiles (near_end d n) ≡ true
near_tiles d n = step (is_forward d)
  where
    step : (b : Bool) → tiles (cond b (First n) (Last n)) ≡ true
    step true = refl
    step false = refl

side_tiles : (d : Dir) (n : ConId) → tiles (side_of d n) ≡ true
side_tiles d n = step (is_forward d)
  where
    step : (b : Bool) → tiles (cond b (After n) (Before n)) ≡ true
    step true = refl
    step false = refl

entry_tiles : (d : Dir) (n : ConId) (t : TreeValue) → tiles (entry d n t) ≡ true
entry_tiles d n t = step (runs_split d n t) (focused_child t n)
  where
    step : (b : Bool) (o : Option ConId) → tiles (cond b (near_end d n) (after_child n o)) ≡ true
    step true o = near_tiles d n
    step false None = refl
    step false (Some child) = refl

module _ {P : TreeValue → Type 0} (k : Lasts P) where
  -- ---- focus and layouts

  pub last_raised_some : (c : Option ConId) (t : TreeValue) → IsSound t → P t → P (raised_some c t)
  last_raised_some None t s p = p
  last_raised_some (Some c) t s p = k.raising c t s p

  last_focusing_some : (c : Option ConId) (t : TreeValue) → IsSound t → P t → P (focusing_some c t)
  last_focusing_some None t s p = p
  last_focusing_some (Some c) t s p = last_focusing k c t s p

  last_gone_to : (g : Option Goal) (t : TreeValue) → IsSound t → P t → P (gone_to g t)
  last_gone_to None t s p = p
  last_gone_to (Some (goals.Node n)) t s p = last_focusing_some (leaf t n) t s p
  last_gone_to (Some (goals.Output o)) t s p = last_output k o t p

  pub last_focus_dir : (d : Dir) (c : ConId) (t : TreeValue) → IsSound t → P t → P (focus_dir_tree c d t)
  last_focus_dir d c t s p = by_test (is_of kinds.Floating t c)
    where
      by_test : (b : Bool) → P (cond b (focus_round_tree c d t) (gone_to (dir_goal d c t) t))
      by_test true = last_round k c d t s p
      by_test false = last_gone_to (dir_goal d c t) t s p

  pub last_laid : (c : ConId) (layout : Layout) (t : TreeValue) → P t → P (laid_as c layout t)
  last_laid c layout t p = k.editing (laid t c) (edits.Layout layout) t refl tt p

  pub last_split : (c : ConId) (layout : Layout) (t : TreeValue) → IsSound t → option_or (layout_refusal c t) (cond (gives_layout t c) None (full_error (passed_by_wrap c t.nodes t.next_id))) ≡ None → P t → P (split_as c layout t)
  last_split c layout t s fits p = step (gives_layout t c) refl both.1
    where
      both : (layout_refusal c t ≡ None) × (cond (gives_layout t c) None (full_error (passed_by_wrap c t.nodes t.next_id)) ≡ None)
      both = let j = none_of_two (layout_refusal c t) (cond (gives_layout t c) None (full_error (passed_by_wrap c t.nodes t.next_id))) fits in (j.0, j.1)

      step : (b : Bool) → gives_layout t c ≡ b → cond b None (full_error (passed_by_wrap c t.nodes t.next_id)) ≡ None → P (cond b (laid_as c layout t) (wrapped c layout t))
      step true e j = last_laid c layout t p
      step false e j =
          let hid = unless (is_hidden t c) texts.NoWorkspace (error_if (not (is_space t c) && not (is_tiled_con t c)) texts.NotTiled None) both.0 in
          let space = neither (is_space t c) _ e in
          let tiled : is_tiled_con t c ≡ true = tiled_by (is_space t c) (is_tiled_con t c) (unless (not (is_space t c) && not (is_tiled_con t c)) texts.NotTiled None hid.1).0 space.0 in
          k.wrapping c layout t s tiled (sound-wrapped c layout t (tiled_there t c tiled) (tiled_is t c tiled) (not_full (passed_by_wrap c t.nodes t.next_id) j) s) p

  -- ---- moves and exchanges

  last_exchanged : (c n : ConId) (t : TreeValue) → IsSound t → IsTurn c n t → is_too_deep c n t.nodes ≡ false → P t → P (exchanged c n t)
  last_exchanged c n t s g flat p = k.exchanging c n t s g (sound-exchanged c n t g.0 g.1 (g.2.0 g.0) (g.2.1 g.1) g.2.2 g.2.3 flat s) p

  last_turned : (c n : ConId) (t : TreeValue) → IsSound t → IsTurn c n t → is_too_deep c n t.nodes ≡ false → P t → P (turned c n t)
  last_turned c n t s g flat p =
      let swapped : TreeValue = exchanged c n t in
      let own : TreeValue = edited c (edits.Share (share_in c t.nodes)) swapped in
      k.editing n (edits.Share (share_in n t.nodes)) own refl (own_share n t s g.1 (g.2.1 g.1)) (k.editing c (edits.Share (share_in c t.nodes)) swapped refl (own_share c t s g.0 (g.2.0 g.0)) (last_exchanged c n t s g flat p))

  last_over : (d : Dir) (c : ConId) (w : Option ConId) (t : TreeValue) → space_over d c t ≡ w → IsSound t → is_tiled_con t c ≡ true → over_refusal d c w t ≡ None → P t → P (over_tree d c w t)
  last_over d c None t e s own fits p = p
  last_over d c (Some w) t e s own fits p =
      let went : TreeValue = moved c (near_end d w) t in
      last_remembering k t (entered c went) (last_entered k c went (last_tiled k c (near_end d w) t s (cross_fits d c w t s own e) (near_tiles d w) fits p))

  last_out : (d : Dir) (c : ConId) (child : Option ConId) (t : TreeValue) → held_out d c t ≡ child → IsSound t → is_tiled_con t c ≡ true → out_refusal d c child t ≡ None → P t → P (out_tree d c child t)
  last_out d c None t e s own fits p = last_over d c (space_over d c t) t refl s own fits p
  last_out d c (Some child) t e s own fits p = last_tiled k c (side_of d child) t s (side_fits d c child t s own e) (side_tiles d child) fits p

  last_step : (d : Dir) (c : ConId) (n : Option ConId) (t : TreeValue) → beside d c t ≡ n → IsSound t → is_tiled_con t c ≡ true → step_refusal d c n t ≡ None → P t → P (step_tree d c n t)
  last_step d c None t e s own fits p = last_out d c (held_out d c t) t refl s own fits p
  last_step d c (Some n) t e s own fits p = step (is_split_con t n) refl fits
    where
      step : (b : Bool) → is_split_con t n ≡ b → cond b (full_error (passed_by_move c (entry d n t) t.nodes)) (deep_error (is_too_deep c n t.nodes)) ≡ None → P (cond b (moved c (entry d n t) t) (turned c n t))
      step true j f = last_tiled k c (entry d n t) t s (entry_fits d c n t s own e j) (entry_tiles d n t) f p
      step false j f = last_turned c n t s (turn_fits d c n t s own e) (shallow (is_too_deep c n t.nodes) f) p

  pub last_dir : (c : ConId) (d : Dir) (px : ℕ) (t : TreeValue) → IsSound t → move_dir_refusal c d px t ≡ None → P t → P (move_dir_tree c d px t)
  last_dir c d px t s fits p =
      let a = unless (is_hidden t c) texts.NoWorkspace _ fits in
      let b = unless (is_space t c) texts.AtWorkspace _ a.1 in
      by_test (is_tiled_con t c) refl b.1
    where
      by_test : (b : Bool) → is_tiled_con t c ≡ b → cond b (step_refusal d c (beside d c t) t) (shift_refusal c d px t) ≡ None → P (cond b (step_tree d c (beside d c t) t) (shift_tree c d px t))
      by_test true own j = last_step d c (beside d c t) t refl s own j p
      by_test false own j = last_placed k c _ _ t j p

  last_moved_after : (c : ConId) (m : Option ConId) (t : TreeValue) → IsSubject t c → is_space t c ≡ false → beside_refusal c m t ≡ None → P t → P (moved_after c m t)
  last_moved_after c None t sub con fits p = p
  last_moved_after c (Some m) t sub con fits p =
      let a = unless (has m (only c t.nodes)) texts.SameContainer _ fits in
      let b = unless (not (is_tiled_con t m)) texts.NotTiled _ a.1 in
      by_test (is_tiled_con t c) refl (not_not (is_tiled_con t m) b.0) a.0 b.1
    where
      by_test : (b : Bool) → is_tiled_con t c ≡ b → is_tiled_con t m ≡ true → has m (only c t.nodes) ≡ false → cond b (full_error (passed_by_move c (After m) t.nodes)) (sent_some_refusal (workspace_of t m) c t) ≡ None
          → P (cond b (moved c (After m) t) (sent_some (workspace_of t m) c t))
      by_test true own other out j =
          let goal : IsGoal c (After m) t = (tiled_there t c own, tiled_there t m other, (λ h. (tiled_is t c own).0, λ h. tiled_is t m other, λ h z. out)) in
          last_tiled k c (After m) t sub.sound goal refl j p
      by_test false own other out j = last_sent_some k (workspace_of t m) c t sub.sound (subject_con c t sub con) (λ v e. workspace_is m v t sub.sound e) j p

  pub last_to_mark : (c : ConId) (m : Option ConId) (t : TreeValue) → IsSubject t c → error_if (is_hidden t c) texts.NoWorkspace (error_if (is_space t c) texts.AtWorkspace (beside_refusal c m t)) ≡ None → P t → P (moved_after c m t)
  last_to_mark c m t sub fits p =
      let a = unless (is_hidden t c) texts.NoWorkspace (error_if (is_space t c) texts.AtWorkspace (beside_refusal c m t)) fits in
      let b = unless (is_space t c) texts.AtWorkspace (beside_refusal c m t) a.1 in
      last_moved_after c m t sub b.0 b.1 p

  last_exchanged_with : (c : ConId) (o : Option ConId) (text : ErrorText) (t : TreeValue) → IsSound t → exchange_refusal c o text t ≡ None → P t → P (exchanged_with c o t)
  last_exchanged_with c None text t s fits p = p
  last_exchanged_with c (Some o) text t s fits p =
      let a = unless (is_part t c o) texts.SameContainer (error_if (not (is_tiled_con t c && is_tiled_con t o)) texts.NotTiled (deep_error (is_too_deep c o t.nodes))) fits in
      let b = unless (not (is_tiled_con t c && is_tiled_con t o)) texts.NotTiled (deep_error (is_too_deep c o t.nodes)) a.1 in
      let tiled = both_of (is_tiled_con t c) (is_tiled_con t o) b.0 in
      let part = neither (has o (only c t.nodes)) (has c (only o t.nodes)) a.0 in
      let turn : IsTurn c o t = (tiled_there t c tiled.0, tiled_there t o tiled.1, (λ h. tiled_is t c tiled.0, λ h. tiled_is t o tiled.1, part.0, part.1)) in
      last_exchanged c o t s turn (shallow (is_too_deep c o t.nodes) b.1) p

  pub last_swap : (c : ConId) (o : Option ConId) (text : ErrorText) (t : TreeValue) → IsSound t → error_if (is_hidden t c) texts.NoWorkspace (error_if (is_space t c) texts.AtWorkspace (exchange_refusal c o text t)) ≡ None → P t → P (exchanged_with c o t)
  last_swap c o text t s fits p =
      let a = unless (is_hidden t c) texts.NoWorkspace (error_if (is_space t c) texts.AtWorkspace (exchange_refusal c o text t)) fits in
      last_exchanged_with c o text t s (unless (is_space t c) texts.AtWorkspace (exchange_refusal c o text t) a.1).1 p

  -- ---- outputs and floating windows

  pub last_output_some : (o : Option ConId) (t : TreeValue) → P t → P (output_some o t)
  last_output_some None t p = p
  last_output_some (Some o) t p = last_output k o t p

  pub last_to_output : (c : ConId) (arg : OutArg) (o : Option ConId) (t : TreeValue) → output_at c arg t ≡ o → IsSubject t c → error_if (is_hidden t c) texts.NoWorkspace (error_if (is_space t c) texts.AtWorkspace (to_output_refusal o c t)) ≡ None
      → P t → P (to_output_tree o c t)
  last_to_output c arg None t e sub fits p = p
  last_to_output c arg (Some o) t e sub fits p =
      let a = unless (is_hidden t c) texts.NoWorkspace _ fits in
      let b = unless (is_space t c) texts.AtWorkspace (to_output_refusal (Some o) c t) a.1 in
      let x = unless (is_hidden t c) texts.NoWorkspace _ b.1 in
      let y = unless (is_space t c) texts.AtWorkspace _ x.1 in
      last_sent_some k (shown_on o t) c t sub.sound (subject_con c t sub b.0) (λ w h. shown_space o w t sub.sound (at_by c arg t (Some o) (sym e) sub.sound) h) y.1 p

  pub last_to_named : (c : ConId) (arg : OutArg) (o w : Option ConId) (t : TreeValue) → output_at c arg t ≡ o → workspace_of t c ≡ w → IsSound t → to_named_refusal o w t ≡ None → P t → P (to_named_tree o w t)
  last_to_named c arg None w t e d s fits p = p
  last_to_named c arg (Some o) None t e d s fits p = p
  last_to_named c arg (Some o) (Some w) t e d s fits p =
      let out : IsOutput o t.nodes = at_by c arg t (Some o) (sym e) s in last_space_goes k (parent t w) w o t refl s (workspace_is c w t s d) out fits p

  pub last_floating : (c : ConId) (arg : OnOff) (t : TreeValue) → IsSound t → floating_refusal c arg t ≡ None → P t → P (floating_tree c arg t)
  last_floating c arg t s fits p = step (is_on arg (is_of kinds.Floating t c)) fits
    where
      step : (b : Bool) → cond b (float_refusal c t) (sink_refusal c t) ≡ None → P (cond b (float_tree c t) (sink_tree c t))
      step true j = last_float k c t s j p
      step false j = k.sinking c t s j p
