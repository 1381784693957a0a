-- No command makes a window, and so no text does.
use Rattle.std.proofs.Common.{◌≡◌, ℕ, Bool, true, false, cond, ◌&&◌, List, [], ◌∷◌, Option, None, Some, refl, ap, sym, ◌∙◌, arith}
use Rattle.wm_apply.specs.Batches.{Outcome, command_done, commands_done, group_done, groups_done, groups_of, outcome, targets}
use Rattle.wm_apply.specs.Commands.{Course, course, course_tree, on, refused, whole}
use Rattle.wm_apply.specs.declared.rows.How.{How}
use Rattle.wm_apply.specs.declared.targets.Targets.{Targets}
use Rattle.wm_apply.specs.FloatRows.{floating_tree, is_on}
use Rattle.wm_apply.specs.Layouts.{layout_named}
use Rattle.wm_apply.specs.OutputRows.{output_some, to_named_tree, to_output_tree}
use Rattle.wm_apply.specs.Rows.{focus_tree, matched_subject, row_refusal, row_tree, whole_refusal, whole_tree}
use Rattle.wm_apply.specs.Subjects.{each_tree, is_there, one_tree, unless_refused}
use Rattle.wm_base.specs.declared.errors.Refusal.{Refusal}
use Rattle.wm_base.specs.declared.geometry.Dir.{Dir}
use Rattle.wm_base.specs.declared.ids.ConId.{ConId}
use Rattle.wm_base.specs.declared.plan.Layout.{Layout}
use Rattle.wm_criteria.specs.declared.verdict.Verdict.{Verdict}
use Rattle.wm_floats.specs.declared.kinds.Kind.TheVariants as kinds
use Rattle.wm_floats.specs.Floating.{float_tree, sink_tree}
use Rattle.wm_floats.specs.Kinds.{is_of}
use Rattle.wm_floats.specs.Rounds.{focus_round_tree, shift_tree}
use Rattle.wm_focus.specs.declared.direction.Goal.{Goal}
use Rattle.wm_focus.specs.declared.direction.Goal.TheVariants as goals
use Rattle.wm_focus.specs.Direction.{focus_dir_tree, focusing_some, goal_of as dir_goal, gone_to}
use Rattle.wm_focus.specs.Marks.{given_mark, is_marked, mark_tree, unmark_all, unmark_one, unmark_tree}
use Rattle.wm_focus.specs.Moves.{beside, entry, held_out, is_split_con, move_dir_tree, near_end, out_tree, over_tree, side_of, space_over, step_tree, turned}
use Rattle.wm_focus.specs.Parents.{raised_some}
use Rattle.wm_focus.specs.Splits.{gives_layout, laid, laid_as, split_as}
use Rattle.wm_focus.specs.Swaps.{exchanged_with, moved_after}
use Rattle.wm_language.specs.declared.arguments.OnOff.{OnOff}
use Rattle.wm_language.specs.declared.batch.Group.{Group}
use Rattle.wm_language.specs.declared.command.Command.{Command}
use Rattle.wm_language.specs.declared.command.Command.TheVariants as commands
use Rattle.wm_layouts.specs.declared.plan.Env.{Env}
use Rattle.wm_opens.proofs.AppendLemmas.{kept_append}
use Rattle.wm_opens.proofs.FloatLemmas.{kept_floated, kept_fullscreen, kept_hidden, kept_kind, kept_placed, kept_scratchpad, kept_stuck, kept_sunk}
use Rattle.wm_opens.proofs.KeptLemmas.{Kept, kept_count, kept_edited, kept_exchanged, kept_given, kept_moved, kept_raised, kept_refl, kept_settled, kept_trans, kept_unmarked, kept_with_marks, kept_wrapped}
use Rattle.wm_opens.proofs.ShowingLemmas.{kept_entered, kept_focusing, kept_output_focused, kept_remembering}
use Rattle.wm_opens.proofs.SizeLemmas.{kept_border, kept_cycled, kept_gaps, kept_rect, kept_resized, kept_round}
use Rattle.wm_opens.proofs.SpaceLemmas.{kept_goal_sent, kept_goal_shown, kept_renamed, kept_sent_some, kept_space_goes}
use Rattle.wm_opens.proofs.WordLemmas.{count-bare, count-taken_off}
use Rattle.wm_floats.specs.Scratchpad.{show_scratchpad_tree}
use Rattle.wm_shared.specs.Showing.{entered, focusing, shown_on}
use Rattle.wm_shared.specs.Subject.{is_hidden, is_subject_kind}
use Rattle.wm_spaces.specs.Outs.{output_at}
use Rattle.wm_spaces.specs.Renaming.{renamed_space}
use Rattle.wm_spaces.specs.Sending.{sent_some}
use Rattle.wm_spaces.specs.Targets.{goal_of}
use Rattle.wm_forest.specs.declared.kind.KindEdit.TheVariants as edits
use Rattle.wm_forest.specs.declared.place.Place.TheVariants.{After}
use Rattle.wm_forest.proofs.ForestLemmas.{only_absent}
use Rattle.wm_forest.specs.Forest.{Forest}
use Rattle.wm_forest.specs.Look.{con_kind, first_part, has, kind_by, space_kind}
use Rattle.wm_tree.specs.Move.{exchanged, moved, share_in, unmarked, wrapped}
use Rattle.wm_tree.specs.TreeValue.{TreeValue, is_tiled_con, leaf, parent, workspace_of}
use Rattle.wm_tree.specs.Words.{edited, settled}

-- ---- focus and layouts

kept_raised_some : (c : Option ConId) (t : TreeValue) → Kept t (raised_some c t)
kept_raised_some None t = kept_refl t
kept_raised_some (Some c) t = kept_raised c t

kept_focusing_some : (c : Option ConId) (t : TreeValue) → Kept t (focusing_some c t)
kept_focusing_some None t = kept_refl t
kept_focusing_some (Some c) t = kept_focusing c t

kept_gone_to : (g : Option Goal) (t : TreeValue) → Kept t (gone_to g t)
kept_gone_to None t = kept_refl t
kept_gone_to (Some (goals.Node n)) t = kept_focusing_some (leaf t n) t
kept_gone_to (Some (goals.Output o)) t = kept_output_focused o t

kept_dir : (d : Dir) (c : ConId) (t : TreeValue) → Kept t (focus_dir_tree c d t)
kept_dir d c t = by_test (is_of kinds.Floating t c)
  where
    by_test : (b : Bool) → Kept t (cond b (focus_round_tree c d t) (gone_to (dir_goal d c t) t))
    by_test true = kept_round c d t
    by_test false = kept_gone_to (dir_goal d c t) t

kept_laid : (c : ConId) (layout : Layout) (t : TreeValue) → Kept t (laid_as c layout t)
kept_laid c layout t = kept_edited (laid t c) (edits.Layout layout) t refl

kept_split : (c : ConId) (layout : Layout) (t : TreeValue) → Kept t (split_as c layout t)
kept_split c layout t = step (gives_layout t c)
  where
    step : (b : Bool) → Kept t (cond b (laid_as c layout t) (wrapped c layout t))
    step true = kept_laid c layout t
    step false = kept_wrapped c layout t

-- ---- moves and exchanges

kept_exchanged_with : (c : ConId) (o : Option ConId) (t : TreeValue) → has c t.nodes ≡ true → Kept t (exchanged_with c o t)
kept_exchanged_with c None t h = kept_refl t
kept_exchanged_with c (Some o) t h = kept_exchanged c o t h

kept_moved_after : (c : ConId) (m : Option ConId) (t : TreeValue) → Kept t (moved_after c m t)
kept_moved_after c None t = kept_refl t
kept_moved_after c (Some m) t = by_test (is_tiled_con t c)
  where
    by_test : (b : Bool) → Kept t (cond b (moved c (After m) t) (sent_some (workspace_of t m) c t))
    by_test true = kept_moved c (After m) t
    by_test false = kept_sent_some (workspace_of t m) c t

kept_turned : (c n : ConId) (t : TreeValue) → has c t.nodes ≡ true → Kept t (turned c n t)
kept_turned c n t h =
    let swapped : TreeValue = exchanged c n t in
    let first : TreeValue = edited c (edits.Share (share_in c t.nodes)) swapped in
    kept_trans t first (turned c n t) (kept_trans t swapped first (kept_exchanged c n t h) (kept_edited c (edits.Share (share_in c t.nodes)) swapped refl)) (kept_edited n (edits.Share (share_in n t.nodes)) first refl)

kept_over : (d : Dir) (c : ConId) (w : Option ConId) (t : TreeValue) → Kept t (over_tree d c w t)
kept_over d c None t = kept_refl t
kept_over d c (Some w) t =
    let went : TreeValue = moved c (near_end d w) t in
    kept_remembering t t (entered c went) (kept_trans t went (entered c went) (kept_moved c (near_end d w) t) (kept_entered c went))

kept_out : (d : Dir) (c : ConId) (child : Option ConId) (t : TreeValue) → Kept t (out_tree d c child t)
kept_out d c None t = kept_over d c (space_over d c t) t
kept_out d c (Some child) t = kept_moved c (side_of d child) t

kept_step : (d : Dir) (c : ConId) (n : Option ConId) (t : TreeValue) → has c t.nodes ≡ true → Kept t (step_tree d c n t)
kept_step d c None t h = kept_out d c (held_out d c t) t
kept_step d c (Some n) t h = step (is_split_con t n)
  where
    step : (b : Bool) → Kept t (cond b (moved c (entry d n t) t) (turned c n t))
    step true = kept_moved c (entry d n t) t
    step false = kept_turned c n t h

kept_shifted : (d : Dir) (px : ℕ) (c : ConId) (t : TreeValue) → has c t.nodes ≡ true → Kept t (move_dir_tree c d px t)
kept_shifted d px c t h = by_test (is_tiled_con t c)
  where
    by_test : (b : Bool) → Kept t (cond b (step_tree d c (beside d c t) t) (shift_tree c d px t))
    by_test true = kept_step d c (beside d c t) t h
    by_test false = kept_placed c _ _ t

-- ---- marks

kept_unmark_one : (c : ConId) (n : Option (List ℕ)) (t : TreeValue) → Kept t (unmark_one c n t)
kept_unmark_one c None t = kept_with_marks c [] t
kept_unmark_one c (Some n) t = kept_unmarked c n t

kept_unmark_all : (n : Option (List ℕ)) (t : TreeValue) → Kept t (unmark_all n t)
kept_unmark_all None t = kept_count t (unmark_all None t) refl (λ m k. omega (arith, count-bare m k t.nodes))
kept_unmark_all (Some n) t = kept_count t (unmark_all (Some n) t) refl (λ m k. omega (arith, count-taken_off m k None n t.nodes))

kept_unmark : (c : Option ConId) (n : Option (List ℕ)) (t : TreeValue) → Kept t (unmark_tree c n t)
kept_unmark None n t = kept_unmark_all n t
kept_unmark (Some c) n t = kept_unmark_one c n t

kept_mark : (c : ConId) (n : List ℕ) (add toggle : Bool) (t : TreeValue) → Kept t (mark_tree c n add toggle t)
kept_mark c n add toggle t = step (toggle && is_marked c n t)
  where
    step : (b : Bool) → Kept t (cond b (unmarked c n t) (given_mark c n add t))
    step true = kept_unmarked c n t
    step false = kept_given c n add t

-- ---- outputs and floating windows

kept_output_some : (o : Option ConId) (t : TreeValue) → Kept t (output_some o t)
kept_output_some None t = kept_refl t
kept_output_some (Some o) t = kept_output_focused o t

kept_to_output : (o : Option ConId) (c : ConId) (t : TreeValue) → Kept t (to_output_tree o c t)
kept_to_output None c t = kept_refl t
kept_to_output (Some o) c t = kept_sent_some (shown_on o t) c t

kept_to_named : (o w : Option ConId) (t : TreeValue) → Kept t (to_named_tree o w t)
kept_to_named None w t = kept_refl t
kept_to_named (Some o) None t = kept_refl t
kept_to_named (Some o) (Some w) t = kept_space_goes (parent t w) w o t

kept_floating : (c : ConId) (arg : OnOff) (t : TreeValue) → Kept t (floating_tree c arg t)
kept_floating c arg t = step (is_on arg (is_of kinds.Floating t c))
  where
    step : (b : Bool) → Kept t (cond b (float_tree c t) (sink_tree c t))
    step true = kept_floated c (workspace_of t c) t
    step false = kept_sunk c (workspace_of t c) t

-- ---- the commands

kept_focus : (c : ConId) (t : TreeValue) → Kept t (focus_tree c t)
kept_focus c t = by_test (is_hidden t c)
  where
    by_test : (b : Bool) → Kept t (cond b (show_scratchpad_tree (Some c) t) (focusing c t))
    by_test true = kept_scratchpad (Some c) t
    by_test false = kept_focusing c t

-- a command on a subject that is there
pub kept_row : (env : Env) (how : How) (command : Command) (c : ConId) (t : TreeValue) → has c t.nodes ≡ true → Kept t (row_tree env how command c t)
kept_row env how (commands.Split arg) c t h = kept_split c _ t
kept_row env how (commands.SetLayout arg) c t h = kept_laid c _ t
kept_row env how (commands.CycleLayout cycle) c t h = kept_laid c _ t
kept_row env how commands.Focus c t h = kept_focus c t
kept_row env how (commands.FocusDir d) c t h = kept_dir d c t
kept_row env how commands.FocusParent c t h = kept_raised_some _ t
kept_row env how commands.FocusChild c t h = kept_raised_some _ t
kept_row env how (commands.MoveDir d px) c t h = kept_shifted d px c t h
kept_row env how (commands.MoveToMark name) c t h = kept_moved_after c _ t
kept_row env how (commands.Swap arg) c t h = kept_exchanged_with c _ t h
kept_row env how (commands.Mark add toggle name) c t h = kept_mark c name add toggle t
kept_row env how (commands.Unmark name) c t h = kept_unmark (matched_subject how c) name t
kept_row env how (commands.FocusOutput arg) c t h = kept_output_some (output_at c arg t) t
kept_row env how (commands.MoveToOutput arg) c t h = kept_to_output (output_at c arg t) c t
kept_row env how (commands.MoveToWorkspace target) c t h = kept_goal_sent (goal_of target t) c env.homes t
kept_row env how (commands.MoveWorkspace arg) c t h = kept_to_named (output_at c arg t) (workspace_of t c) t
kept_row env how (commands.FocusKind kind) c t h = kept_kind _ t
kept_row env how (commands.Floating arg) c t h = kept_floating c arg t
kept_row env how (commands.Fullscreen arg) c t h = kept_fullscreen c _ t
kept_row env how (commands.Sticky arg) c t h = kept_stuck _ c t
kept_row env how (commands.MovePosition x y) c t h = kept_placed c x y t
kept_row env how commands.MoveCenter c t h = kept_placed c _ _ t
kept_row env how commands.MoveToScratchpad c t h = kept_hidden c t
kept_row env how commands.ScratchpadShow c t h = kept_scratchpad (matched_subject how c) t
kept_row env how (commands.Resize grow side px ppt) c t h = kept_resized c grow side px ppt t
kept_row env how (commands.ResizeSet w high) c t h = kept_rect _ c t
kept_row env how (commands.SetBorder border) c t h = kept_border border c t
kept_row env how commands.CycleBorder c t h = kept_cycled c t
kept_row env how (commands.Gaps outer all op px) c t h = kept_gaps c outer all op px t
kept_row env how (commands.TitleFormat format) c t h = kept_edited c (edits.TitleFormat format) t refl
kept_row env how other c t h = kept_refl t

-- ---- subjects, commands and groups

kept_unless : (r : Option Refusal) (t new : TreeValue) → Kept t new → Kept t (unless_refused r t new)
kept_unless None t new h = h
kept_unless (Some e) t new h = kept_refl t

then_settled : (t new : TreeValue) → Kept t new → Kept t (settled new)
then_settled t new h = kept_trans t new (settled new) h (kept_settled new)

-- a subject is there
subject_there : (c : ConId) (t : TreeValue) → is_there c t ≡ true → has c t.nodes ≡ true
subject_there c t e = by_test (has c t.nodes) refl
  where
    by_test : (b : Bool) → has c t.nodes ≡ b → has c t.nodes ≡ true
    by_test true h = h
    by_test false h =
        let bad : true ≡ false = sym e ∙ ap (λ (f : Forest). is_subject_kind (kind_by space_kind (first_part f)) (kind_by con_kind (first_part f))) (only_absent c t.nodes h) in
        cc

kept_one : (env : Env) (how : How) (command : Command) (c : ConId) (t : TreeValue) → Kept t (one_tree env how command c t)
kept_one env how command c t = step (is_there c t) refl
  where
    after : TreeValue
    after = row_tree env how command c t

    step : (b : Bool) → is_there c t ≡ b → Kept t (cond b (unless_refused (row_refusal env how command c t) t (settled after)) t)
    step true e = kept_unless (row_refusal env how command c t) t (settled after) (then_settled t after (kept_row env how command c t (subject_there c t e)))
    step false e = kept_refl t

kept_each : (env : Env) (how : How) (command : Command) (cs : List ConId) (t : TreeValue) → Kept t (each_tree env how command cs t)
kept_each env how command [] t = kept_refl t
kept_each env how command (c ∷ cs) t =
    kept_trans t (one_tree env how command c t) (each_tree env how command (c ∷ cs) t) (kept_one env how command c t) (kept_each env how command cs (one_tree env how command c t))

kept_whole : (env : Env) (command : Command) (t : TreeValue) → Kept t (whole_tree env command t)
kept_whole env (commands.Workspace target) t = kept_goal_shown (goal_of target t) env.homes t
kept_whole env (commands.Rename was name) t = kept_renamed (renamed_space was t) name t
kept_whole env (commands.AppendLayout name) t = kept_append (layout_named name env.layouts) t
kept_whole env other t = kept_refl t

kept_course : (env : Env) (c : Course) (command : Command) (t : TreeValue) → Kept t (course_tree env c command t)
kept_course env (refused e) command t = kept_refl t
kept_course env (on how cs) command t = kept_each env how command cs t
kept_course env whole command t =
    let new : TreeValue = whole_tree env command t in
    kept_unless (whole_refusal env command t) t (settled new) (then_settled t new (kept_whole env command t))

kept_commands : (env : Env) (found : Targets) (cs : List Command) (o : Outcome) → Kept o.tree (commands_done env found cs o).tree
kept_commands env found [] o = kept_refl o.tree
kept_commands env found (c ∷ cs) o =
    kept_trans o.tree (command_done env found c o).tree (commands_done env found (c ∷ cs) o).tree (kept_course env (course env found c o.tree) c o.tree) (kept_commands env found cs (command_done env found c o))

kept_groups : (env : Env) (subject : Option ConId) (gs : List Group) (o : Outcome) → Kept o.tree (groups_done env subject gs o).tree
kept_groups env subject [] o = kept_refl o.tree
kept_groups env subject (g ∷ gs) o =
    kept_trans o.tree (group_done env subject g o).tree (groups_done env subject (g ∷ gs) o).tree (kept_commands env (targets g.criteria subject o.tree) g.commands o) (kept_groups env subject gs (group_done env subject g o))

pub kept_outcome : (env : Env) (verdict : Verdict) (subject : Option ConId) (t : TreeValue) → Kept t (outcome env verdict subject t).tree
kept_outcome env verdict subject t = kept_groups env subject (groups_of verdict) (record { tree = t; replies = []; mode = None; exit = false; kills = [] })
