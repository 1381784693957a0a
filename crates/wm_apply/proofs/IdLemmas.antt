-- Commands let ids rise, and none that is gone comes back.
use Rattle.std.proofs.Common.{◌≡◌, ℕ, Bool, true, false, cond, ◌&&◌, List, [], ◌∷◌, Option, None, Some, refl, subst, sym, arith}
use Rattle.wm_base.specs.declared.errors.Refusal.{Refusal}
use Rattle.wm_base.specs.declared.geometry.Dir.{Dir}
use Rattle.wm_base.specs.declared.ids.ConId.{ConId}
use Rattle.wm_base.specs.declared.plan.Layout.{Layout}
use Rattle.wm_criteria.specs.declared.verdict.Verdict.{Verdict}
use Rattle.wm_focus.specs.declared.direction.Goal.{Goal}
use Rattle.wm_focus.specs.declared.direction.Goal.TheVariants as goals
use Rattle.wm_focus.specs.Direction.{focus_dir_tree, focusing_some, gone_to}
use Rattle.wm_focus.specs.Direction.{goal_of as goal_to}
use Rattle.wm_focus.specs.Moves.{beside, entry, held_out, is_split_con, move_dir_tree, near_end, out_tree, over_tree, side_of, space_over, step_tree, turned}
use Rattle.wm_focus.specs.Parents.{raised_some}
use Rattle.wm_focus.specs.Marks.{given_mark, is_marked, mark_tree, unmark_all, unmark_one, unmark_tree}
use Rattle.wm_focus.specs.Swaps.{exchanged_with, moved_after}
use Rattle.wm_focus.specs.Splits.{gives_layout, laid_as, split_as}
use Rattle.wm_floats.proofs.RiseLemmas.{ids_floated, ids_fullscreen, ids_hidden, ids_kind, ids_placed, ids_round, ids_scratchpad, ids_shifted, ids_stuck, ids_sunk}
use Rattle.wm_floats.specs.declared.kinds.Kind.TheVariants as kinds
use Rattle.wm_floats.specs.Floating.{float_tree, sink_tree}
use Rattle.wm_floats.specs.Kinds.{is_of}
use Rattle.wm_floats.specs.Rounds.{focus_round_tree, shift_tree}
use Rattle.wm_floats.specs.Scratchpad.{show_scratchpad_tree}
use Rattle.wm_language.specs.declared.arguments.OnOff.{OnOff}
use Rattle.wm_language.specs.declared.batch.Group.{Group}
use Rattle.wm_language.specs.declared.command.Command.{Command}
use Rattle.wm_language.specs.declared.command.Command.TheVariants as commands
use Rattle.wm_layouts.specs.declared.plan.Env.{Env}
use Rattle.wm_shared.proofs.RiseLemmas.{ids_focusing, ids_same as as_same, output_same, over_same}
use Rattle.wm_shared.specs.Showing.{focusing, output_focused}
use Rattle.wm_shared.specs.Subject.{is_hidden}
use Rattle.wm_apply.specs.FloatRows.{floating_tree, is_on}
use Rattle.wm_apply.specs.OutputRows.{output_some, to_named_tree, to_output_tree}
use Rattle.wm_shared.specs.Showing.{shown_on}
use Rattle.wm_sizes.proofs.RiseLemmas.{ids_bordered, ids_cycled, ids_formatted, ids_gapped, ids_resize_set, ids_resized}
use Rattle.wm_spaces.proofs.RiseLemmas.{ids_goal_sent, ids_output_focused, ids_renamed, ids_sent_some, ids_shown, ids_space_goes}
use Rattle.wm_spaces.specs.Outs.{output_at}
use Rattle.wm_spaces.specs.Sending.{sent_some}
use Rattle.wm_spaces.specs.Renaming.{renamed_space}
use Rattle.wm_spaces.specs.Targets.{goal_of}
use Rattle.wm_tree.specs.Ids.{IdsRise}
use Rattle.wm_base.specs.declared.plan.Border.{Border}
use Rattle.wm_forest.specs.declared.kind.KindEdit.TheVariants as edits
use Rattle.wm_forest.specs.declared.place.NewCon.{NewCon}
use Rattle.wm_forest.specs.declared.place.Place.TheVariants.{After, Last}
use Rattle.wm_forest.specs.RootId.{id}
use Rattle.wm_saved.specs.declared.saved.SavedLayout.{SavedLayout}
use Rattle.wm_swallow.specs.Appending.{appended, bordered, come_marked, given_marks, state_with}
use Rattle.wm_swallow.specs.SavedRows.{Saved, none, saved, rows}
use Rattle.wm_apply.specs.Layouts.{append_tree, layout_named}
use Rattle.wm_tree.specs.Move.{exchanged, moved, unmarked, with_marks, wrapped}
use Rattle.wm_tree.specs.TreeValue.{TreeValue, is_tiled_con, leaf, parent, shown, workspace_of}
use Rattle.wm_tree.specs.Words.{attached, settled}
use Rattle.wm_tree.proofs.IdLemmas.{ids_attached, ids_edited, ids_raised, ids_refl, ids_settled, ids_trans, ids_wrapped}
use Rattle.wm_apply.specs.declared.rows.How.{How}
use Rattle.wm_apply.specs.declared.targets.Targets.{Targets}
use Rattle.wm_apply.specs.Batches.{Outcome, command_done, commands_done, group_done, groups_done, groups_of, outcome, targets}
use Rattle.wm_apply.specs.Commands.{Course, course, course_tree, on, refused, whole}
use Rattle.wm_apply.specs.Rows.{focus_tree, row_refusal, row_tree, matched_subject, whole_refusal, whole_tree}
use Rattle.wm_apply.specs.Subjects.{each_tree, is_there, one_tree, unless_refused}

-- ---- the commands

ids_raised_some : (c : Option ConId) (t : TreeValue) → IdsRise t (raised_some c t)
ids_raised_some None t = ids_refl t
ids_raised_some (Some c) t = ids_raised c t

ids_laid : (c : ConId) (layout : Layout) (t : TreeValue) → IdsRise t (laid_as c layout t)
ids_laid c layout t = record { next = omega arith; known = λ v below. omega arith }

ids_split : (c : ConId) (layout : Layout) (t : TreeValue) → IdsRise t (split_as c layout t)
ids_split c layout t = step (gives_layout t c)
  where
    step : (b : Bool) → IdsRise t (cond b (laid_as c layout t) (wrapped c layout t))
    step true = ids_laid c layout t
    step false = ids_wrapped c layout t

ids_same : (t new : TreeValue) → new.next_id ≡ t.next_id → new.recency ≡ t.recency → IdsRise t new
ids_same t new e h = record { next = omega (arith, e); known = λ v below. rw h (omega arith) }

ids_exchanged : (c : ConId) (o : Option ConId) (t : TreeValue) → IdsRise t (exchanged_with c o t)
ids_exchanged c None t = ids_refl t
ids_exchanged c (Some o) t = ids_same t (exchanged c o t) refl refl

ids_moved_after : (c : ConId) (m : Option ConId) (t : TreeValue) → IdsRise t (moved_after c m t)
ids_moved_after c None t = ids_refl t
ids_moved_after c (Some m) t = by_test (is_tiled_con t c)
  where
    by_test : (b : Bool) → IdsRise t (cond b (moved c (After m) t) (sent_some (workspace_of t m) c t))
    by_test true = ids_same t (moved c (After m) t) refl refl
    by_test false = ids_sent_some (workspace_of t m) c t

ids_unmark_one : (c : ConId) (n : Option (List ℕ)) (t : TreeValue) → IdsRise t (unmark_one c n t)
ids_unmark_one c None t = ids_same t (with_marks c [] t) refl refl
ids_unmark_one c (Some n) t = ids_same t (unmarked c n t) refl refl

ids_unmark_all : (n : Option (List ℕ)) (t : TreeValue) → IdsRise t (unmark_all n t)
ids_unmark_all None t = ids_same t (unmark_all None t) refl refl
ids_unmark_all (Some n) t = ids_same t (unmark_all (Some n) t) refl refl

ids_unmark : (c : Option ConId) (n : Option (List ℕ)) (t : TreeValue) → IdsRise t (unmark_tree c n t)
ids_unmark None n t = ids_unmark_all n t
ids_unmark (Some c) n t = ids_unmark_one c n t

ids_mark : (c : ConId) (n : List ℕ) (add toggle : Bool) (t : TreeValue) → IdsRise t (mark_tree c n add toggle t)
ids_mark c n add toggle t = step (toggle && is_marked c n t)
  where
    step : (b : Bool) → IdsRise t (cond b (unmarked c n t) (given_mark c n add t))
    step true = ids_same t (unmarked c n t) refl refl
    step false = ids_same t (given_mark c n add t) refl refl

ids_turned : (c n : ConId) (t : TreeValue) → IdsRise t (turned c n t)
ids_turned c n t = ids_same t (turned c n t) refl refl

ids_over : (d : Dir) (c : ConId) (w : Option ConId) (t : TreeValue) → IdsRise t (over_tree d c w t)
ids_over d c None t = ids_refl t
ids_over d c (Some w) t =
    let went : TreeValue = moved c (near_end d w) t in
    as_same t (over_tree d c (Some w) t) (over_same c t went (record { next = refl; recency = refl }))

ids_out : (d : Dir) (c : ConId) (child : Option ConId) (t : TreeValue) → IdsRise t (out_tree d c child t)
ids_out d c None t = ids_over d c (space_over d c t) t
ids_out d c (Some child) t = ids_same t (moved c (side_of d child) t) refl refl

ids_step : (d : Dir) (c : ConId) (n : Option ConId) (t : TreeValue) → IdsRise t (step_tree d c n t)
ids_step d c None t = ids_out d c (held_out d c t) t
ids_step d c (Some n) t = step (is_split_con t n)
  where
    step : (b : Bool) → IdsRise t (cond b (moved c (entry d n t) t) (turned c n t))
    step true = ids_same t (moved c (entry d n t) t) refl refl
    step false = ids_turned c n t

ids_focusing_some : (c : Option ConId) (t : TreeValue) → IdsRise t (focusing_some c t)
ids_focusing_some None t = ids_refl t
ids_focusing_some (Some c) t = ids_focusing c t

ids_gone : (g : Option Goal) (t : TreeValue) → IdsRise t (gone_to g t)
ids_gone None t = ids_refl t
ids_gone (Some (goals.Node n)) t = ids_focusing_some (leaf t n) t
ids_gone (Some (goals.Output o)) t = as_same t (output_focused o t) (output_same o t)

ids_toward : (d : Dir) (c : ConId) (t : TreeValue) → IdsRise t (focus_dir_tree c d t)
ids_toward d c t = by_test (is_of kinds.Floating t c)
  where
    by_test : (b : Bool) → IdsRise t (cond b (focus_round_tree c d t) (gone_to (goal_to d c t) t))
    by_test true = ids_round c d t
    by_test false = ids_gone (goal_to d c t) t

ids_move : (d : Dir) (c : ConId) (px : ℕ) (t : TreeValue) → IdsRise t (move_dir_tree c d px t)
ids_move d c px t = by_test (is_tiled_con t c)
  where
    by_test : (b : Bool) → IdsRise t (cond b (step_tree d c (beside d c t) t) (shift_tree c d px t))
    by_test true = ids_step d c (beside d c t) t
    by_test false = ids_shifted c d px t

ids_output_some : (o : Option ConId) (t : TreeValue) → IdsRise t (output_some o t)
ids_output_some None t = ids_refl t
ids_output_some (Some o) t = ids_output_focused o t

ids_to_output : (o : Option ConId) (c : ConId) (t : TreeValue) → IdsRise t (to_output_tree o c t)
ids_to_output None c t = ids_refl t
ids_to_output (Some o) c t = ids_sent_some (shown_on o t) c t

ids_to_named : (o w : Option ConId) (t : TreeValue) → IdsRise t (to_named_tree o w t)
ids_to_named None w t = ids_refl t
ids_to_named (Some o) None t = ids_refl t
ids_to_named (Some o) (Some w) t = ids_space_goes (parent t w) w o t

ids_floating : (c : ConId) (arg : OnOff) (t : TreeValue) → IdsRise t (floating_tree c arg t)
ids_floating c arg t = by_test (is_on arg (is_of kinds.Floating t c))
  where
    by_test : (b : Bool) → IdsRise t (cond b (float_tree c t) (sink_tree c t))
    by_test true = ids_floated c (workspace_of t c) t
    by_test false = ids_sunk c (workspace_of t c) t

ids_focus : (c : ConId) (t : TreeValue) → IdsRise t (focus_tree c t)
ids_focus c t = by_test (is_hidden t c)
  where
    by_test : (b : Bool) → IdsRise t (cond b (show_scratchpad_tree (Some c) t) (focusing c t))
    by_test true = ids_scratchpad (Some c) t
    by_test false = ids_focusing c t

pub ids_row : (env : Env) (how : How) (command : Command) (c : ConId) (t : TreeValue) → IdsRise t (row_tree env how command c t)
ids_row env how (commands.Split arg) c t = ids_split c _ t
ids_row env how (commands.SetLayout arg) c t = ids_laid c _ t
ids_row env how (commands.CycleLayout cycle) c t = ids_laid c _ t
ids_row env how commands.Focus c t = ids_focus c t
ids_row env how (commands.FocusDir d) c t = ids_toward d c t
ids_row env how commands.FocusParent c t = ids_raised_some _ t
ids_row env how commands.FocusChild c t = ids_raised_some _ t
ids_row env how (commands.MoveDir d px) c t = ids_move d c px t
ids_row env how (commands.MoveToMark name) c t = ids_moved_after c _ t
ids_row env how (commands.Swap arg) c t = ids_exchanged c _ t
ids_row env how (commands.Mark add toggle name) c t = ids_mark c name add toggle t
ids_row env how (commands.Unmark name) c t = ids_unmark (matched_subject how c) name t
ids_row env how (commands.FocusOutput arg) c t = ids_output_some (output_at c arg t) t
ids_row env how (commands.MoveToOutput arg) c t = ids_to_output (output_at c arg t) c t
ids_row env how (commands.MoveToWorkspace target) c t = ids_goal_sent (goal_of target t) c env.homes t
ids_row env how (commands.MoveWorkspace arg) c t = ids_to_named (output_at c arg t) (workspace_of t c) t
ids_row env how (commands.FocusKind kind) c t = ids_kind _ t
ids_row env how (commands.Floating arg) c t = ids_floating c arg t
ids_row env how (commands.Fullscreen arg) c t = ids_fullscreen c _ t
ids_row env how (commands.Sticky arg) c t = ids_stuck _ c t
ids_row env how (commands.MovePosition x y) c t = ids_placed c x y t
ids_row env how commands.MoveCenter c t = ids_placed c _ _ t
ids_row env how commands.MoveToScratchpad c t = ids_hidden c t
ids_row env how commands.ScratchpadShow c t = ids_scratchpad (matched_subject how c) t
ids_row env how (commands.Resize grow side px ppt) c t = ids_resized c grow side px ppt t
ids_row env how (commands.ResizeSet w h) c t = ids_resize_set c w h t
ids_row env how (commands.SetBorder border) c t = ids_bordered c border t
ids_row env how commands.CycleBorder c t = ids_cycled c t
ids_row env how (commands.Gaps outer all op px) c t = ids_gapped c outer all op px t
ids_row env how (commands.TitleFormat format) c t = ids_formatted c format t
ids_row env how other c t = ids_refl t

-- ---- subjects, commands and groups

ids_unless : (r : Option Refusal) (t new : TreeValue) → IdsRise t new → IdsRise t (unless_refused r t new)
ids_unless None t new h = h
ids_unless (Some e) t new h = ids_refl t

ids_one : (env : Env) (how : How) (command : Command) (c : ConId) (t : TreeValue) → IdsRise t (one_tree env how command c t)
ids_one env how command c t = step (is_there c t)
  where
    after : TreeValue
    after = settled (row_tree env how command c t)

    step : (b : Bool) → IdsRise t (cond b (unless_refused (row_refusal env how command c t) t after) t)
    step true = ids_unless (row_refusal env how command c t) t after (ids_trans t (row_tree env how command c t) after (ids_row env how command c t) (ids_settled (row_tree env how command c t)))
    step false = ids_refl t

ids_each : (env : Env) (how : How) (command : Command) (cs : List ConId) (t : TreeValue) → IdsRise t (each_tree env how command cs t)
ids_each env how command [] t = ids_refl t
ids_each env how command (c ∷ cs) t = ids_trans t (one_tree env how command c t) (each_tree env how command (c ∷ cs) t) (ids_one env how command c t) (ids_each env how command cs (one_tree env how command c t))

ids_marked : (c : ConId) (ms : List (List ℕ)) (t : TreeValue) → IdsRise t (given_marks c ms t)
ids_marked c [] t = ids_refl t
ids_marked c (m ∷ ms) t =
    let given : TreeValue = given_mark c m true t in
    ids_trans t given (given_marks c ms given) (ids_same t given refl refl) (ids_marked c ms given)

ids_come : (p : ConId) (border : Border) (marks : List (List ℕ)) (newcomer : NewCon) (t : TreeValue) → IdsRise t (come_marked p border marks newcomer t)
ids_come p border marks newcomer t =
    let there : TreeValue = attached (Last p) newcomer t in
    let come : TreeValue = bordered (id t.next_id) border there in
    ids_trans t there (come_marked p border marks newcomer t) (ids_attached (Last p) newcomer t)
    (ids_trans there come (come_marked p border marks newcomer t) (ids_edited (id t.next_id) (edits.State (state_with border)) there) (ids_marked (id t.next_id) marks come))

ids_appended : (p : ConId) (row : Saved) (t : TreeValue) → IdsRise t (appended p row t)
ids_appended p none t = ids_refl t
ids_appended p (saved border marks newcomer kids rest) t =
    let come : TreeValue = come_marked p border marks newcomer t in
    let below : TreeValue = appended (id t.next_id) kids come in
    ids_trans t come (appended p rest below) (ids_come p border marks newcomer t)
    (ids_trans come below (appended p rest below) (ids_appended (id t.next_id) kids come) (ids_appended p rest below))

ids_append : (layout : Option SavedLayout) (t : TreeValue) → IdsRise t (append_tree layout t)
ids_append None t = ids_refl t
ids_append (Some layout) t = ids_appended (shown t) (rows layout.trees) t

ids_whole : (env : Env) (command : Command) (t : TreeValue) → IdsRise t (whole_tree env command t)
ids_whole env (commands.Workspace target) t = ids_shown (goal_of target t) env.homes t
ids_whole env (commands.Rename was name) t = ids_renamed (renamed_space was t) name t
ids_whole env (commands.AppendLayout name) t = ids_append (layout_named name env.layouts) t
ids_whole env other t = ids_refl t

ids_course : (env : Env) (c : Course) (command : Command) (t : TreeValue) → IdsRise t (course_tree env c command t)
ids_course env (refused e) command t = ids_refl t
ids_course env (on how cs) command t = ids_each env how command cs t
ids_course env whole command t =
    let new : TreeValue = whole_tree env command t in
    ids_unless (whole_refusal env command t) t (settled new) (ids_trans t new (settled new) (ids_whole env command t) (ids_settled new))

ids_commands : (env : Env) (found : Targets) (cs : List Command) (o : Outcome) → IdsRise o.tree (commands_done env found cs o).tree
ids_commands env found [] o = ids_refl o.tree
ids_commands env found (c ∷ cs) o =
    ids_trans o.tree (command_done env found c o).tree (commands_done env found (c ∷ cs) o).tree (ids_course env (course env found c o.tree) c o.tree) (ids_commands env found cs (command_done env found c o))

ids_groups : (env : Env) (subject : Option ConId) (gs : List Group) (o : Outcome) → IdsRise o.tree (groups_done env subject gs o).tree
ids_groups env subject [] o = ids_refl o.tree
ids_groups env subject (g ∷ gs) o =
    ids_trans o.tree (group_done env subject g o).tree (groups_done env subject (g ∷ gs) o).tree (ids_commands env (targets g.criteria subject o.tree) g.commands o) (ids_groups env subject gs (group_done env subject g o))

pub ids_outcome : (env : Env) (verdict : Verdict) (subject : Option ConId) (t : TreeValue) → IdsRise t (outcome env verdict subject t).tree
ids_outcome env verdict subject t = ids_groups env subject (groups_of verdict) (record { tree = t; replies = []; mode = None; exit = false; kills = [] })

-- a tree that a text leaves
pub ids_left : (env : Env) (verdict : Verdict) (subject : Option ConId) (t new : TreeValue) → new ≡ (outcome env verdict subject t).tree → IdsRise t new
ids_left env verdict subject t new e = subst (IdsRise t) (sym e) (ids_outcome env verdict subject t)
