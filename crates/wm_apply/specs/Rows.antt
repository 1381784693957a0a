-- What each command does to one subject, or to the tree as a whole, and why it is refused: a case for each command.
use Rattle.std.specs.Prelude.{if◌then◌else◌, Bool, true, false, Option, None, Some}
use Rattle.wm_base.specs.declared.errors.ErrorText.TheVariants as errors
use Rattle.wm_base.specs.declared.errors.Refusal.{Refusal}
use Rattle.wm_base.specs.declared.errors.Refusal.TheVariants.{NoTarget}
use Rattle.wm_base.specs.declared.ids.ConId.{ConId}
use Rattle.wm_language.specs.declared.command.Command.{Command}
use Rattle.wm_language.specs.declared.command.Command.TheVariants as commands
use Rattle.wm_floats.specs.Placing.{centre_refusal, centre_tree, place_at_refusal, place_at_tree}
use Rattle.wm_floats.specs.Scratchpad.{show_scratchpad_refusal, show_scratchpad_tree, to_scratchpad_refusal, to_scratchpad_tree}
use Rattle.wm_floats.specs.Windows.{window_refusal}
use Rattle.wm_focus.specs.Direction.{focus_dir_refusal, focus_dir_tree}
use Rattle.wm_focus.specs.Marks.{mark_refusal, mark_tree, unmark_refusal, unmark_tree}
use Rattle.wm_focus.specs.Moves.{move_dir_refusal, move_dir_tree}
use Rattle.wm_focus.specs.Parents.{focus_child_refusal, focus_child_tree, focus_parent_refusal, focus_parent_tree}
use Rattle.wm_focus.specs.Splits.{cycle_layout_refusal, cycle_layout_tree, set_layout_refusal, set_layout_tree, split_refusal, split_tree}
use Rattle.wm_focus.specs.Swaps.{move_to_mark_refusal, move_to_mark_tree, swap_refusal, swap_tree}
use Rattle.wm_apply.specs.FloatRows.{floating_refusal, floating_tree, focus_of_kind_refusal, focus_of_kind_tree, fullscreen_set, sticky_tree}
use Rattle.wm_apply.specs.Kills.{kill_refusal}
use Rattle.wm_apply.specs.Layouts.{append_refusal, append_tree, layout_named}
use Rattle.wm_apply.specs.OutputRows.{focus_output_refusal, focus_output_tree, move_space_refusal, move_space_tree, move_to_output_refusal, move_to_output_tree}
use Rattle.wm_layouts.specs.declared.plan.Env.{Env}
use Rattle.wm_sizes.specs.Borders.{cycle_border_refusal, cycle_border_tree, set_border_refusal, set_border_tree}
use Rattle.wm_sizes.specs.Floating.{resize_set_refusal, resize_set_tree}
use Rattle.wm_sizes.specs.Gaps.{set_gaps_refusal, set_gaps_tree}
use Rattle.wm_sizes.specs.Resizing.{resize_refusal, resize_tree}
use Rattle.wm_sizes.specs.Titles.{title_format_refusal, title_format_tree}
use Rattle.wm_spaces.specs.Sending.{send_to_refusal, send_to_tree}
use Rattle.wm_spaces.specs.Renaming.{rename_refusal, rename_tree}
use Rattle.wm_spaces.specs.Shows.{show_refusal, show_tree}
use Rattle.wm_tree.specs.TreeValue.{TreeValue}
use Rattle.wm_shared.specs.Showing.{focusing}
use Rattle.wm_shared.specs.Subject.{is_hidden}
use Rattle.wm_apply.specs.declared.rows.How.{How}
use Rattle.wm_apply.specs.declared.rows.How.TheVariants.{Matched, Handed, Focused}

-- a window of the scratchpad comes as `scratchpad show` brings it, any other subject is focused where it is
abbrev pub focus_tree : ConId → TreeValue → TreeValue
focus_tree c t = if is_hidden t c then show_scratchpad_tree (Some c) t else focusing c t

abbrev pub come_refusal : ConId → TreeValue → Option Refusal
come_refusal c t = if is_hidden t c then show_scratchpad_refusal (Some c) t else None

-- `focus` alone needs a subject: one that criteria match, or one that is handed in
abbrev pub focus_refusal : How → ConId → TreeValue → Option Refusal
focus_refusal Matched c t = come_refusal c t
focus_refusal Handed c t = come_refusal c t
focus_refusal Focused c t = Some (NoTarget errors.NoCriteria)

-- `unmark` and `scratchpad show` are for the subject where criteria stand, else for all containers, or for the window whose
-- turn it is
abbrev pub matched_subject : How → ConId → Option ConId
matched_subject Matched c = Some c
matched_subject Handed c = None
matched_subject Focused c = None

-- why a command that runs once, on the tree as a whole, is refused
abbrev pub whole_refusal : Env → Command → TreeValue → Option Refusal
whole_refusal env (commands.Workspace target) t = show_refusal target t
whole_refusal env (commands.Rename was name) t = rename_refusal was name t
whole_refusal env (commands.AppendLayout name) t = append_refusal (layout_named name env.layouts) t
whole_refusal env other t = None

-- the tree that such a command leaves, where it is not refused
abbrev pub whole_tree : Env → Command → TreeValue → TreeValue
whole_tree env (commands.Workspace target) t = show_tree target env.homes t
whole_tree env (commands.Rename was name) t = rename_tree was name t
whole_tree env (commands.AppendLayout name) t = append_tree (layout_named name env.layouts) t
whole_tree env other t = t

-- the commands of layouts, of focus and moves in the tree, and of marks
abbrev pub is_inner : Command → Bool
is_inner (commands.Split arg) = true
is_inner (commands.SetLayout arg) = true
is_inner (commands.CycleLayout cycle) = true
is_inner commands.Focus = true
is_inner (commands.FocusDir d) = true
is_inner commands.FocusParent = true
is_inner commands.FocusChild = true
is_inner (commands.MoveDir d px) = true
is_inner (commands.MoveToMark name) = true
is_inner (commands.Swap arg) = true
is_inner (commands.Mark add toggle name) = true
is_inner (commands.Unmark name) = true
is_inner other = false

-- the commands of outputs, workspaces, floating windows and the scratchpad
abbrev pub is_placing : Command → Bool
is_placing (commands.FocusOutput arg) = true
is_placing (commands.MoveToOutput arg) = true
is_placing (commands.MoveToWorkspace target) = true
is_placing (commands.MoveWorkspace arg) = true
is_placing (commands.FocusKind kind) = true
is_placing (commands.Floating arg) = true
is_placing (commands.Fullscreen arg) = true
is_placing (commands.Sticky arg) = true
is_placing (commands.MovePosition x y) = true
is_placing commands.MoveCenter = true
is_placing commands.MoveToScratchpad = true
is_placing commands.ScratchpadShow = true
is_placing other = false

-- why the command is refused on the subject c; one that has no subject refuses none
abbrev pub row_refusal : Env → How → Command → ConId → TreeValue → Option Refusal
row_refusal env how (commands.Split arg) c t = split_refusal c arg t
row_refusal env how (commands.SetLayout arg) c t = set_layout_refusal c arg t
row_refusal env how (commands.CycleLayout cycle) c t = cycle_layout_refusal c cycle t
row_refusal env how commands.Focus c t = focus_refusal how c t
row_refusal env how (commands.FocusDir d) c t = focus_dir_refusal c d t
row_refusal env how commands.FocusParent c t = focus_parent_refusal c t
row_refusal env how commands.FocusChild c t = focus_child_refusal c t
row_refusal env how (commands.MoveDir d px) c t = move_dir_refusal c d px t
row_refusal env how (commands.MoveToMark name) c t = move_to_mark_refusal c name t
row_refusal env how (commands.Swap arg) c t = swap_refusal c arg t
row_refusal env how (commands.Mark add toggle name) c t = mark_refusal c name add toggle t
row_refusal env how (commands.Unmark name) c t = unmark_refusal (matched_subject how c) name t
row_refusal env how (commands.FocusOutput arg) c t = focus_output_refusal c arg t
row_refusal env how (commands.MoveToOutput arg) c t = move_to_output_refusal c arg t
row_refusal env how (commands.MoveToWorkspace target) c t = send_to_refusal c target env.homes t
row_refusal env how (commands.MoveWorkspace arg) c t = move_space_refusal c arg t
row_refusal env how (commands.FocusKind kind) c t = focus_of_kind_refusal c kind t
row_refusal env how (commands.Floating arg) c t = floating_refusal c arg t
row_refusal env how (commands.Fullscreen arg) c t = window_refusal c t
row_refusal env how (commands.Sticky arg) c t = window_refusal c t
row_refusal env how (commands.MovePosition x y) c t = place_at_refusal c x y t
row_refusal env how commands.MoveCenter c t = centre_refusal c t
row_refusal env how commands.MoveToScratchpad c t = to_scratchpad_refusal c t
row_refusal env how commands.ScratchpadShow c t = show_scratchpad_refusal (matched_subject how c) t
row_refusal env how (commands.Resize grow side px ppt) c t = resize_refusal c grow side px ppt t
row_refusal env how (commands.ResizeSet w h) c t = resize_set_refusal c w h t
row_refusal env how (commands.SetBorder border) c t = set_border_refusal c border t
row_refusal env how commands.CycleBorder c t = cycle_border_refusal c t
row_refusal env how (commands.Gaps outer all op px) c t = set_gaps_refusal c t
row_refusal env how (commands.TitleFormat format) c t = title_format_refusal c t
row_refusal env how commands.Kill c t = kill_refusal c t
row_refusal env how (commands.Workspace target) c t = None
row_refusal env how (commands.Rename was name) c t = None
row_refusal env how (commands.AppendLayout name) c t = None
row_refusal env how (commands.Mode mode) c t = None
row_refusal env how commands.Nop c t = None
row_refusal env how commands.Idle c t = None
row_refusal env how commands.Exit c t = None

-- the tree that the command leaves, where it is not refused on the subject c; one that has no subject leaves it
abbrev pub row_tree : Env → How → Command → ConId → TreeValue → TreeValue
row_tree env how (commands.Split arg) c t = split_tree c arg t
row_tree env how (commands.SetLayout arg) c t = set_layout_tree c arg t
row_tree env how (commands.CycleLayout cycle) c t = cycle_layout_tree c cycle t
row_tree env how commands.Focus c t = focus_tree c t
row_tree env how (commands.FocusDir d) c t = focus_dir_tree c d t
row_tree env how commands.FocusParent c t = focus_parent_tree c t
row_tree env how commands.FocusChild c t = focus_child_tree c t
row_tree env how (commands.MoveDir d px) c t = move_dir_tree c d px t
row_tree env how (commands.MoveToMark name) c t = move_to_mark_tree c name t
row_tree env how (commands.Swap arg) c t = swap_tree c arg t
row_tree env how (commands.Mark add toggle name) c t = mark_tree c name add toggle t
row_tree env how (commands.Unmark name) c t = unmark_tree (matched_subject how c) name t
row_tree env how (commands.FocusOutput arg) c t = focus_output_tree c arg t
row_tree env how (commands.MoveToOutput arg) c t = move_to_output_tree c arg t
row_tree env how (commands.MoveToWorkspace target) c t = send_to_tree c target env.homes t
row_tree env how (commands.MoveWorkspace arg) c t = move_space_tree c arg t
row_tree env how (commands.FocusKind kind) c t = focus_of_kind_tree c kind t
row_tree env how (commands.Floating arg) c t = floating_tree c arg t
row_tree env how (commands.Fullscreen arg) c t = fullscreen_set c arg t
row_tree env how (commands.Sticky arg) c t = sticky_tree c arg t
row_tree env how (commands.MovePosition x y) c t = place_at_tree c x y t
row_tree env how commands.MoveCenter c t = centre_tree c t
row_tree env how commands.MoveToScratchpad c t = to_scratchpad_tree c t
row_tree env how commands.ScratchpadShow c t = show_scratchpad_tree (matched_subject how c) t
row_tree env how (commands.Resize grow side px ppt) c t = resize_tree c grow side px ppt t
row_tree env how (commands.ResizeSet w h) c t = resize_set_tree c w h t
row_tree env how (commands.SetBorder border) c t = set_border_tree c border t
row_tree env how commands.CycleBorder c t = cycle_border_tree c t
row_tree env how (commands.Gaps outer all op px) c t = set_gaps_tree c outer all op px t
row_tree env how (commands.TitleFormat format) c t = title_format_tree c format t
row_tree env how commands.Kill c t = t
row_tree env how (commands.Workspace target) c t = t
row_tree env how (commands.Rename was name) c t = t
row_tree env how (commands.AppendLayout name) c t = t
row_tree env how (commands.Mode mode) c t = t
row_tree env how commands.Nop c t = t
row_tree env how commands.Idle c t = t
row_tree env how commands.Exit c t = t
