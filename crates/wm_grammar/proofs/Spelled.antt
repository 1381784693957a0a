-- Each printed command is read again, whatever stands behind its end.
use Rattle.std.proofs.Common.{◌≡◌, ℕ, ◌<◌, ◌^◌, Bool, true, false, List, [], ◌∷◌, ◌++◌, length, Option, Some, None, refl, sym, ap, ◌∙◌, append_assoc, arith, codes, decimal}
use Rattle.std.specs.Prelude.{if◌then◌else◌, option_map, nat_le}
use Rattle.std.specs.Str.{is_utf8}
use Rattle.std.proofs.lemmas.Bool.{le-leb}
use Rattle.wm_base.specs.declared.geometry.Dir.{Dir}
use Rattle.wm_base.specs.declared.geometry.Dir.TheVariants as dirs
use Rattle.wm_base.specs.declared.plan.Border.{Border}
use Rattle.wm_base.specs.declared.plan.Border.TheVariants as borders
use Rattle.wm_language.specs.declared.arguments.SplitArg.{SplitArg}
use Rattle.wm_language.specs.declared.arguments.SplitArg.TheVariants as splits
use Rattle.wm_language.specs.declared.arguments.LayoutArg.{LayoutArg}
use Rattle.wm_language.specs.declared.arguments.LayoutArg.TheVariants as layouts
use Rattle.wm_language.specs.declared.arguments.Cycle.{Cycle}
use Rattle.wm_language.specs.declared.arguments.Cycle.TheVariants as cycles
use Rattle.wm_language.specs.declared.arguments.Kind.{Kind}
use Rattle.wm_language.specs.declared.arguments.Kind.TheVariants as kinds
use Rattle.wm_language.specs.declared.arguments.OnOff.{OnOff}
use Rattle.wm_language.specs.declared.arguments.OnOff.TheVariants as switches
use Rattle.wm_language.specs.declared.arguments.OutArg.{OutArg}
use Rattle.wm_language.specs.declared.arguments.SwapArg.TheVariants as swaps
use Rattle.wm_language.specs.declared.arguments.Side.{Side}
use Rattle.wm_language.specs.declared.arguments.Side.TheVariants as sides
use Rattle.wm_language.specs.declared.arguments.GapOp.{GapOp}
use Rattle.wm_language.specs.declared.arguments.GapOp.TheVariants as ops
use Rattle.wm_language.specs.declared.command.Command.TheVariants as commands
use Rattle.wm_words.specs.declared.verbs.Verb.TheVariants as verbs
use Rattle.wm_grammar.specs.declared.opening.Opening.TheVariants as openings
use Rattle.wm_words.specs.Pieces.{◌>>=◌, first_of, is_nil, is_blank, is_end, until, from, has, skip, ends, word, after, is_word, says, choice, single, only, only_number, argument}
use Rattle.wm_words.specs.Forms.{sent_words, target_words, verb_of, plain_form, split_form, layout_form, whole, only_output, output_of, focus_word, focus_form, past_px, past_to, move_by, position_form, move_to_form, past_one_to, move_workspace_form, move_form, past_with, swap_form, hundredths, amounts, resize_by, resize_set, resize_form, fullscreen_form, width_form, border_form, gaps_form, kill_form, scratchpad_form}
use Rattle.wm_grammar.specs.Openings.{opened, targets_opened, focus_opened, move_to_opened, move_opened, swap_opened, toggle_opened, mark_opened, rename_opened, finished, text_at, made, command_at}
use Rattle.wm_language.specs.Spelling.{spelled, move_text, resize_text, gaps_text}
use Rattle.wm_language.specs.Words.{IsArgument}
use Rattle.wm_grammar.specs.Readable.{IsNumber, IsBorder}
use Rattle.wm_words.proofs.NumbersAgain.{number_word, number_after, number_some, natural_decimal, only_number_decimal, number_has, no_end, no_blank, number_clean, number_digits}
use Rattle.wm_grammar.proofs.Again.{command_plain, IsOpening}

-- ---- arguments

pub argument_again : (x : List ℕ) → IsArgument x → argument x ≡ Some x
unfolding argument
argument_again x a = let t : nat_le (length x) 1024 ≡ true = le-leb (length x) 1024 a.short in let u : is_utf8 x ≡ true = a.utf8 in rw (u, t) refl

-- ---- keywords alone

pub split_again : (a : SplitArg) (e : List ℕ) → ends e ≡ true → command_at (spelled (commands.Split a) ++ e) ≡ Some (commands.Split a, e)
unfolding verb_of until from has skip is_word single plain_form split_form layout_form only_output focus_word focus_form past_px past_to move_by position_form move_to_form past_one_to move_workspace_form move_form past_with swap_form hundredths amounts resize_by resize_set resize_form fullscreen_form width_form border_form gaps_form kill_form scratchpad_form spelled
split_again splits.H e end = command_plain (codes "split h") e verbs.Split (commands.Split splits.H) refl end refl refl
split_again splits.V e end = command_plain (codes "split v") e verbs.Split (commands.Split splits.V) refl end refl refl
split_again splits.Toggle e end = command_plain (codes "split toggle") e verbs.Split (commands.Split splits.Toggle) refl end refl refl

pub layout_again : (a : LayoutArg) (e : List ℕ) → ends e ≡ true → command_at (spelled (commands.SetLayout a) ++ e) ≡ Some (commands.SetLayout a, e)
unfolding verb_of until from has skip is_word single plain_form split_form layout_form only_output focus_word focus_form past_px past_to move_by position_form move_to_form past_one_to move_workspace_form move_form past_with swap_form hundredths amounts resize_by resize_set resize_form fullscreen_form width_form border_form gaps_form kill_form scratchpad_form spelled
layout_again layouts.Default e end = command_plain (codes "layout default") e verbs.Layout (commands.SetLayout layouts.Default) refl end refl refl
layout_again layouts.SplitH e end = command_plain (codes "layout splith") e verbs.Layout (commands.SetLayout layouts.SplitH) refl end refl refl
layout_again layouts.SplitV e end = command_plain (codes "layout splitv") e verbs.Layout (commands.SetLayout layouts.SplitV) refl end refl refl
layout_again layouts.Tabbed e end = command_plain (codes "layout tabbed") e verbs.Layout (commands.SetLayout layouts.Tabbed) refl end refl refl
layout_again layouts.Stacked e end = command_plain (codes "layout stacked") e verbs.Layout (commands.SetLayout layouts.Stacked) refl end refl refl

pub cycle_again : (a : Cycle) (e : List ℕ) → ends e ≡ true → command_at (spelled (commands.CycleLayout a) ++ e) ≡ Some (commands.CycleLayout a, e)
unfolding verb_of until from has skip is_word single plain_form split_form layout_form only_output focus_word focus_form past_px past_to move_by position_form move_to_form past_one_to move_workspace_form move_form past_with swap_form hundredths amounts resize_by resize_set resize_form fullscreen_form width_form border_form gaps_form kill_form scratchpad_form spelled
cycle_again cycles.Bare e end = command_plain (codes "layout toggle") e verbs.Layout (commands.CycleLayout cycles.Bare) refl end refl refl
cycle_again cycles.Split e end = command_plain (codes "layout toggle split") e verbs.Layout (commands.CycleLayout cycles.Split) refl end refl refl
cycle_again cycles.All e end = command_plain (codes "layout toggle all") e verbs.Layout (commands.CycleLayout cycles.All) refl end refl refl

pub kind_again : (a : Kind) (e : List ℕ) → ends e ≡ true → command_at (spelled (commands.FocusKind a) ++ e) ≡ Some (commands.FocusKind a, e)
unfolding verb_of until from has skip is_word single plain_form split_form layout_form only_output focus_word focus_form past_px past_to move_by position_form move_to_form past_one_to move_workspace_form move_form past_with swap_form hundredths amounts resize_by resize_set resize_form fullscreen_form width_form border_form gaps_form kill_form scratchpad_form spelled
kind_again kinds.Floating e end = command_plain (codes "focus floating") e verbs.Focus (commands.FocusKind kinds.Floating) refl end refl refl
kind_again kinds.Tiling e end = command_plain (codes "focus tiling") e verbs.Focus (commands.FocusKind kinds.Tiling) refl end refl refl
kind_again kinds.Toggle e end = command_plain (codes "focus mode_toggle") e verbs.Focus (commands.FocusKind kinds.Toggle) refl end refl refl

pub focus_dir_again : (a : Dir) (e : List ℕ) → ends e ≡ true → command_at (spelled (commands.FocusDir a) ++ e) ≡ Some (commands.FocusDir a, e)
unfolding verb_of until from has skip is_word single plain_form split_form layout_form only_output focus_word focus_form past_px past_to move_by position_form move_to_form past_one_to move_workspace_form move_form past_with swap_form hundredths amounts resize_by resize_set resize_form fullscreen_form width_form border_form gaps_form kill_form scratchpad_form spelled
focus_dir_again dirs.Left e end = command_plain (codes "focus left") e verbs.Focus (commands.FocusDir dirs.Left) refl end refl refl
focus_dir_again dirs.Right e end = command_plain (codes "focus right") e verbs.Focus (commands.FocusDir dirs.Right) refl end refl refl
focus_dir_again dirs.Up e end = command_plain (codes "focus up") e verbs.Focus (commands.FocusDir dirs.Up) refl end refl refl
focus_dir_again dirs.Down e end = command_plain (codes "focus down") e verbs.Focus (commands.FocusDir dirs.Down) refl end refl refl

pub floating_again : (a : OnOff) (e : List ℕ) → ends e ≡ true → command_at (spelled (commands.Floating a) ++ e) ≡ Some (commands.Floating a, e)
unfolding verb_of until from has skip is_word single plain_form split_form layout_form only_output focus_word focus_form past_px past_to move_by position_form move_to_form past_one_to move_workspace_form move_form past_with swap_form hundredths amounts resize_by resize_set resize_form fullscreen_form width_form border_form gaps_form kill_form scratchpad_form spelled
floating_again switches.Enable e end = command_plain (codes "floating enable") e verbs.Floating (commands.Floating switches.Enable) refl end refl refl
floating_again switches.Disable e end = command_plain (codes "floating disable") e verbs.Floating (commands.Floating switches.Disable) refl end refl refl
floating_again switches.Toggle e end = command_plain (codes "floating toggle") e verbs.Floating (commands.Floating switches.Toggle) refl end refl refl

pub fullscreen_again : (a : OnOff) (e : List ℕ) → ends e ≡ true → command_at (spelled (commands.Fullscreen a) ++ e) ≡ Some (commands.Fullscreen a, e)
unfolding verb_of until from has skip is_word single plain_form split_form layout_form only_output focus_word focus_form past_px past_to move_by position_form move_to_form past_one_to move_workspace_form move_form past_with swap_form hundredths amounts resize_by resize_set resize_form fullscreen_form width_form border_form gaps_form kill_form scratchpad_form spelled
fullscreen_again switches.Enable e end = command_plain (codes "fullscreen enable") e verbs.Fullscreen (commands.Fullscreen switches.Enable) refl end refl refl
fullscreen_again switches.Disable e end = command_plain (codes "fullscreen disable") e verbs.Fullscreen (commands.Fullscreen switches.Disable) refl end refl refl
fullscreen_again switches.Toggle e end = command_plain (codes "fullscreen toggle") e verbs.Fullscreen (commands.Fullscreen switches.Toggle) refl end refl refl

pub sticky_again : (a : OnOff) (e : List ℕ) → ends e ≡ true → command_at (spelled (commands.Sticky a) ++ e) ≡ Some (commands.Sticky a, e)
unfolding verb_of until from has skip is_word single plain_form split_form layout_form only_output focus_word focus_form past_px past_to move_by position_form move_to_form past_one_to move_workspace_form move_form past_with swap_form hundredths amounts resize_by resize_set resize_form fullscreen_form width_form border_form gaps_form kill_form scratchpad_form spelled
sticky_again switches.Enable e end = command_plain (codes "sticky enable") e verbs.Sticky (commands.Sticky switches.Enable) refl end refl refl
sticky_again switches.Disable e end = command_plain (codes "sticky disable") e verbs.Sticky (commands.Sticky switches.Disable) refl end refl refl
sticky_again switches.Toggle e end = command_plain (codes "sticky toggle") e verbs.Sticky (commands.Sticky switches.Toggle) refl end refl refl

-- ---- quoted texts

pub only_quoted : {A : Type 0} (table : List (List ℕ × A)) (r : List ℕ) → choice table (word (34 ∷ r)) ≡ None → only table (34 ∷ r) ≡ None
unfolding single
only_quoted table r h = by (is_nil (after (34 ∷ r)))
  where
    by : (b : Bool) → ((if b then Some (word (34 ∷ r)) else None) >>= λ w. choice table w) ≡ None
    by true = h
    by false = refl

pub only_output_quoted : (r : List ℕ) → only_output (34 ∷ r) ≡ None
unfolding only_output single until is_word
only_output_quoted r = by (is_nil (after (34 ∷ r)))
  where
    by : (b : Bool) → ((if b then Some (34 ∷ until is_blank r) else None) >>= λ w. output_of w) ≡ None
    by true = refl
    by false = refl

pub no_target : (r : List ℕ) → choice target_words (word (34 ∷ r)) ≡ None
unfolding until is_word
no_target r = refl

pub no_sent : (r : List ℕ) → choice sent_words (word (34 ∷ r)) ≡ None
unfolding until is_word
no_sent r = refl

pub focus_output_opening : IsOpening (codes "focus output ") verbs.Focus (openings.FocusOutput)
unfolding verb_of until from has skip is_word plain_form split_form layout_form focus_word focus_form past_px past_to move_by position_form move_to_form past_one_to move_workspace_form move_form past_with swap_form hundredths amounts resize_by resize_set resize_form fullscreen_form width_form border_form gaps_form kill_form scratchpad_form spelled opened targets_opened focus_opened move_to_opened move_opened swap_opened toggle_opened mark_opened rename_opened finished text_at made
focus_output_opening = record { clean = refl; verb = λ r. refl; plain = λ r. ap (option_map commands.FocusOutput) (only_output_quoted r); others = λ r. []; ways = λ r. refl; text = λ s. refl }

pub to_workspace_opening : IsOpening (codes "move container to workspace ") verbs.Move (openings.MoveToWorkspace)
unfolding verb_of until from has skip is_word plain_form split_form layout_form focus_word focus_form past_px past_to move_by position_form move_to_form past_one_to move_workspace_form move_form past_with swap_form hundredths amounts resize_by resize_set resize_form fullscreen_form width_form border_form gaps_form kill_form scratchpad_form spelled opened targets_opened focus_opened move_to_opened move_opened swap_opened toggle_opened mark_opened rename_opened finished text_at made
to_workspace_opening = record { clean = refl; verb = λ r. refl; plain = λ r. ap (option_map commands.MoveToWorkspace) (only_quoted sent_words r (no_sent r)); others = λ r. []; ways = λ r. refl; text = λ s. refl }

pub to_numbered_opening : IsOpening (codes "move container to workspace number ") verbs.Move (openings.MoveToNumbered)
unfolding verb_of until from has skip is_word single plain_form split_form layout_form only_output focus_word focus_form past_px past_to move_by position_form move_to_form past_one_to move_workspace_form move_form past_with swap_form hundredths amounts resize_by resize_set resize_form fullscreen_form width_form border_form gaps_form kill_form scratchpad_form spelled opened targets_opened focus_opened move_to_opened move_opened swap_opened toggle_opened mark_opened rename_opened finished text_at made
to_numbered_opening = record { clean = refl; verb = λ r. refl; plain = λ r. refl; others = λ r. (openings.MoveToWorkspace, codes "number " ++ 34 ∷ r) ∷ []; ways = λ r. refl; text = λ s. refl }

pub to_output_opening : IsOpening (codes "move container to output ") verbs.Move (openings.MoveToOutput)
unfolding verb_of until from has skip is_word plain_form split_form layout_form focus_word focus_form past_px past_to move_by position_form move_to_form past_one_to move_workspace_form move_form past_with swap_form hundredths amounts resize_by resize_set resize_form fullscreen_form width_form border_form gaps_form kill_form scratchpad_form spelled opened targets_opened focus_opened move_to_opened move_opened swap_opened toggle_opened mark_opened rename_opened finished text_at made
to_output_opening = record { clean = refl; verb = λ r. refl; plain = λ r. ap (option_map commands.MoveToOutput) (only_output_quoted r); others = λ r. []; ways = λ r. refl; text = λ s. refl }

pub workspace_to_opening : IsOpening (codes "move workspace to output ") verbs.Move (openings.MoveWorkspace)
unfolding verb_of until from has skip is_word single plain_form split_form layout_form focus_word focus_form past_px past_to move_by position_form move_to_form past_one_to move_workspace_form move_form past_with swap_form hundredths amounts resize_by resize_set resize_form fullscreen_form width_form border_form gaps_form kill_form scratchpad_form spelled opened targets_opened focus_opened move_to_opened move_opened swap_opened toggle_opened mark_opened rename_opened finished text_at made
workspace_to_opening = record { clean = refl; verb = λ r. refl; plain = λ r. ap (λ (o : Option OutArg). first_of (option_map commands.MoveWorkspace o) None) (only_output_quoted r); others = λ r. (openings.MoveToWorkspace, codes "to output " ++ 34 ∷ r) ∷ []; ways = λ r. refl; text = λ s. refl }

pub to_mark_opening : IsOpening (codes "move container to mark ") verbs.Move (openings.MoveToMark)
unfolding verb_of until from has skip is_word single plain_form split_form layout_form only_output focus_word focus_form past_px past_to move_by position_form move_to_form past_one_to move_workspace_form move_form past_with swap_form hundredths amounts resize_by resize_set resize_form fullscreen_form width_form border_form gaps_form kill_form scratchpad_form spelled opened targets_opened focus_opened move_to_opened move_opened swap_opened toggle_opened mark_opened rename_opened finished text_at made
to_mark_opening = record { clean = refl; verb = λ r. refl; plain = λ r. refl; others = λ r. []; ways = λ r. refl; text = λ s. refl }

pub swap_opening : IsOpening (codes "swap container with mark ") verbs.Swap (openings.SwapMark)
unfolding verb_of until from has skip is_word single plain_form split_form layout_form only_output focus_word focus_form past_px past_to move_by position_form move_to_form past_one_to move_workspace_form move_form past_with swap_form hundredths amounts resize_by resize_set resize_form fullscreen_form width_form border_form gaps_form kill_form scratchpad_form spelled opened targets_opened focus_opened move_to_opened move_opened swap_opened toggle_opened mark_opened rename_opened finished text_at made
swap_opening = record { clean = refl; verb = λ r. refl; plain = λ r. refl; others = λ r. []; ways = λ r. refl; text = λ s. refl }

pub mark_both_opening : IsOpening (codes "mark --add --toggle ") verbs.Mark (openings.Mark true true)
unfolding verb_of until from has skip is_word single plain_form split_form layout_form only_output focus_word focus_form past_px past_to move_by position_form move_to_form past_one_to move_workspace_form move_form past_with swap_form hundredths amounts resize_by resize_set resize_form fullscreen_form width_form border_form gaps_form kill_form scratchpad_form spelled opened targets_opened focus_opened move_to_opened move_opened swap_opened toggle_opened mark_opened rename_opened finished text_at made
mark_both_opening = record { clean = refl; verb = λ r. refl; plain = λ r. refl; others = λ r. (openings.Mark true false, codes "--toggle " ++ 34 ∷ r) ∷ (openings.Mark false false, codes "--add --toggle " ++ 34 ∷ r) ∷ []; ways = λ r. refl; text = λ s. refl }

pub mark_add_opening : IsOpening (codes "mark --add ") verbs.Mark (openings.Mark true false)
unfolding verb_of until from has skip is_word single plain_form split_form layout_form only_output focus_word focus_form past_px past_to move_by position_form move_to_form past_one_to move_workspace_form move_form past_with swap_form hundredths amounts resize_by resize_set resize_form fullscreen_form width_form border_form gaps_form kill_form scratchpad_form spelled opened targets_opened focus_opened move_to_opened move_opened swap_opened toggle_opened mark_opened rename_opened finished text_at made
mark_add_opening = record { clean = refl; verb = λ r. refl; plain = λ r. refl; others = λ r. (openings.Mark false false, codes "--add " ++ 34 ∷ r) ∷ []; ways = λ r. refl; text = λ s. refl }

pub mark_toggle_opening : IsOpening (codes "mark --toggle ") verbs.Mark (openings.Mark false true)
unfolding verb_of until from has skip is_word single plain_form split_form layout_form only_output focus_word focus_form past_px past_to move_by position_form move_to_form past_one_to move_workspace_form move_form past_with swap_form hundredths amounts resize_by resize_set resize_form fullscreen_form width_form border_form gaps_form kill_form scratchpad_form spelled opened targets_opened focus_opened move_to_opened move_opened swap_opened toggle_opened mark_opened rename_opened finished text_at made
mark_toggle_opening = record { clean = refl; verb = λ r. refl; plain = λ r. refl; others = λ r. (openings.Mark false false, codes "--toggle " ++ 34 ∷ r) ∷ []; ways = λ r. refl; text = λ s. refl }

pub mark_opening : IsOpening (codes "mark ") verbs.Mark (openings.Mark false false)
unfolding verb_of until from has skip is_word single plain_form split_form layout_form only_output focus_word focus_form past_px past_to move_by position_form move_to_form past_one_to move_workspace_form move_form past_with swap_form hundredths amounts resize_by resize_set resize_form fullscreen_form width_form border_form gaps_form kill_form scratchpad_form spelled opened targets_opened focus_opened move_to_opened move_opened swap_opened toggle_opened mark_opened rename_opened finished text_at made
mark_opening = record { clean = refl; verb = λ r. refl; plain = λ r. refl; others = λ r. []; ways = λ r. refl; text = λ s. refl }

pub unmark_opening : IsOpening (codes "unmark ") verbs.Unmark (openings.Unmark)
unfolding verb_of until from has skip is_word single plain_form split_form layout_form only_output focus_word focus_form past_px past_to move_by position_form move_to_form past_one_to move_workspace_form move_form past_with swap_form hundredths amounts resize_by resize_set resize_form fullscreen_form width_form border_form gaps_form kill_form scratchpad_form spelled opened targets_opened focus_opened move_to_opened move_opened swap_opened toggle_opened mark_opened rename_opened finished text_at made
unmark_opening = record { clean = refl; verb = λ r. refl; plain = λ r. refl; others = λ r. []; ways = λ r. refl; text = λ s. refl }

pub workspace_opening : IsOpening (codes "workspace ") verbs.Workspace (openings.Workspace)
unfolding verb_of until from has skip is_word plain_form split_form layout_form focus_word focus_form past_px past_to move_by position_form move_to_form past_one_to move_workspace_form move_form past_with swap_form hundredths amounts resize_by resize_set resize_form fullscreen_form width_form border_form gaps_form kill_form scratchpad_form spelled opened targets_opened focus_opened move_to_opened move_opened swap_opened toggle_opened mark_opened rename_opened finished text_at made
workspace_opening = record { clean = refl; verb = λ r. refl; plain = λ r. ap (option_map commands.Workspace) (only_quoted target_words r (no_target r)); others = λ r. []; ways = λ r. refl; text = λ s. refl }

pub numbered_opening : IsOpening (codes "workspace number ") verbs.Workspace (openings.WorkspaceNumbered)
unfolding verb_of until from has skip is_word single plain_form split_form layout_form only_output focus_word focus_form past_px past_to move_by position_form move_to_form past_one_to move_workspace_form move_form past_with swap_form hundredths amounts resize_by resize_set resize_form fullscreen_form width_form border_form gaps_form kill_form scratchpad_form spelled opened targets_opened focus_opened move_to_opened move_opened swap_opened toggle_opened mark_opened rename_opened finished text_at made
numbered_opening = record { clean = refl; verb = λ r. refl; plain = λ r. refl; others = λ r. (openings.Workspace, codes "number " ++ 34 ∷ r) ∷ []; ways = λ r. refl; text = λ s. refl }

pub rename_opening : IsOpening (codes "rename workspace to ") verbs.Rename (openings.RenameFocused)
unfolding verb_of until from has skip is_word single plain_form split_form layout_form only_output focus_word focus_form past_px past_to move_by position_form move_to_form past_one_to move_workspace_form move_form past_with swap_form hundredths amounts resize_by resize_set resize_form fullscreen_form width_form border_form gaps_form kill_form scratchpad_form spelled opened targets_opened focus_opened move_to_opened move_opened swap_opened toggle_opened mark_opened rename_opened finished text_at made
rename_opening = record { clean = refl; verb = λ r. refl; plain = λ r. refl; others = λ r. (openings.RenameNamed, codes "to " ++ 34 ∷ r) ∷ []; ways = λ r. refl; text = λ s. refl }

pub mode_opening : IsOpening (codes "mode ") verbs.Mode (openings.Mode)
unfolding verb_of until from has skip is_word single plain_form split_form layout_form only_output focus_word focus_form past_px past_to move_by position_form move_to_form past_one_to move_workspace_form move_form past_with swap_form hundredths amounts resize_by resize_set resize_form fullscreen_form width_form border_form gaps_form kill_form scratchpad_form spelled opened targets_opened focus_opened move_to_opened move_opened swap_opened toggle_opened mark_opened rename_opened finished text_at made
mode_opening = record { clean = refl; verb = λ r. refl; plain = λ r. refl; others = λ r. []; ways = λ r. refl; text = λ s. refl }

pub append_opening : IsOpening (codes "append_layout ") verbs.AppendLayout (openings.AppendLayout)
unfolding verb_of until from has skip is_word single plain_form split_form layout_form only_output focus_word focus_form past_px past_to move_by position_form move_to_form past_one_to move_workspace_form move_form past_with swap_form hundredths amounts resize_by resize_set resize_form fullscreen_form width_form border_form gaps_form kill_form scratchpad_form spelled opened targets_opened focus_opened move_to_opened move_opened swap_opened toggle_opened mark_opened rename_opened finished text_at made
append_opening = record { clean = refl; verb = λ r. refl; plain = λ r. refl; others = λ r. []; ways = λ r. refl; text = λ s. refl }

pub title_opening : IsOpening (codes "title_format ") verbs.TitleFormat (openings.TitleFormat)
unfolding verb_of until from has skip is_word single plain_form split_form layout_form only_output focus_word focus_form past_px past_to move_by position_form move_to_form past_one_to move_workspace_form move_form past_with swap_form hundredths amounts resize_by resize_set resize_form fullscreen_form width_form border_form gaps_form kill_form scratchpad_form spelled opened targets_opened focus_opened move_to_opened move_opened swap_opened toggle_opened mark_opened rename_opened finished text_at made
title_opening = record { clean = refl; verb = λ r. refl; plain = λ r. refl; others = λ r. []; ways = λ r. refl; text = λ s. refl }

-- ---- numbers

pub is_long : (n : ℕ) → IsNumber n → n < 2 ^ 64
is_long n lt = omega arith

pub no_nil : (n : ℕ) → IsNumber n → is_nil (decimal n) ≡ false
no_nil n lt = ap is_nil (number_digits n (is_long n lt)).parts

pub skip_first : (c : ℕ) (r : List ℕ) → is_blank c ≡ false → skip (c ∷ r) ≡ c ∷ r
unfolding skip
skip_first c r h = rw h refl

pub skip_number : (n : ℕ) (t : List ℕ) → IsNumber n → skip (decimal n ++ t) ≡ decimal n ++ t
skip_number n t lt =
    let d = number_digits n (is_long n lt) in
    let clear : is_blank d.first ≡ false = no_blank d.first d.low d.high in
    rw d.parts (skip_first d.first (d.others ++ t) clear)

pub skip_alone : (n : ℕ) → IsNumber n → skip (decimal n) ≡ decimal n
skip_alone n lt =
    let d = number_digits n (is_long n lt) in
    let clear : is_blank d.first ≡ false = no_blank d.first d.low d.high in
    rw d.parts (skip_first d.first d.others clear)

pub only_skipped : (n : ℕ) → IsNumber n → only_number (skip (decimal n)) ≡ Some n
only_skipped n lt = ap (λ (u : List ℕ). only_number u) (skip_alone n lt) ∙ only_number_decimal n lt

pub width_alone : (n : ℕ) → IsNumber n → width_form (decimal n) ≡ Some n
unfolding width_form
width_alone n lt = rw (no_nil n lt) (only_number_decimal n lt)

pub width_number : (n : ℕ) → IsNumber n → width_form (skip (decimal n)) ≡ Some n
width_number n lt = ap (λ (u : List ℕ). width_form u) (skip_alone n lt) ∙ width_alone n lt

pub border_again : (b : Border) (e : List ℕ) → IsBorder b → ends e ≡ true → command_at (spelled (commands.SetBorder b) ++ e) ≡ Some (commands.SetBorder b, e)
unfolding verb_of until from has skip is_word plain_form border_form spelled
border_again (borders.Normal n) e lt end = command_plain (codes "border normal " ++ decimal n) e verbs.Border (commands.SetBorder (borders.Normal n)) (number_clean is_end no_end n (is_long n lt)) end refl (ap (option_map (λ (k : ℕ). commands.SetBorder (borders.Normal k))) (width_number n lt))
border_again (borders.Pixel n) e lt end = command_plain (codes "border pixel " ++ decimal n) e verbs.Border (commands.SetBorder (borders.Pixel n)) (number_clean is_end no_end n (is_long n lt)) end refl (ap (option_map (λ (k : ℕ). commands.SetBorder (borders.Pixel k))) (width_number n lt))
border_again borders.Bare e lt end = command_plain (codes "border none") e verbs.Border (commands.SetBorder borders.Bare) refl end refl refl

pub con_again : (n : ℕ) (e : List ℕ) → IsNumber n → ends e ≡ true → command_at ((codes "swap container with con_id " ++ decimal n) ++ e) ≡ Some (commands.Swap (swaps.Con n), e)
unfolding verb_of until from has skip is_word plain_form swap_form past_with
con_again n e lt end = command_plain (codes "swap container with con_id " ++ decimal n) e verbs.Swap (commands.Swap (swaps.Con n)) (number_clean is_end no_end n (is_long n lt)) end refl (ap (option_map (λ (k : ℕ). commands.Swap (swaps.Con k))) (only_skipped n lt))

pub window_again : (n : ℕ) (e : List ℕ) → IsNumber n → ends e ≡ true → command_at ((codes "swap container with id " ++ decimal n) ++ e) ≡ Some (commands.Swap (swaps.Window n), e)
unfolding verb_of until from has skip is_word plain_form swap_form past_with
window_again n e lt end = command_plain (codes "swap container with id " ++ decimal n) e verbs.Swap (commands.Swap (swaps.Window n)) (number_clean is_end no_end n (is_long n lt)) end refl (ap (option_map (λ (k : ℕ). commands.Swap (swaps.Window k))) (only_skipped n lt))

pub gaps_again : (outer all : Bool) (op : GapOp) (n : ℕ) (e : List ℕ) → IsNumber n → ends e ≡ true → command_at (gaps_text outer all op n ++ e) ≡ Some (commands.Gaps outer all op n, e)
unfolding verb_of until from has skip is_word plain_form gaps_form gaps_text
gaps_again true true ops.Set n e lt end = command_plain (gaps_text true true ops.Set n) e verbs.Gaps (commands.Gaps true true ops.Set n) (number_clean is_end no_end n (is_long n lt)) end refl (ap (option_map (λ (k : ℕ). commands.Gaps true true ops.Set k)) (only_skipped n lt))
gaps_again true true ops.Plus n e lt end = command_plain (gaps_text true true ops.Plus n) e verbs.Gaps (commands.Gaps true true ops.Plus n) (number_clean is_end no_end n (is_long n lt)) end refl (ap (option_map (λ (k : ℕ). commands.Gaps true true ops.Plus k)) (only_skipped n lt))
gaps_again true true ops.Minus n e lt end = command_plain (gaps_text true true ops.Minus n) e verbs.Gaps (commands.Gaps true true ops.Minus n) (number_clean is_end no_end n (is_long n lt)) end refl (ap (option_map (λ (k : ℕ). commands.Gaps true true ops.Minus k)) (only_skipped n lt))
gaps_again true false ops.Set n e lt end = command_plain (gaps_text true false ops.Set n) e verbs.Gaps (commands.Gaps true false ops.Set n) (number_clean is_end no_end n (is_long n lt)) end refl (ap (option_map (λ (k : ℕ). commands.Gaps true false ops.Set k)) (only_skipped n lt))
gaps_again true false ops.Plus n e lt end = command_plain (gaps_text true false ops.Plus n) e verbs.Gaps (commands.Gaps true false ops.Plus n) (number_clean is_end no_end n (is_long n lt)) end refl (ap (option_map (λ (k : ℕ). commands.Gaps true false ops.Plus k)) (only_skipped n lt))
gaps_again true false ops.Minus n e lt end = command_plain (gaps_text true false ops.Minus n) e verbs.Gaps (commands.Gaps true false ops.Minus n) (number_clean is_end no_end n (is_long n lt)) end refl (ap (option_map (λ (k : ℕ). commands.Gaps true false ops.Minus k)) (only_skipped n lt))
gaps_again false true ops.Set n e lt end = command_plain (gaps_text false true ops.Set n) e verbs.Gaps (commands.Gaps false true ops.Set n) (number_clean is_end no_end n (is_long n lt)) end refl (ap (option_map (λ (k : ℕ). commands.Gaps false true ops.Set k)) (only_skipped n lt))
gaps_again false true ops.Plus n e lt end = command_plain (gaps_text false true ops.Plus n) e verbs.Gaps (commands.Gaps false true ops.Plus n) (number_clean is_end no_end n (is_long n lt)) end refl (ap (option_map (λ (k : ℕ). commands.Gaps false true ops.Plus k)) (only_skipped n lt))
gaps_again false true ops.Minus n e lt end = command_plain (gaps_text false true ops.Minus n) e verbs.Gaps (commands.Gaps false true ops.Minus n) (number_clean is_end no_end n (is_long n lt)) end refl (ap (option_map (λ (k : ℕ). commands.Gaps false true ops.Minus k)) (only_skipped n lt))
gaps_again false false ops.Set n e lt end = command_plain (gaps_text false false ops.Set n) e verbs.Gaps (commands.Gaps false false ops.Set n) (number_clean is_end no_end n (is_long n lt)) end refl (ap (option_map (λ (k : ℕ). commands.Gaps false false ops.Set k)) (only_skipped n lt))
gaps_again false false ops.Plus n e lt end = command_plain (gaps_text false false ops.Plus n) e verbs.Gaps (commands.Gaps false false ops.Plus n) (number_clean is_end no_end n (is_long n lt)) end refl (ap (option_map (λ (k : ℕ). commands.Gaps false false ops.Plus k)) (only_skipped n lt))
gaps_again false false ops.Minus n e lt end = command_plain (gaps_text false false ops.Minus n) e verbs.Gaps (commands.Gaps false false ops.Minus n) (number_clean is_end no_end n (is_long n lt)) end refl (ap (option_map (λ (k : ℕ). commands.Gaps false false ops.Minus k)) (only_skipped n lt))

pub past_px_end : past_px (skip (codes " px")) ≡ []
unfolding past_px until from skip is_word
past_px_end = refl

pub move_by_number : (d : Dir) (n : ℕ) → IsNumber n → move_by d (decimal n ++ codes " px") ≡ Some (commands.MoveDir d n)
unfolding move_by
move_by_number d n lt = rw (number_some n (codes " px") (is_long n lt), number_word n (codes " px") (is_long n lt) refl, number_after n (codes " px") (is_long n lt) refl, natural_decimal n lt, past_px_end) refl

pub move_by_skipped : (d : Dir) (n : ℕ) → IsNumber n → move_by d (skip (decimal n ++ codes " px")) ≡ Some (commands.MoveDir d n)
move_by_skipped d n lt = ap (λ (u : List ℕ). move_by d u) (skip_number n (codes " px") lt) ∙ move_by_number d n lt

pub move_again : (d : Dir) (n : ℕ) (e : List ℕ) → IsNumber n → ends e ≡ true → command_at (move_text d n ++ e) ≡ Some (commands.MoveDir d n, e)
unfolding verb_of until from has skip is_word plain_form move_form move_text
move_again dirs.Left n e lt end = command_plain (move_text dirs.Left n) e verbs.Move (commands.MoveDir dirs.Left n) (number_has is_end no_end n (is_long n lt) (codes " px")) end refl (move_by_skipped dirs.Left n lt)
move_again dirs.Right n e lt end = command_plain (move_text dirs.Right n) e verbs.Move (commands.MoveDir dirs.Right n) (number_has is_end no_end n (is_long n lt) (codes " px")) end refl (move_by_skipped dirs.Right n lt)
move_again dirs.Up n e lt end = command_plain (move_text dirs.Up n) e verbs.Move (commands.MoveDir dirs.Up n) (number_has is_end no_end n (is_long n lt) (codes " px")) end refl (move_by_skipped dirs.Up n lt)
move_again dirs.Down n e lt end = command_plain (move_text dirs.Down n) e verbs.Move (commands.MoveDir dirs.Down n) (number_has is_end no_end n (is_long n lt) (codes " px")) end refl (move_by_skipped dirs.Down n lt)

pub ppt_end : (px ppt : ℕ) → (if says (skip (codes " ppt")) (codes "ppt") then whole {A = ℕ × ℕ} (after (skip (codes " ppt"))) (px, ppt) else None) ≡ Some (px, ppt)
unfolding until from skip is_word
ppt_end px ppt = refl

pub or_number : (t : List ℕ) → after (codes "or " ++ t) ≡ skip t
unfolding from skip
or_number t = refl

pub says_or : (t : List ℕ) → says (codes "or " ++ t) (codes "or") ≡ true
unfolding until is_word
says_or t = refl

pub hundredths_number : (px ppt : ℕ) → IsNumber ppt → hundredths px (codes "or " ++ (decimal ppt ++ codes " ppt")) ≡ Some (px, ppt)
unfolding hundredths
hundredths_number px ppt lt =
    rw (says_or (decimal ppt ++ codes " ppt"), or_number (decimal ppt ++ codes " ppt"), skip_number ppt (codes " ppt") lt, number_word ppt (codes " ppt") (is_long ppt lt) refl, natural_decimal ppt lt, number_after ppt (codes " ppt") (is_long ppt lt) refl) (ppt_end px ppt)

pub px_says : (t : List ℕ) → says (skip (codes " px or " ++ t)) (codes "px") ≡ true
unfolding until skip is_word
px_says t = refl

pub px_after : (t : List ℕ) → after (skip (codes " px or " ++ t)) ≡ codes "or " ++ t
unfolding from skip
px_after t = refl

pub amounts_number : (px ppt : ℕ) → IsNumber px → IsNumber ppt → amounts ((decimal px ++ codes " px or ") ++ (decimal ppt ++ codes " ppt")) ≡ Some (px, ppt)
unfolding amounts
amounts_number px ppt lt lu =
    let t : List ℕ = decimal ppt ++ codes " ppt" in
    ap (λ (u : List ℕ). amounts u) (append_assoc (decimal px) (codes " px or ") t)
    ∙ rw (number_some px (codes " px or " ++ t) (is_long px lt), number_word px (codes " px or " ++ t) (is_long px lt) refl, natural_decimal px lt, number_after px (codes " px or " ++ t) (is_long px lt) refl, px_says t, px_after t) (hundredths_number px ppt lu)

pub amounts_skipped : (px ppt : ℕ) → IsNumber px → IsNumber ppt → amounts (skip ((decimal px ++ codes " px or ") ++ (decimal ppt ++ codes " ppt"))) ≡ Some (px, ppt)
amounts_skipped px ppt lt lu =
    let whole_text : List ℕ = codes " px or " ++ (decimal ppt ++ codes " ppt") in
    let same : skip ((decimal px ++ codes " px or ") ++ (decimal ppt ++ codes " ppt")) ≡ (decimal px ++ codes " px or ") ++ (decimal ppt ++ codes " ppt") = ap skip (append_assoc (decimal px) (codes " px or ") (decimal ppt ++ codes " ppt")) ∙ (skip_number px whole_text lt ∙ sym (append_assoc (decimal px) (codes " px or ") (decimal ppt ++ codes " ppt"))) in
    ap (λ (u : List ℕ). amounts u) same ∙ amounts_number px ppt lt lu

pub resize_clean : (px ppt : ℕ) → IsNumber px → IsNumber ppt → has is_end ((decimal px ++ codes " px or ") ++ (decimal ppt ++ codes " ppt")) ≡ false
unfolding has
resize_clean px ppt lt lu =
    ap (λ (u : List ℕ). has is_end u) (append_assoc (decimal px) (codes " px or ") (decimal ppt ++ codes " ppt"))
    ∙ (number_has is_end no_end px (is_long px lt) (codes " px or " ++ (decimal ppt ++ codes " ppt")) ∙ number_has is_end no_end ppt (is_long ppt lu) (codes " ppt"))

pub resize_again : (grow : Bool) (side : Side) (px ppt : ℕ) (e : List ℕ) → IsNumber px → IsNumber ppt → ends e ≡ true → command_at (resize_text grow side px ppt ++ e) ≡ Some (commands.Resize grow side px ppt, e)
unfolding verb_of until from has skip is_word plain_form resize_form resize_by resize_text
resize_again true sides.Width px ppt e lt lu end = command_plain (resize_text true sides.Width px ppt) e verbs.Resize (commands.Resize true sides.Width px ppt) (resize_clean px ppt lt lu) end refl (ap (option_map (λ (n : ℕ × ℕ). commands.Resize true sides.Width n.0 n.1)) (amounts_skipped px ppt lt lu))
resize_again true sides.Height px ppt e lt lu end = command_plain (resize_text true sides.Height px ppt) e verbs.Resize (commands.Resize true sides.Height px ppt) (resize_clean px ppt lt lu) end refl (ap (option_map (λ (n : ℕ × ℕ). commands.Resize true sides.Height n.0 n.1)) (amounts_skipped px ppt lt lu))
resize_again true (sides.At dirs.Left) px ppt e lt lu end = command_plain (resize_text true (sides.At dirs.Left) px ppt) e verbs.Resize (commands.Resize true (sides.At dirs.Left) px ppt) (resize_clean px ppt lt lu) end refl (ap (option_map (λ (n : ℕ × ℕ). commands.Resize true (sides.At dirs.Left) n.0 n.1)) (amounts_skipped px ppt lt lu))
resize_again true (sides.At dirs.Right) px ppt e lt lu end = command_plain (resize_text true (sides.At dirs.Right) px ppt) e verbs.Resize (commands.Resize true (sides.At dirs.Right) px ppt) (resize_clean px ppt lt lu) end refl (ap (option_map (λ (n : ℕ × ℕ). commands.Resize true (sides.At dirs.Right) n.0 n.1)) (amounts_skipped px ppt lt lu))
resize_again true (sides.At dirs.Up) px ppt e lt lu end = command_plain (resize_text true (sides.At dirs.Up) px ppt) e verbs.Resize (commands.Resize true (sides.At dirs.Up) px ppt) (resize_clean px ppt lt lu) end refl (ap (option_map (λ (n : ℕ × ℕ). commands.Resize true (sides.At dirs.Up) n.0 n.1)) (amounts_skipped px ppt lt lu))
resize_again true (sides.At dirs.Down) px ppt e lt lu end = command_plain (resize_text true (sides.At dirs.Down) px ppt) e verbs.Resize (commands.Resize true (sides.At dirs.Down) px ppt) (resize_clean px ppt lt lu) end refl (ap (option_map (λ (n : ℕ × ℕ). commands.Resize true (sides.At dirs.Down) n.0 n.1)) (amounts_skipped px ppt lt lu))
resize_again false sides.Width px ppt e lt lu end = command_plain (resize_text false sides.Width px ppt) e verbs.Resize (commands.Resize false sides.Width px ppt) (resize_clean px ppt lt lu) end refl (ap (option_map (λ (n : ℕ × ℕ). commands.Resize false sides.Width n.0 n.1)) (amounts_skipped px ppt lt lu))
resize_again false sides.Height px ppt e lt lu end = command_plain (resize_text false sides.Height px ppt) e verbs.Resize (commands.Resize false sides.Height px ppt) (resize_clean px ppt lt lu) end refl (ap (option_map (λ (n : ℕ × ℕ). commands.Resize false sides.Height n.0 n.1)) (amounts_skipped px ppt lt lu))
resize_again false (sides.At dirs.Left) px ppt e lt lu end = command_plain (resize_text false (sides.At dirs.Left) px ppt) e verbs.Resize (commands.Resize false (sides.At dirs.Left) px ppt) (resize_clean px ppt lt lu) end refl (ap (option_map (λ (n : ℕ × ℕ). commands.Resize false (sides.At dirs.Left) n.0 n.1)) (amounts_skipped px ppt lt lu))
resize_again false (sides.At dirs.Right) px ppt e lt lu end = command_plain (resize_text false (sides.At dirs.Right) px ppt) e verbs.Resize (commands.Resize false (sides.At dirs.Right) px ppt) (resize_clean px ppt lt lu) end refl (ap (option_map (λ (n : ℕ × ℕ). commands.Resize false (sides.At dirs.Right) n.0 n.1)) (amounts_skipped px ppt lt lu))
resize_again false (sides.At dirs.Up) px ppt e lt lu end = command_plain (resize_text false (sides.At dirs.Up) px ppt) e verbs.Resize (commands.Resize false (sides.At dirs.Up) px ppt) (resize_clean px ppt lt lu) end refl (ap (option_map (λ (n : ℕ × ℕ). commands.Resize false (sides.At dirs.Up) n.0 n.1)) (amounts_skipped px ppt lt lu))
resize_again false (sides.At dirs.Down) px ppt e lt lu end = command_plain (resize_text false (sides.At dirs.Down) px ppt) e verbs.Resize (commands.Resize false (sides.At dirs.Down) px ppt) (resize_clean px ppt lt lu) end refl (ap (option_map (λ (n : ℕ × ℕ). commands.Resize false (sides.At dirs.Down) n.0 n.1)) (amounts_skipped px ppt lt lu))
