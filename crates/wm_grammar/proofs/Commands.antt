-- Every printed command is read again, whatever stands behind its end.
use Rattle.std.proofs.Common.{◌≡◌, ℕ, Bool, true, false, List, ◌++◌, Option, Some, None, refl, ap, ◌∙◌, append_assoc, codes}
use Rattle.wm_base.specs.declared.geometry.Dir.TheVariants as dirs
use Rattle.wm_language.specs.declared.arguments.OutArg.{OutArg}
use Rattle.wm_language.specs.declared.arguments.OutArg.TheVariants as outs
use Rattle.wm_language.specs.declared.arguments.Target.{Target}
use Rattle.wm_language.specs.declared.arguments.Target.TheVariants as targets
use Rattle.wm_language.specs.declared.arguments.SwapArg.{SwapArg}
use Rattle.wm_language.specs.declared.arguments.SwapArg.TheVariants as swaps
use Rattle.wm_language.specs.declared.command.Command.{Command}
use Rattle.wm_language.specs.declared.command.Command.TheVariants as commands
use Rattle.wm_words.specs.declared.verbs.Verb.{Verb}
use Rattle.wm_words.specs.declared.verbs.Verb.TheVariants as verbs
use Rattle.wm_grammar.specs.declared.opening.Opening.{Opening}
use Rattle.wm_grammar.specs.declared.opening.Opening.TheVariants as openings
use Rattle.wm_words.specs.Pieces.{until, from, has, skip, ends, is_word, single, argument}
use Rattle.wm_words.specs.Forms.{verb_of, plain_form, only_output, focus_word, focus_form, past_to, position_form, move_to_form, past_one_to, move_workspace_form, move_form, border_form, kill_form, scratchpad_form}
use Rattle.wm_grammar.specs.Openings.{made, command_at}
use Rattle.wm_language.specs.Spelling.{spelled, quoted}
use Rattle.wm_language.specs.Words.{IsArgument}
use Rattle.wm_grammar.specs.Readable.{IsOutput, IsSentTo, IsShown, IsSwap, IsReadableCommand, IsMaybeArgument}
use Rattle.wm_grammar.proofs.Again.{command_plain, command_quoted, IsOpening}
use Rattle.wm_grammar.proofs.Places.{sides_again, position_again, renaming_again}
use Rattle.wm_grammar.proofs.Spelled.{argument_again, split_again, layout_again, cycle_again, kind_again, focus_dir_again, floating_again, fullscreen_again, sticky_again, focus_output_opening, to_workspace_opening, to_numbered_opening, to_output_opening, workspace_to_opening, to_mark_opening, swap_opening, mark_both_opening, mark_add_opening, mark_toggle_opening, mark_opening, unmark_opening, workspace_opening, numbered_opening, rename_opening, mode_opening, append_opening, title_opening, border_again, con_again, window_again, gaps_again, move_again, resize_again}

quoted_command : (p : List ℕ) (v : Verb) (o : Opening) → IsOpening p v o → (x e : List ℕ) (c : Command) → IsArgument x → ends e ≡ true → (argument x ≡ Some x → made o x ≡ Some c) → command_at ((p ++ quoted x) ++ e) ≡ Some (c, e)
quoted_command p v o i x e c a end fits = ap (λ (u : List ℕ). command_at u) (append_assoc p (quoted x) e) ∙ command_quoted p v o i x e c end (fits (argument_again x a))

-- ---- outputs and workspaces

focus_output_again : (o : OutArg) (e : List ℕ) → IsOutput o → ends e ≡ true → command_at (spelled (commands.FocusOutput o) ++ e) ≡ Some (commands.FocusOutput o, e)
unfolding verb_of until from has skip is_word single plain_form focus_form focus_word only_output move_form past_to move_to_form past_one_to move_workspace_form position_form border_form kill_form scratchpad_form spelled made
focus_output_again (outs.At dirs.Left) e a end = command_plain (codes "focus output left") e verbs.Focus (commands.FocusOutput (outs.At dirs.Left)) refl end refl refl
focus_output_again (outs.At dirs.Right) e a end = command_plain (codes "focus output right") e verbs.Focus (commands.FocusOutput (outs.At dirs.Right)) refl end refl refl
focus_output_again (outs.At dirs.Up) e a end = command_plain (codes "focus output up") e verbs.Focus (commands.FocusOutput (outs.At dirs.Up)) refl end refl refl
focus_output_again (outs.At dirs.Down) e a end = command_plain (codes "focus output down") e verbs.Focus (commands.FocusOutput (outs.At dirs.Down)) refl end refl refl
focus_output_again outs.Current e a end = command_plain (codes "focus output current") e verbs.Focus (commands.FocusOutput outs.Current) refl end refl refl
focus_output_again outs.Primary e a end = command_plain (codes "focus output primary") e verbs.Focus (commands.FocusOutput outs.Primary) refl end refl refl
focus_output_again outs.Next e a end = command_plain (codes "focus output next") e verbs.Focus (commands.FocusOutput outs.Next) refl end refl refl
focus_output_again (outs.Named n) e a end = quoted_command (codes "focus output ") verbs.Focus (openings.FocusOutput) focus_output_opening n e (commands.FocusOutput (outs.Named n)) a end (λ h. rw h refl)

to_output_again : (o : OutArg) (e : List ℕ) → IsOutput o → ends e ≡ true → command_at (spelled (commands.MoveToOutput o) ++ e) ≡ Some (commands.MoveToOutput o, e)
unfolding verb_of until from has skip is_word single plain_form focus_form focus_word only_output move_form past_to move_to_form past_one_to move_workspace_form position_form border_form kill_form scratchpad_form spelled made
to_output_again (outs.At dirs.Left) e a end = command_plain (codes "move container to output left") e verbs.Move (commands.MoveToOutput (outs.At dirs.Left)) refl end refl refl
to_output_again (outs.At dirs.Right) e a end = command_plain (codes "move container to output right") e verbs.Move (commands.MoveToOutput (outs.At dirs.Right)) refl end refl refl
to_output_again (outs.At dirs.Up) e a end = command_plain (codes "move container to output up") e verbs.Move (commands.MoveToOutput (outs.At dirs.Up)) refl end refl refl
to_output_again (outs.At dirs.Down) e a end = command_plain (codes "move container to output down") e verbs.Move (commands.MoveToOutput (outs.At dirs.Down)) refl end refl refl
to_output_again outs.Current e a end = command_plain (codes "move container to output current") e verbs.Move (commands.MoveToOutput outs.Current) refl end refl refl
to_output_again outs.Primary e a end = command_plain (codes "move container to output primary") e verbs.Move (commands.MoveToOutput outs.Primary) refl end refl refl
to_output_again outs.Next e a end = command_plain (codes "move container to output next") e verbs.Move (commands.MoveToOutput outs.Next) refl end refl refl
to_output_again (outs.Named n) e a end = quoted_command (codes "move container to output ") verbs.Move (openings.MoveToOutput) to_output_opening n e (commands.MoveToOutput (outs.Named n)) a end (λ h. rw h refl)

workspace_to_again : (o : OutArg) (e : List ℕ) → IsOutput o → ends e ≡ true → command_at (spelled (commands.MoveWorkspace o) ++ e) ≡ Some (commands.MoveWorkspace o, e)
unfolding verb_of until from has skip is_word single plain_form focus_form focus_word only_output move_form past_to move_to_form past_one_to move_workspace_form position_form border_form kill_form scratchpad_form spelled made
workspace_to_again (outs.At dirs.Left) e a end = command_plain (codes "move workspace to output left") e verbs.Move (commands.MoveWorkspace (outs.At dirs.Left)) refl end refl refl
workspace_to_again (outs.At dirs.Right) e a end = command_plain (codes "move workspace to output right") e verbs.Move (commands.MoveWorkspace (outs.At dirs.Right)) refl end refl refl
workspace_to_again (outs.At dirs.Up) e a end = command_plain (codes "move workspace to output up") e verbs.Move (commands.MoveWorkspace (outs.At dirs.Up)) refl end refl refl
workspace_to_again (outs.At dirs.Down) e a end = command_plain (codes "move workspace to output down") e verbs.Move (commands.MoveWorkspace (outs.At dirs.Down)) refl end refl refl
workspace_to_again outs.Current e a end = command_plain (codes "move workspace to output current") e verbs.Move (commands.MoveWorkspace outs.Current) refl end refl refl
workspace_to_again outs.Primary e a end = command_plain (codes "move workspace to output primary") e verbs.Move (commands.MoveWorkspace outs.Primary) refl end refl refl
workspace_to_again outs.Next e a end = command_plain (codes "move workspace to output next") e verbs.Move (commands.MoveWorkspace outs.Next) refl end refl refl
workspace_to_again (outs.Named n) e a end = quoted_command (codes "move workspace to output ") verbs.Move (openings.MoveWorkspace) workspace_to_opening n e (commands.MoveWorkspace (outs.Named n)) a end (λ h. rw h refl)

to_workspace_again : (t : Target) (e : List ℕ) → IsSentTo t → ends e ≡ true → command_at (spelled (commands.MoveToWorkspace t) ++ e) ≡ Some (commands.MoveToWorkspace t, e)
unfolding verb_of until from has skip is_word single plain_form focus_form focus_word only_output move_form past_to move_to_form past_one_to move_workspace_form position_form border_form kill_form scratchpad_form spelled made
to_workspace_again targets.Next e a end = command_plain (codes "move container to workspace next") e verbs.Move (commands.MoveToWorkspace targets.Next) refl end refl refl
to_workspace_again targets.Prev e a end = command_plain (codes "move container to workspace prev") e verbs.Move (commands.MoveToWorkspace targets.Prev) refl end refl refl
to_workspace_again targets.NextOnOutput e a end = command_plain (codes "move container to workspace next_on_output") e verbs.Move (commands.MoveToWorkspace targets.NextOnOutput) refl end refl refl
to_workspace_again targets.PrevOnOutput e a end = command_plain (codes "move container to workspace prev_on_output") e verbs.Move (commands.MoveToWorkspace targets.PrevOnOutput) refl end refl refl
to_workspace_again targets.BackAndForth e a end = command_plain (codes "move container to workspace back_and_forth") e verbs.Move (commands.MoveToWorkspace targets.BackAndForth) refl end refl refl
to_workspace_again targets.Current e a end = command_plain (codes "move container to workspace current") e verbs.Move (commands.MoveToWorkspace targets.Current) refl end refl refl
to_workspace_again (targets.Number n) e a end = quoted_command (codes "move container to workspace number ") verbs.Move (openings.MoveToNumbered) to_numbered_opening n e (commands.MoveToWorkspace (targets.Number n)) a end (λ h. rw h refl)
to_workspace_again (targets.Named n) e a end = quoted_command (codes "move container to workspace ") verbs.Move (openings.MoveToWorkspace) to_workspace_opening n e (commands.MoveToWorkspace (targets.Named n)) a end (λ h. rw h refl)

workspace_again : (t : Target) (e : List ℕ) → IsShown t → ends e ≡ true → command_at (spelled (commands.Workspace t) ++ e) ≡ Some (commands.Workspace t, e)
unfolding verb_of until from has skip is_word single plain_form focus_form focus_word only_output move_form past_to move_to_form past_one_to move_workspace_form position_form border_form kill_form scratchpad_form spelled made
workspace_again targets.Next e a end = command_plain (codes "workspace next") e verbs.Workspace (commands.Workspace targets.Next) refl end refl refl
workspace_again targets.Prev e a end = command_plain (codes "workspace prev") e verbs.Workspace (commands.Workspace targets.Prev) refl end refl refl
workspace_again targets.NextOnOutput e a end = command_plain (codes "workspace next_on_output") e verbs.Workspace (commands.Workspace targets.NextOnOutput) refl end refl refl
workspace_again targets.PrevOnOutput e a end = command_plain (codes "workspace prev_on_output") e verbs.Workspace (commands.Workspace targets.PrevOnOutput) refl end refl refl
workspace_again targets.BackAndForth e a end = command_plain (codes "workspace back_and_forth") e verbs.Workspace (commands.Workspace targets.BackAndForth) refl end refl refl
workspace_again (targets.Number n) e a end = quoted_command (codes "workspace number ") verbs.Workspace (openings.WorkspaceNumbered) numbered_opening n e (commands.Workspace (targets.Number n)) a end (λ h. rw h refl)
workspace_again (targets.Named n) e a end = quoted_command (codes "workspace ") verbs.Workspace (openings.Workspace) workspace_opening n e (commands.Workspace (targets.Named n)) a end (λ h. rw h refl)
workspace_again targets.Current e a end = elim a [ ]

-- ---- marks, names

swap_again : (s : SwapArg) (e : List ℕ) → IsSwap s → ends e ≡ true → command_at (spelled (commands.Swap s) ++ e) ≡ Some (commands.Swap s, e)
unfolding spelled made
swap_again (swaps.Con n) e a end = con_again n e a end
swap_again (swaps.Window n) e a end = window_again n e a end
swap_again (swaps.Mark n) e a end = quoted_command (codes "swap container with mark ") verbs.Swap (openings.SwapMark) swap_opening n e (commands.Swap (swaps.Mark n)) a end (λ h. rw h refl)

mark_again : (add toggle : Bool) (n e : List ℕ) → IsArgument n → ends e ≡ true → command_at (spelled (commands.Mark add toggle n) ++ e) ≡ Some (commands.Mark add toggle n, e)
unfolding spelled made
mark_again true true n e a end = quoted_command (codes "mark --add --toggle ") verbs.Mark (openings.Mark true true) mark_both_opening n e (commands.Mark true true n) a end (λ h. rw h refl)
mark_again true false n e a end = quoted_command (codes "mark --add ") verbs.Mark (openings.Mark true false) mark_add_opening n e (commands.Mark true false n) a end (λ h. rw h refl)
mark_again false true n e a end = quoted_command (codes "mark --toggle ") verbs.Mark (openings.Mark false true) mark_toggle_opening n e (commands.Mark false true n) a end (λ h. rw h refl)
mark_again false false n e a end = quoted_command (codes "mark ") verbs.Mark (openings.Mark false false) mark_opening n e (commands.Mark false false n) a end (λ h. rw h refl)

unmark_again : (m : Option (List ℕ)) (e : List ℕ) → IsMaybeArgument m → ends e ≡ true → command_at (spelled (commands.Unmark m) ++ e) ≡ Some (commands.Unmark m, e)
unfolding verb_of until from has skip is_word single plain_form focus_form focus_word only_output move_form past_to move_to_form past_one_to move_workspace_form position_form border_form kill_form scratchpad_form spelled made
unmark_again None e a end = command_plain (codes "unmark") e verbs.Unmark (commands.Unmark None) refl end refl refl
unmark_again (Some n) e a end = quoted_command (codes "unmark ") verbs.Unmark (openings.Unmark) unmark_opening n e (commands.Unmark (Some n)) a end (λ h. rw h refl)

rename_again : (was : Option (List ℕ)) (n e : List ℕ) → IsMaybeArgument was → IsArgument n → ends e ≡ true → command_at (spelled (commands.Rename was n) ++ e) ≡ Some (commands.Rename was n, e)
unfolding spelled made
rename_again None n e b a end = quoted_command (codes "rename workspace to ") verbs.Rename (openings.RenameFocused) rename_opening n e (commands.Rename None n) a end (λ h. rw h refl)
rename_again (Some was) n e b a end = renaming_again was n e b a end

-- ---- all commands

pub command_again : (c : Command) (e : List ℕ) → IsReadableCommand c → ends e ≡ true → command_at (spelled c ++ e) ≡ Some (c, e)
unfolding verb_of until from has skip is_word single plain_form focus_form focus_word only_output move_form past_to move_to_form past_one_to move_workspace_form position_form border_form kill_form scratchpad_form spelled made
command_again (commands.Split a) e h end = split_again a e end
command_again (commands.SetLayout a) e h end = layout_again a e end
command_again (commands.CycleLayout a) e h end = cycle_again a e end
command_again commands.Focus e h end = command_plain (codes "focus") e verbs.Focus (commands.Focus) refl end refl refl
command_again (commands.FocusDir d) e h end = focus_dir_again d e end
command_again commands.FocusParent e h end = command_plain (codes "focus parent") e verbs.Focus (commands.FocusParent) refl end refl refl
command_again commands.FocusChild e h end = command_plain (codes "focus child") e verbs.Focus (commands.FocusChild) refl end refl refl
command_again (commands.FocusKind k) e h end = kind_again k e end
command_again (commands.FocusOutput o) e h end = focus_output_again o e h end
command_again (commands.MoveDir d n) e h end = move_again d n e h end
command_again (commands.MoveToWorkspace t) e h end = to_workspace_again t e h end
command_again (commands.MoveToOutput o) e h end = to_output_again o e h end
command_again (commands.MoveWorkspace o) e h end = workspace_to_again o e h end
command_again (commands.MoveToMark n) e a end = quoted_command (codes "move container to mark ") verbs.Move (openings.MoveToMark) to_mark_opening n e (commands.MoveToMark n) a end (λ h. rw h refl)
command_again commands.MoveToScratchpad e h end = command_plain (codes "move scratchpad") e verbs.Move (commands.MoveToScratchpad) refl end refl refl
command_again (commands.MovePosition x y) e h end = position_again x y e h.0 h.1 end
command_again commands.MoveCenter e h end = command_plain (codes "move position center") e verbs.Move (commands.MoveCenter) refl end refl refl
command_again (commands.Swap a) e h end = swap_again a e h end
command_again (commands.Resize grow side px ppt) e h end = resize_again grow side px ppt e h.0 h.1 end
command_again (commands.ResizeSet w k) e h end = sides_again w k e h.0 h.1 end
command_again (commands.Floating a) e h end = floating_again a e end
command_again (commands.Fullscreen a) e h end = fullscreen_again a e end
command_again (commands.SetBorder b) e h end = border_again b e h end
command_again commands.CycleBorder e h end = command_plain (codes "border toggle") e verbs.Border (commands.CycleBorder) refl end refl refl
command_again (commands.Gaps outer all op px) e h end = gaps_again outer all op px e h end
command_again (commands.Sticky a) e h end = sticky_again a e end
command_again (commands.Mark add toggle n) e h end = mark_again add toggle n e h end
command_again (commands.Unmark m) e h end = unmark_again m e h end
command_again (commands.Workspace t) e h end = workspace_again t e h end
command_again (commands.Rename was n) e h end = rename_again was n e h.0 h.1 end
command_again commands.ScratchpadShow e h end = command_plain (codes "scratchpad show") e verbs.Scratchpad (commands.ScratchpadShow) refl end refl refl
command_again (commands.Mode n) e a end = quoted_command (codes "mode ") verbs.Mode (openings.Mode) mode_opening n e (commands.Mode n) a end (λ h. rw h refl)
command_again (commands.AppendLayout n) e a end = quoted_command (codes "append_layout ") verbs.AppendLayout (openings.AppendLayout) append_opening n e (commands.AppendLayout n) a end (λ h. rw h refl)
command_again (commands.TitleFormat n) e a end = quoted_command (codes "title_format ") verbs.TitleFormat (openings.TitleFormat) title_opening n e (commands.TitleFormat n) a end (λ h. rw h refl)
command_again commands.Kill e h end = command_plain (codes "kill") e verbs.Kill (commands.Kill) refl end refl refl
command_again commands.Nop e h end = command_plain (codes "nop") e verbs.Nop (commands.Nop) refl end refl refl
command_again commands.Idle e h end = command_plain (codes "exec") e verbs.Idle (commands.Idle) refl end refl refl
command_again commands.Exit e h end = command_plain (codes "exit") e verbs.Exit (commands.Exit) refl end refl refl
