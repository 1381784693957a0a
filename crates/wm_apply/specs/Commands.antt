-- What one command of a group does, and its reply.
use Rattle.std.specs.Prelude.{ℕ, Bool, true, false, not, ◌&&◌, ◌||◌, ◌==◌, if◌then◌else◌, nat_le, List, [], ◌∷◌, length, filter, Option, None, Some, codes}
use Rattle.std.specs.List.{list_any}
use Rattle.std.specs.Str.{bytes_eq}
use Rattle.std.specs.Option.{option_map}
use Rattle.wm_base.specs.declared.errors.ErrorText.{ErrorText}
use Rattle.wm_base.specs.declared.errors.ErrorText.TheVariants as errors
use Rattle.wm_base.specs.declared.ids.ConId.{ConId}
use Rattle.wm_language.specs.declared.command.Command.{Command}
use Rattle.wm_language.specs.declared.command.Command.TheVariants as commands
use Rattle.wm_layouts.specs.declared.plan.Env.{Env}
use Rattle.wm_tree.specs.TreeValue.{TreeValue, focused}
use Rattle.wm_apply.specs.declared.applied.CommandReply.{CommandReply}
use Rattle.wm_apply.specs.declared.applied.CommandReply.TheVariants.{Error}
use Rattle.wm_apply.specs.declared.rows.How.{How}
use Rattle.wm_apply.specs.declared.rows.How.TheVariants as how
use Rattle.wm_apply.specs.declared.runs.Runs.{Runs}
use Rattle.wm_apply.specs.declared.runs.Runs.TheVariants as runs
use Rattle.wm_apply.specs.declared.targets.Targets.{Targets}
use Rattle.wm_apply.specs.declared.targets.Targets.TheVariants.{Matched, Handed, Focused}
use Rattle.wm_apply.specs.Kills.{asked_each, asked_of, is_kill}
use Rattle.wm_apply.specs.Rows.{whole_refusal, whole_tree}
use Rattle.wm_apply.specs.Subjects.{each_error, each_tree, error_of, is_there, reply_of, whole_done}

-- ---- kinds of commands

-- on what each command runs
abbrev pub runs_on : Command → Runs
runs_on (commands.Split arg) = runs.Subjects
runs_on (commands.SetLayout arg) = runs.Subjects
runs_on (commands.CycleLayout cycle) = runs.Subjects
runs_on commands.Focus = runs.Subjects
runs_on (commands.FocusDir d) = runs.Subjects
runs_on commands.FocusParent = runs.Subjects
runs_on commands.FocusChild = runs.Subjects
runs_on (commands.FocusKind kind) = runs.Subjects
runs_on (commands.FocusOutput arg) = runs.Subjects
runs_on (commands.MoveDir d px) = runs.Subjects
runs_on (commands.MoveToWorkspace target) = runs.Subjects
runs_on (commands.MoveToOutput arg) = runs.Subjects
runs_on (commands.MoveWorkspace arg) = runs.Subjects
runs_on (commands.MoveToMark name) = runs.Subjects
runs_on commands.MoveToScratchpad = runs.Subjects
runs_on (commands.MovePosition x y) = runs.Subjects
runs_on commands.MoveCenter = runs.Subjects
runs_on (commands.Swap arg) = runs.Subjects
runs_on (commands.Resize grow side px ppt) = runs.Subjects
runs_on (commands.ResizeSet w h) = runs.Subjects
runs_on (commands.Floating arg) = runs.Subjects
runs_on (commands.Fullscreen arg) = runs.Subjects
runs_on (commands.SetBorder border) = runs.Subjects
runs_on commands.CycleBorder = runs.Subjects
runs_on (commands.Gaps outer all op px) = runs.Subjects
runs_on (commands.Sticky arg) = runs.Subjects
runs_on (commands.Mark add toggle name) = runs.Subjects
runs_on (commands.Unmark name) = runs.Subjects
runs_on (commands.Workspace target) = runs.Whole
runs_on (commands.Rename was name) = runs.Whole
runs_on commands.ScratchpadShow = runs.Subjects
runs_on (commands.Mode mode) = runs.Once
runs_on (commands.AppendLayout name) = runs.Whole
runs_on (commands.TitleFormat format) = runs.Subjects
runs_on commands.Kill = runs.Subjects
runs_on commands.Nop = runs.Once
runs_on commands.Idle = runs.Once
runs_on commands.Exit = runs.Once

abbrev pub is_once : Runs → Bool
is_once runs.Once = true
is_once runs.Whole = false
is_once runs.Subjects = false

abbrev pub is_for_all : Runs → Bool
is_for_all runs.Once = false
is_for_all runs.Whole = true
is_for_all runs.Subjects = false

-- the command changes no tree, runs once, whatever the criteria, and has no subject
abbrev pub runs_once : Command → Bool
runs_once command = is_once (runs_on command)

-- the command runs once on the tree as a whole, whatever the criteria, and has no subject
abbrev pub is_whole : Command → Bool
is_whole command = is_for_all (runs_on command)

abbrev pub is_mark : Command → Bool
is_mark (commands.Mark add toggle name) = true
is_mark other = false

abbrev pub is_exit : Command → Bool
is_exit commands.Exit = true
is_exit other = false

-- ---- modes

-- a mode that can be set: `default`, or one of the plan
abbrev pub is_mode : Env → List ℕ → Bool
is_mode env mode = bytes_eq mode (codes "default") || list_any (bytes_eq mode) env.modes

-- the command names a mode that cannot be set
abbrev pub is_unknown_mode : Env → Command → Bool
is_unknown_mode env (commands.Mode mode) = not (is_mode env mode)
is_unknown_mode env other = false

-- the mode that the command sets, if any
abbrev pub set_mode : Env → Command → Option (List ℕ)
set_mode env (commands.Mode mode) = if is_mode env mode then Some mode else None
set_mode env other = None

-- ---- on what a command runs

-- those of the containers that are still there
abbrev pub still_there : List ConId → TreeValue → List ConId
still_there cs t = filter (λ c. is_there c t) cs

-- the subject that was handed in, or the focused container where it is gone
abbrev pub subject : ConId → TreeValue → ConId
subject c t = if is_there c t then c else focused t

-- a command is refused before it runs, runs on these subjects, or once on the tree as a whole
pub data Course : Type 0 where
  refused : ErrorText → Course
  on : How → List ConId → Course
  whole : Course

-- more than one of the containers is still there
abbrev pub many_there : List ConId → TreeValue → Bool
many_there cs t = nat_le 2 (length (still_there cs t))

-- a mark is for one container
abbrev pub matched_course : Command → List ConId → TreeValue → Course
matched_course command cs t =
    if length cs == 0 then refused errors.NoMatch
    else if is_mark command && many_there cs t then refused errors.ManyMatch
    else on how.Matched cs

abbrev pub targets_course : Targets → Command → TreeValue → Course
targets_course (Matched cs) command t = matched_course command cs t
targets_course (Handed c) command t = on how.Handed (subject c t ∷ [])
targets_course Focused command t = on how.Focused (focused t ∷ [])

-- what the command runs on, or why it does not
abbrev pub course : Env → Targets → Command → TreeValue → Course
course env targets command t =
    if is_unknown_mode env command then refused errors.NoMode
    else if runs_once command then on how.Focused []
    else if is_whole command then whole
    else targets_course targets command t

abbrev pub course_tree : Env → Course → Command → TreeValue → TreeValue
course_tree env (refused e) command t = t
course_tree env (on how cs) command t = each_tree env how command cs t
course_tree env whole command t = whole_done (whole_refusal env command t) t (whole_tree env command t)

abbrev pub course_reply : Env → Course → Command → TreeValue → CommandReply
course_reply env (refused e) command t = Error e
course_reply env (on how cs) command t = reply_of (each_error env how command cs t)
course_reply env whole command t = reply_of (option_map error_of (whole_refusal env command t))

-- the tree that the command leaves
abbrev pub command_tree : Env → Targets → Command → TreeValue → TreeValue
command_tree env targets command t = course_tree env (course env targets command t) command t

-- the reply to the command
abbrev pub command_reply : Env → Targets → Command → TreeValue → CommandReply
command_reply env targets command t = course_reply env (course env targets command t) command t

abbrev pub kills_on : Targets → TreeValue → List ConId
kills_on (Matched cs) t = asked_each cs t
kills_on (Handed c) t = asked_of (subject c t) t
kills_on Focused t = asked_of (focused t) t

-- the windows that the command asks to close
abbrev pub command_kills : Targets → Command → TreeValue → List ConId
command_kills targets command t = if is_kill command then kills_on targets t else []
