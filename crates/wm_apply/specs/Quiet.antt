-- Texts that leave the tree alone.
use Rattle.std.specs.Prelude.{Bool, if◌then◌else◌, List, []}
use Rattle.std.specs.List.{list_all}
use Rattle.wm_base.specs.declared.errors.ErrorText.TheVariants as errors
use Rattle.wm_language.specs.declared.batch.Group.{Group}
use Rattle.wm_language.specs.declared.command.Command.{Command}
use Rattle.wm_layouts.specs.declared.plan.Env.{Env}
use Rattle.wm_tree.specs.TreeValue.{TreeValue}
use Rattle.wm_apply.specs.declared.applied.CommandReply.{CommandReply}
use Rattle.wm_apply.specs.declared.applied.CommandReply.TheVariants.{Done, Error}
use Rattle.wm_apply.specs.declared.quiet.Quiet.{Quiet}
use Rattle.wm_apply.specs.Batches.{Outcome}
use Rattle.wm_apply.specs.Commands.{is_unknown_mode, runs_once}

-- each command of these groups leaves the tree alone
abbrev pub is_quiet : List Group → Bool
is_quiet groups = list_all (λ g. list_all runs_once g.commands) groups

-- what a command that leaves the tree alone is answered
abbrev pub idle_reply : Env → Command → CommandReply
idle_reply env command = if is_unknown_mode env command then Error errors.NoMode else Done

-- what was done so far, beside this tree
abbrev pub beside : TreeValue → Quiet → Outcome
beside t q = record { tree = t; replies = q.replies.items; mode = q.mode; exit = q.exit; kills = [] }
