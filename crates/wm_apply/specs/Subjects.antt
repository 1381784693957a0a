-- On what a command runs, and what it leaves of all its subjects.
use Rattle.std.specs.Prelude.{Bool, if◌then◌else◌, List, [], ◌∷◌, Option, None, Some}
use Rattle.std.specs.Option.{option_map}
use Rattle.wm_base.specs.declared.errors.ErrorText.{ErrorText}
use Rattle.wm_base.specs.declared.errors.ErrorText.TheVariants as errors
use Rattle.wm_base.specs.declared.errors.Limit.{Limit}
use Rattle.wm_base.specs.declared.errors.Limit.TheVariants as limits
use Rattle.wm_base.specs.declared.errors.Refusal.{Refusal}
use Rattle.wm_base.specs.declared.errors.Refusal.TheVariants as refusals
use Rattle.wm_base.specs.declared.ids.ConId.{ConId}
use Rattle.wm_language.specs.declared.command.Command.{Command}
use Rattle.wm_layouts.specs.declared.plan.Env.{Env}
use Rattle.wm_shared.specs.Subject.{is_subject_kind}
use Rattle.wm_forest.specs.Look.{con_kind, kind_of, space_kind}
use Rattle.wm_tree.specs.TreeValue.{TreeValue}
use Rattle.wm_tree.specs.Words.{settled}
use Rattle.wm_apply.specs.declared.applied.CommandReply.{CommandReply}
use Rattle.wm_apply.specs.declared.applied.CommandReply.TheVariants.{Done, Error}
use Rattle.wm_apply.specs.declared.rows.How.{How}
use Rattle.wm_apply.specs.Rows.{row_refusal, row_tree}

-- ---- errors

-- the text of a limit that a command would pass
abbrev pub full_text : Limit → ErrorText
full_text limits.Containers = errors.FullContainers
full_text limits.Outputs = errors.NoOutput
full_text limits.Workspaces = errors.FullWorkspaces
full_text limits.Children = errors.FullChildren
full_text limits.Depth = errors.FullDepth
full_text limits.Marks = errors.FullMarks
full_text limits.Ids = errors.FullIds

-- the text with which a refusal is answered
abbrev pub error_of : Refusal → ErrorText
error_of (refusals.NoTarget text) = text
error_of (refusals.Full limit) = full_text limit
error_of refusals.NameTaken = errors.NameTaken
error_of refusals.NoMemory = errors.NoMatch

-- ---- one subject

-- c is a workspace or a container of the tree
abbrev pub is_there : ConId → TreeValue → Bool
is_there c t = is_subject_kind (kind_of space_kind c t.nodes) (kind_of con_kind c t.nodes)

abbrev pub unless_refused : Option Refusal → TreeValue → TreeValue → TreeValue
unless_refused None old new = new
unless_refused (Some e) old new = old

-- the tree after the command on c, settled; as it was where the command is refused, or c is not there
abbrev pub one_tree : Env → How → Command → ConId → TreeValue → TreeValue
one_tree env how command c t =
    if is_there c t then unless_refused (row_refusal env how command c t) t (settled (row_tree env how command c t)) else t

-- why the command is refused on c; one that is gone refuses nothing
abbrev pub one_error : Env → How → Command → ConId → TreeValue → Option ErrorText
one_error env how command c t = if is_there c t then option_map error_of (row_refusal env how command c t) else None

-- the new tree, settled, of a command on the tree as a whole; as it was where the command is refused
abbrev pub whole_done : Option Refusal → TreeValue → TreeValue → TreeValue
whole_done refusal old new = unless_refused refusal old (settled new)

-- ---- subjects one after another

-- the tree after the command on each of the subjects that is still there
abbrev pub each_tree : Env → How → Command → List ConId → TreeValue → TreeValue
each_tree env how command [] t = t
each_tree env how command (c ∷ cs) t = each_tree env how command cs (one_tree env how command c t)

abbrev pub or_error : Option ErrorText → Option ErrorText → Option ErrorText
or_error None later = later
or_error (Some e) later = Some e

-- the first error of the subjects
abbrev pub each_error : Env → How → Command → List ConId → TreeValue → Option ErrorText
each_error env how command [] t = None
each_error env how command (c ∷ cs) t = or_error (one_error env how command c t) (each_error env how command cs (one_tree env how command c t))

abbrev pub reply_of : Option ErrorText → CommandReply
reply_of None = Done
reply_of (Some e) = Error e
