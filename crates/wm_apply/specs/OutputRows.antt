-- What commands that name an output do to one subject.
use Rattle.std.specs.Prelude.{Option, None, Some, is_none}
use Rattle.wm_base.specs.declared.errors.ErrorText.TheVariants as errors
use Rattle.wm_base.specs.declared.errors.Refusal.{Refusal}
use Rattle.wm_base.specs.declared.errors.Refusal.TheVariants.{NoTarget}
use Rattle.wm_base.specs.declared.ids.ConId.{ConId}
use Rattle.wm_language.specs.declared.arguments.OutArg.{OutArg}
use Rattle.wm_shared.specs.Refusing.{error_if}
use Rattle.wm_shared.specs.Showing.{output_focused}
use Rattle.wm_shared.specs.Subject.{is_hidden, is_space}
use Rattle.wm_spaces.specs.Moving.{move_workspace_refusal, move_workspace_tree}
use Rattle.wm_spaces.specs.Outs.{output_at}
use Rattle.wm_spaces.specs.Sending.{send_to_output_refusal, send_to_output_tree}
use Rattle.wm_tree.specs.TreeValue.{TreeValue, workspace_of}

-- ---- focusing an output

-- one in the scratchpad has no workspace, and the output is to be there
abbrev pub focus_output_refusal : ConId → OutArg → TreeValue → Option Refusal
focus_output_refusal c arg t = error_if (is_hidden t c) errors.NoWorkspace (error_if (is_none (output_at c arg t)) errors.NoOutput None)

abbrev pub output_some : Option ConId → TreeValue → TreeValue
output_some None t = t
output_some (Some o) t = output_focused o t

abbrev pub focus_output_tree : ConId → OutArg → TreeValue → TreeValue
focus_output_tree c arg t = output_some (output_at c arg t) t

-- ---- sending to an output

abbrev pub to_output_refusal : Option ConId → ConId → TreeValue → Option Refusal
to_output_refusal None c t = Some (NoTarget errors.NoOutput)
to_output_refusal (Some o) c t = send_to_output_refusal c o t

-- one in the scratchpad has no workspace, a workspace is not sent, and the output is to be there
abbrev pub move_to_output_refusal : ConId → OutArg → TreeValue → Option Refusal
move_to_output_refusal c arg t =
    error_if (is_hidden t c) errors.NoWorkspace (error_if (is_space t c) errors.AtWorkspace (to_output_refusal (output_at c arg t) c t))

abbrev pub to_output_tree : Option ConId → ConId → TreeValue → TreeValue
to_output_tree None c t = t
to_output_tree (Some o) c t = send_to_output_tree c o t

abbrev pub move_to_output_tree : ConId → OutArg → TreeValue → TreeValue
move_to_output_tree c arg t = to_output_tree (output_at c arg t) c t

-- ---- moving a workspace to an output

abbrev pub to_named_refusal : Option ConId → Option ConId → TreeValue → Option Refusal
to_named_refusal None w t = Some (NoTarget errors.NoOutput)
to_named_refusal (Some o) None t = None
to_named_refusal (Some o) (Some w) t = move_workspace_refusal w o t

-- one in the scratchpad has no workspace, and the output is to be there
abbrev pub move_space_refusal : ConId → OutArg → TreeValue → Option Refusal
move_space_refusal c arg t = error_if (is_hidden t c) errors.NoWorkspace (to_named_refusal (output_at c arg t) (workspace_of t c) t)

abbrev pub to_named_tree : Option ConId → Option ConId → TreeValue → TreeValue
to_named_tree None w t = t
to_named_tree (Some o) None t = t
to_named_tree (Some o) (Some w) t = move_workspace_tree w o t

-- the workspace of c goes to the output
abbrev pub move_space_tree : ConId → OutArg → TreeValue → TreeValue
move_space_tree c arg t = to_named_tree (output_at c arg t) (workspace_of t c) t
