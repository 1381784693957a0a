-- The texts of workspaces and of outputs.
use Rattle.std.proofs.Common.{List, rules}
use Rattle.wm_json.specs.Spaces.{workspace_data, workspace_fields, workspace_text, workspace_texts, workspaces_data, workspaces_text, output_data, output_fields, output_text, output_texts, outputs_data, outputs_text}
use Rattle.wm_json.specs.declared.views.OutputView.{OutputView}
use Rattle.wm_json.specs.declared.views.WorkspaceView.{WorkspaceView}
use Rattle.wm_json.proofs.PrintLemmas.{Print, Prints, prints_text, prints_number, prints_integer, prints_flag, prints_array, prints_object, prints_rect}

workspace_prints : (w : WorkspaceView) → Prints (workspace_data w) (workspace_text w)
workspace_prints w =
    let fields : Print (workspace_fields w) (workspace_texts w) = search (rules, prints_text, prints_number, prints_integer, prints_flag, prints_rect) in
    prints_object (workspace_fields w) (workspace_texts w) fields

pub workspaces_print : (ws : List WorkspaceView) → Prints (workspaces_data ws) (workspaces_text ws)
workspaces_print = prints_array workspace_data workspace_text workspace_prints

output_prints : (o : OutputView) → Prints (output_data o) (output_text o)
output_prints o =
    let fields : Print (output_fields o) (output_texts o) = search (rules, prints_text, prints_number, prints_integer, prints_flag, prints_rect) in
    prints_object (output_fields o) (output_texts o) fields

pub outputs_print : (os : List OutputView) → Prints (outputs_data os) (outputs_text os)
outputs_print = prints_array output_data output_text output_prints
