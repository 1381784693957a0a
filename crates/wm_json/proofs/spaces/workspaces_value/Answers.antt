use Rattle.std.proofs.Common.{◌∙◌, ap, map}
use Rattle.std.proofs.lemmas.List.{take_all}
use Rattle.serde_json.specs.Data.{array}
use Rattle.serde_json.specs.View.{items_of}
use Rattle.serde_json.specs.Written.{has_float, compact_text}
use Rattle.serde_json.proofs.Views.{view-Array}
use Rattle.wm_json.specs.Spaces.{workspace_data}
use Rattle.wm_json.proofs.SpaceLemmas.{workspaces_print}
use Rattle.wm_json.proofs.spaces.workspaces_value.Goals as goal

pub returns-clause-value : goal.returns-clause-value
returns-clause-value c =
    view-Array c.loop-workspace.values
    ∙ ap (λ ds. array (items_of ds)) (c.loop-workspace.invariant ∙ ap (map workspace_data) (take_all c.loop-workspace.workspace-index c.args.w.now c.loop-workspace-test.false))

pub returns-clause-text : goal.returns-clause-text
returns-clause-text c = ap compact_text (returns-clause-value c) ∙ (workspaces_print c.args.w.now).text

pub returns-clause-whole : goal.returns-clause-whole
returns-clause-whole c = ap has_float (returns-clause-value c) ∙ (workspaces_print c.args.w.now).whole
