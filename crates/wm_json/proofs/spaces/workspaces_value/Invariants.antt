use Rattle.std.proofs.Common.{◌≡◌, map, take}
use Rattle.serde_json.specs.View.{view}
use Rattle.wm_json.specs.Spaces.{workspace_data}
use Rattle.wm_json.proofs.spaces.workspaces_value.Given as goal

-- the values so far are those of the workspaces so far
abbrev pub invariant-loop-workspace : goal.invariant-loop-workspace
invariant-loop-workspace l = map view l.values.items ≡ map workspace_data (take l.workspace-index l.w)
