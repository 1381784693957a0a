use Rattle.std.proofs.Common.{◌≡◌, map, take}
use Rattle.serde_json.specs.View.{view}
use Rattle.wm_json.specs.Spaces.{output_data}
use Rattle.wm_json.proofs.spaces.outputs_value.Given as goal

-- the values so far are those of the outputs so far
abbrev pub invariant-loop-output : goal.invariant-loop-output
invariant-loop-output l = map view l.values.items ≡ map output_data (take l.output-index l.o)
