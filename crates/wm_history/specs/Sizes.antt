-- What a caller owes of a step.
use Rattle.std.specs.Prelude.{◌≤◌, IsTrue, Option, None, Some, length}
use Rattle.std.specs.List.{list_all}
use Rattle.wm_criteria.specs.declared.prepared.Prepared.{Prepared}
use Rattle.wm_criteria.specs.Prepared.{is_built}
use Rattle.wm_layouts.specs.Plan.{IsFitEdges}
use Rattle.wm_layouts.specs.Sizes.{IsFitSize}
use Rattle.wm_history.specs.declared.step.Choice.{Choice}
use Rattle.wm_history.specs.declared.step.Step.{Step}
use Rattle.wm_history.specs.declared.step.Step.TheVariants.{Run, Map, Close, Retitle, Urgent, Gone, OutputAdd, OutputRemove, Reserve, Client, Key, Tick}

-- the patterns of the text that a map brings are built
abbrev pub IsFitThen : Option Prepared → Type 0
IsFitThen None = Unit {0}
IsFitThen (Some text) = IsTrue (is_built text)

-- a text's patterns are built, reserved edges are within their limits, and a tick has at most 4,096 bytes; the rectangle of
-- an output may be any
abbrev pub IsFitStep : Step → Type 0
IsFitStep (Run prepared) = IsTrue (is_built prepared)
IsFitStep (Map props buffer then) = IsFitSize buffer.size × IsFitThen then
IsFitStep (Close con) = Unit {0}
IsFitStep (Retitle con title) = Unit {0}
IsFitStep (Urgent con on) = Unit {0}
IsFitStep Gone = Unit {0}
IsFitStep (OutputAdd plan) = IsFitEdges plan.reserved
IsFitStep (OutputRemove name) = Unit {0}
IsFitStep (Reserve name edges) = IsFitEdges edges
IsFitStep (Client step) = Unit {0}
IsFitStep (Tick payload) = length payload ≤ 4096
IsFitStep (Key chord choices) = IsTrue (list_all (λ (c : Choice). is_built c.prepared) choices)
