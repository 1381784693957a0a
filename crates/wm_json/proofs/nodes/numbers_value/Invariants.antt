use Rattle.std.proofs.Common.{◌≡◌, map, take}
use Rattle.serde_json.specs.View.{view}
use Rattle.wm_json.specs.Objects.{whole_number}
use Rattle.wm_json.proofs.nodes.numbers_value.Given as goal

-- the values so far are those of the numbers so far
abbrev pub invariant-loop-number : goal.invariant-loop-number
invariant-loop-number l = map view l.values.items ≡ map whole_number (take l.number-index l.numbers)
