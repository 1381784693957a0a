-- What the tool writes of the steps that a number makes.
use Rattle.std.specs.Prelude.{◌≡◌, ℕ, List, [], Option}
use Rattle.wm_history.specs.Look.{state}
use Rattle.wm_generate.specs.Numbers.{numbers}
use Rattle.wm_generate.specs.Steps.{history_of}
use Rattle.wm_lines.specs.Told.{state_text}
use Rattle.wm_ports.specs.Told.{TakesAll, TakesPart}
use Rattle.wm_tool.specs.declared.status.Status.{Status}
use Rattle.wm_tool.specs.declared.status.Status.TheVariants.{Done, WriteFault, NoMemory}
use Rattle.wm_tool.specs.Output.{start}

-- the lines of how far a desk of the standard plan is after so many steps from the number on
abbrev pub out_generate : ℕ → ℕ → List ℕ
out_generate seed count = state_text (state start (history_of start (numbers count seed) []))

-- what a run that ended so wrote of it; it ends in no other way
abbrev pub Sums : ℕ → ℕ → Status → Option (List ℕ) → Option (List ℕ) → Type 0
Sums seed count (Done refused) old new = (refused ≡ []) × TakesAll old new (out_generate seed count)
Sums seed count WriteFault old new = TakesPart old new (out_generate seed count)
Sums seed count NoMemory old new = TakesPart old new (out_generate seed count)
Sums seed count status old new = ⊥
