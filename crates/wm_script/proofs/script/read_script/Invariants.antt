use Rattle.std.proofs.Common.{◌≡◌, ◌+◌, ◌≤◌, length}
use Rattle.wm_fields.specs.Split.{lines_of}
use Rattle.wm_script.specs.Script.{script, script_from, IsFitReading}
use Rattle.wm_script.proofs.script.read_script.Given as goal

-- what was read so far, and what is left, make the script
abbrev pub invariant-loop-rest : goal.invariant-loop-rest
invariant-loop-rest l = record {
  counted : l.count + length l.rest ≤ length l.bytes;
  few : length l.reading.lines + length l.rest ≤ length l.bytes;
  fit : IsFitReading l.reading;
  read : script_from l.count l.reading (lines_of l.rest) ≡ script l.bytes;
}

abbrev pub decreases-loop-rest : goal.decreases-loop-rest
decreases-loop-rest l = length l.rest
