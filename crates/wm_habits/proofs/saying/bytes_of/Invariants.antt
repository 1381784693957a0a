use Rattle.std.proofs.Common.{◌≡◌, ◌++◌, length, map, string_bytes}
use Rattle.wm_habits.specs.Saying.{line_bytes}
use Rattle.wm_habits.proofs.saying.bytes_of.Given as goal

-- the bytes so far and those of the lines that are left are those of all
abbrev pub invariant-loop-rest : goal.invariant-loop-rest
invariant-loop-rest l = record {
  all : l.bytes.items ++ line_bytes (map string_bytes l.rest) ≡ line_bytes (map string_bytes l.lines);
}

abbrev pub decreases-loop-rest : goal.decreases-loop-rest
decreases-loop-rest l = length l.rest
