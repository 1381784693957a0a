use Rattle.std.proofs.Common.{◌≡◌, ◌+◌, ◌≤◌, length}
use Rattle.wm_fields.specs.Split.{lines_of}
use Rattle.wm_binds.specs.Blocks.{blank_draft}
use Rattle.wm_binds.specs.Letters.{end}
use Rattle.wm_binds.specs.LettersReading.{read_by}
use Rattle.wm_binds.proofs.reading.read_lines.Given as goal

-- what is read of the lines that are left is what is read of all
abbrev pub invariant-loop-rest : goal.invariant-loop-rest
invariant-loop-rest l = record {
  counted : l.count + length l.rest ≤ length l.bytes;
  read : read_by l.count l.names l.draft (lines_of l.rest) ≡ read_by 0 end blank_draft (lines_of l.bytes);
}

abbrev pub decreases-loop-rest : goal.decreases-loop-rest
decreases-loop-rest l = length l.rest
