use Rattle.std.proofs.Common.{◌≡◌, ◌++◌, length}
use Rattle.std.specs.Prelude.{string_bytes}
use Rattle.wm_language.specs.Spelling.{commands_text, more_commands_text}
use Rattle.wm_language.proofs.batches.put_commands.Given as goal

abbrev pub invariant-loop-rest : goal.invariant-loop-rest
invariant-loop-rest l = string_bytes l.out ++ more_commands_text l.rest ≡ string_bytes l.fn.out ++ commands_text l.commands

abbrev pub decreases-loop-rest : goal.decreases-loop-rest
decreases-loop-rest l = length l.rest
