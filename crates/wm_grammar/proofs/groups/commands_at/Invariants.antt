use Rattle.std.proofs.Common.{◌≡◌, length}
use Rattle.wm_grammar.specs.Reading.{commands_at}
use Rattle.wm_grammar.proofs.Loops.{with_commands}
use Rattle.wm_grammar.proofs.groups.commands_at.Given as goal

abbrev pub invariant-loop-left : goal.invariant-loop-left
invariant-loop-left l = with_commands l.commands.items (commands_at l.left l.rest) ≡ commands_at (length l.text) l.text

abbrev pub decreases-loop-left : goal.decreases-loop-left
decreases-loop-left l = l.left
