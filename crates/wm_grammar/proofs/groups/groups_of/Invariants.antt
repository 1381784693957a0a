use Rattle.std.proofs.Common.{◌≡◌, length, suc}
use Rattle.wm_grammar.specs.Reading.{groups_at}
use Rattle.wm_grammar.proofs.Loops.{with_groups}
use Rattle.wm_grammar.proofs.groups.groups_of.Given as goal

abbrev pub invariant-loop-rest : goal.invariant-loop-rest
invariant-loop-rest l = with_groups l.groups.items (groups_at (suc l.left) l.rest) ≡ groups_at (suc (length l.text)) l.text

abbrev pub decreases-loop-rest : goal.decreases-loop-rest
decreases-loop-rest l = suc l.left
