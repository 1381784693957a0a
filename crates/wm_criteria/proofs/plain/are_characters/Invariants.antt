use Rattle.std.proofs.Common.{◌≡◌, length}
use Rattle.std.specs.Prelude.{is_some}
use Rattle.wm_criteria.specs.Plain.{characters}
use Rattle.wm_criteria.proofs.plain.are_characters.Given as goal

-- the whole is one of characters where what is left is
abbrev pub invariant-loop-after : goal.invariant-loop-after
invariant-loop-after l = is_some (characters l.rest) ≡ is_some (characters l.body)

abbrev pub decreases-loop-after : goal.decreases-loop-after
decreases-loop-after l = length l.rest
