use Rattle.std.proofs.Common.{◌≡◌, length}
use Rattle.std.specs.List.{list_any}
use Rattle.wm_criteria.specs.Searching.{searches}
use Rattle.wm_criteria.proofs.holds.some_mark.Given as goal

-- some mark matches where one of those that are left does
abbrev pub invariant-loop-rest : goal.invariant-loop-rest
invariant-loop-rest l = list_any (searches l.pattern) l.rest ≡ list_any (searches l.pattern) l.marks

abbrev pub decreases-loop-rest : goal.decreases-loop-rest
decreases-loop-rest l = length l.rest
