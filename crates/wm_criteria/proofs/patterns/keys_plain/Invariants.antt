use Rattle.std.proofs.Common.{◌≡◌, length}
use Rattle.std.specs.List.{list_all}
use Rattle.wm_criteria.specs.Plain.{is_plain}
use Rattle.wm_criteria.specs.Patterns.{key_patterns}
use Rattle.wm_criteria.proofs.patterns.keys_plain.Given as goal

-- all are plain where those that are left are
abbrev pub invariant-loop-rest : goal.invariant-loop-rest
invariant-loop-rest l = list_all is_plain (key_patterns l.rest) ≡ list_all is_plain (key_patterns l.keys)

abbrev pub decreases-loop-rest : goal.decreases-loop-rest
decreases-loop-rest l = length l.rest
