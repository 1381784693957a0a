use Rattle.std.proofs.Common.{◌≡◌, ◌+◌, ◌++◌, [], length}
use Rattle.std.specs.Prelude.{map}
use Rattle.wm_criteria.specs.Building.{Grew}
use Rattle.wm_criteria.specs.Patterns.{key_patterns, to_build}
use Rattle.wm_criteria.proofs.NumberLemmas.{IsAmong}
use Rattle.wm_criteria.proofs.forms.key_forms.Given as goal

-- the forms so far and those of the keys that are left are all; nothing was refused yet
abbrev pub invariant-loop-rest : goal.invariant-loop-rest
invariant-loop-rest g l = record {
  forms : l.forms.items ++ map to_build l.rest ≡ map to_build l.keys;
  number : l.number + length (key_patterns l.rest) ≡ l.first + length (key_patterns l.keys);
  among : IsAmong l.first (key_patterns l.keys) l.number (key_patterns l.rest);
  grew : Grew (g.B.Build.log l.initial.build) (g.B.Build.log l.build) [];
}

abbrev pub decreases-loop-rest : goal.decreases-loop-rest
decreases-loop-rest g l = length l.rest
