use Rattle.std.proofs.Common.{◌≡◌, ◌+◌, ◌++◌, [], length}
use Rattle.wm_criteria.specs.Building.{Grew}
use Rattle.wm_criteria.specs.Forms.{forms_of}
use Rattle.wm_criteria.specs.Patterns.{patterns_of}
use Rattle.wm_criteria.proofs.NumberLemmas.{IsAmong}
use Rattle.wm_criteria.proofs.forms.group_forms.Given as goal

-- the forms so far and those of the groups that are left are all; nothing was refused yet
abbrev pub invariant-loop-rest : goal.invariant-loop-rest
invariant-loop-rest g l = record {
  forms : l.all.items ++ forms_of l.rest ≡ forms_of l.groups;
  number : l.number + length (patterns_of l.rest) ≡ length (patterns_of l.groups);
  among : IsAmong 0 (patterns_of l.groups) l.number (patterns_of l.rest);
  grew : Grew (g.B.Build.log l.initial.build) (g.B.Build.log l.build) [];
}

abbrev pub decreases-loop-rest : goal.decreases-loop-rest
decreases-loop-rest g l = length l.rest
