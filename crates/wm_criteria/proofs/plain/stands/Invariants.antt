use Rattle.std.proofs.Common.{◌≡◌, length}
use Rattle.std.specs.Prelude.{is_some, true, false}
use Rattle.std.specs.Option.{option_map_or}
use Rattle.wm_criteria.specs.Plain.{characters, stands}
use Rattle.wm_criteria.proofs.plain.stands.Given as goal

-- the characters stand at the beginning of the text where what is left of them stands at that of what is left of it
abbrev pub invariant-loop-c : goal.invariant-loop-c
invariant-loop-c l = record {
  plain : is_some (characters l.wanted) ≡ true;
  same : option_map_or (λ x. stands x.0 x.1 l.rest) (characters l.wanted) false ≡ option_map_or (λ x. stands x.0 x.1 l.text) (characters l.body) false;
}

abbrev pub decreases-loop-c : goal.decreases-loop-c
decreases-loop-c l = length l.wanted
