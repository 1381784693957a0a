use Rattle.std.proofs.Common.{◌≡◌, length}
use Rattle.std.specs.Prelude.{false}
use Rattle.std.specs.Option.{option_map_or}
use Rattle.wm_criteria.specs.Plain.{characters, is_part}
use Rattle.wm_criteria.proofs.plain.is_part.Given as goal

-- the characters are a part of the text where they are one of what is left of it
abbrev pub invariant-loop-rest : goal.invariant-loop-rest
invariant-loop-rest l = option_map_or (λ x. is_part x.0 x.1 l.rest) (characters l.body) false ≡ option_map_or (λ x. is_part x.0 x.1 l.text) (characters l.body) false

abbrev pub decreases-loop-rest : goal.decreases-loop-rest
decreases-loop-rest l = length l.rest
