use Rattle.std.proofs.Common.{◌≡◌, length}
use Rattle.wm_grammar.specs.Criteria.{has_place}
use Rattle.wm_grammar.proofs.keys.has_place.Given as goal

abbrev pub invariant-loop-rest : goal.invariant-loop-rest
invariant-loop-rest l = has_place l.place l.rest ≡ has_place l.place l.keys

abbrev pub decreases-loop-rest : goal.decreases-loop-rest
decreases-loop-rest l = length l.rest
