use Rattle.std.proofs.Common.{◌≡◌, []}
use Rattle.wm_grammar.specs.Criteria.{keys_at}
use Rattle.wm_grammar.proofs.keys.keys_at.Given as goal

abbrev pub invariant-loop-left : goal.invariant-loop-left
invariant-loop-left l = keys_at l.left l.keys.items l.rest ≡ keys_at l.most [] l.text

abbrev pub decreases-loop-left : goal.decreases-loop-left
decreases-loop-left l = l.left
