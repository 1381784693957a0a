use Rattle.std.proofs.Common.{◌≡◌, ◌≤◌, length}
use Rattle.wm_grammar.specs.Farthest.{before_last_quote}
use Rattle.wm_grammar.proofs.search.before_last_quote.Given as goal

abbrev pub invariant-loop-rest : goal.invariant-loop-rest
invariant-loop-rest l = (before_last_quote l.rest ≡ before_last_quote l.text) × (length l.rest ≤ length l.text)

abbrev pub decreases-loop-rest : goal.decreases-loop-rest
decreases-loop-rest l = length l.rest
