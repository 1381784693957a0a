use Rattle.std.proofs.Common.{◌≡◌, length}
use Rattle.std.specs.List.{list_any}
use Rattle.wm_swallow.specs.Swallowing.{entry_matches}
use Rattle.wm_swallow.proofs.swallowing.some_matches.Given as goal

-- some entry matches where one of those that are left does
abbrev pub invariant-loop-rest : goal.invariant-loop-rest
invariant-loop-rest l = list_any (entry_matches l.props) l.rest ≡ list_any (entry_matches l.props) l.entries

abbrev pub decreases-loop-rest : goal.decreases-loop-rest
decreases-loop-rest l = length l.rest
