use Rattle.std.proofs.Common.{◌≡◌, length}
use Rattle.std.specs.List.{list_all}
use Rattle.wm_swallow.specs.Swallowing.{key_matches}
use Rattle.wm_swallow.proofs.swallowing.all_match.Given as goal

-- all match where those that are left do
abbrev pub invariant-loop-rest : goal.invariant-loop-rest
invariant-loop-rest l = list_all (key_matches l.props) l.rest ≡ list_all (key_matches l.props) l.keys

abbrev pub decreases-loop-rest : goal.decreases-loop-rest
decreases-loop-rest l = length l.rest
