use Rattle.std.proofs.Common.{◌≡◌, ◌<◌, ◌≤◌, ◌+◌, ◌*◌, length}
use Rattle.std.specs.List.{All}
use Rattle.wm_words.specs.Pieces.{first_of}
use Rattle.wm_grammar.specs.Farthest.{farthest}
use Rattle.wm_grammar.specs.Last.{last_of}
use Rattle.wm_grammar.proofs.search.+search.Given as goal

abbrev pub decreases-farthest : goal.decreases-farthest
decreases-farthest l = 3 * l.most + 2

abbrev pub decreases-last_found : goal.decreases-last_found
decreases-last_found l = 3 * l.most + 1

abbrev pub decreases-here : goal.decreases-here
decreases-here l = 3 * l.left + 3

abbrev pub invariant-farthest-loop-left : goal.invariant-farthest-loop-left
invariant-farthest-loop-left l = (first_of (farthest l.left l.at_front l.rest) (last_of l.turns.items) ≡ farthest l.fn.most l.fn.fresh l.fn.text) × (l.left ≤ l.fn.most) × All (λ t. t.left < l.fn.most) l.turns.items

abbrev pub invariant-last_found-loop-turn : goal.invariant-last_found-loop-turn
invariant-last_found-loop-turn l = (last_of l.turns.items ≡ last_of l.fn.turns.items) × All (λ t. t.left < l.most) l.turns.items

abbrev pub decreases-last_found-loop-turn : goal.decreases-last_found-loop-turn
decreases-last_found-loop-turn l = length l.turns.items

abbrev pub decreases-farthest-loop-left : goal.decreases-farthest-loop-left
decreases-farthest-loop-left l = l.left
