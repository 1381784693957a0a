use Rattle.std.proofs.Common.{arith, ◌≡◌, ◌+◌, true, length, Some, None}
use Rattle.wm_grammar.specs.Farthest.{farthest}
use Rattle.wm_grammar.proofs.Exact.{some_reach, none_reach}
use Rattle.wm_grammar.proofs.texts.reach.Goals as goal

pub returns-in-Some : goal.returns-in-Some
returns-in-Some c =
    let found : farthest (length c.args.text.now + 1) true c.args.text.now ≡ Some c.in-Some.behind = grind (arith, c.in_ok-behind.ensures.found) in
    some_reach c.args.text.now c.in-Some.behind found

pub returns-in-None : goal.returns-in-None
returns-in-None c =
    let found : farthest (length c.args.text.now + 1) true c.args.text.now ≡ None = grind (arith, c.in_ok-behind.ensures.found) in
    none_reach c.args.text.now found
