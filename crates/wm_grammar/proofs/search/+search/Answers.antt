use Rattle.std.proofs.Common.{arith, ◌≡◌, ◌<◌, ℕ, Option, Some, None, [], ◌∷◌, ◌++◌, ◌∙◌, subst, length}
use Rattle.std.specs.Prelude.{IfOk}
use Rattle.std.proofs.lemmas.List.Elements.{All-nil, All-same, All-pop}
use Rattle.wm_grammar.specs.declared.search.Turn.{Turn}
use Rattle.wm_grammar.specs.Farthest.{farthest}
use Rattle.wm_grammar.specs.Last.{at_turn, last_of}
use Rattle.wm_grammar.specs.Turns.{turn_at}
use Rattle.wm_grammar.proofs.Bounds.{found_within, search_none, search_stop, search_end, search_more}
use Rattle.wm_grammar.proofs.Last.{last_nil, last_some, last_none, last_empty}
use Rattle.wm_grammar.proofs.search.+search.Goals as goal

pub farthest-loop-left-init : goal.farthest-loop-left-init
farthest-loop-left-init t c =
    let none : c.new-turns.result.items ≡ [] = grind (arith, c.new-turns.ensures) in
    (last_nil c.new-turns.result.items (farthest c.args.most c.args.fresh c.args.text.now) none, omega arith, All-same (λ (u : Turn). u.left < c.args.most) c.new-turns.result.items [] none (All-nil (λ (u : Turn). u.left < c.args.most)))

pub farthest-returns-in_default-clause-found : goal.farthest-returns-in_default-clause-found
farthest-returns-in_default-clause-found t c =
    let none : turn_at c.loop-left.at_front c.loop-left.rest.now ≡ None = grind (arith, c.in_ok-end.ensures) in
    let last : last_of c.loop-left.turns.items ≡ farthest c.args.most c.args.fresh c.args.text.now = search_stop c.loop-left.left c.loop-left.at_front c.loop-left.rest.now (last_of c.loop-left.turns.items) (farthest c.args.most c.args.fresh c.args.text.now) c.loop-left-test.true none c.loop-left.invariant.0 in
    subst (λ (all : Option ℕ). IfOk c.last_found.result (λ o. o ≡ all)) last c.last_found.ensures

pub farthest-returns-in_default-clause-within : goal.farthest-returns-in_default-clause-within
farthest-returns-in_default-clause-within t c = found_within c.args.most c.args.fresh c.args.text.now c.last_found.result (farthest-returns-in_default-clause-found t c)

pub farthest-returns-in_default-end-clause-found : goal.farthest-returns-in_default-end-clause-found
farthest-returns-in_default-end-clause-found t c =
    let some : turn_at c.loop-left.at_front c.loop-left.rest.now ≡ Some c.in-Some.end.now = grind (arith, c.in_ok-end.ensures) in
    let last : last_of c.keep.new.turns.items ≡ farthest c.args.most c.args.fresh c.args.text.now = c.in_ok-keep.ensures.found ∙ search_end c.loop-left.left c.loop-left.at_front c.loop-left.rest.now c.in-Some.end.now (last_of c.loop-left.turns.items) (farthest c.args.most c.args.fresh c.args.text.now) c.loop-left-test.true some c.in_default-end.len_below c.loop-left.invariant.0 in
    subst (λ (all : Option ℕ). IfOk c.last_found-in_default-end.result (λ o. o ≡ all)) last c.last_found-in_default-end.ensures

pub farthest-returns-in_default-end-clause-within : goal.farthest-returns-in_default-end-clause-within
farthest-returns-in_default-end-clause-within t c = found_within c.args.most c.args.fresh c.args.text.now c.last_found-in_default-end.result (farthest-returns-in_default-end-clause-found t c)

pub farthest-loop-left-preserved : goal.farthest-loop-left-preserved
farthest-loop-left-preserved t c =
    let some : turn_at c.loop-left.at_front c.loop-left.rest.now ≡ Some c.in-Some.end.now = grind (arith, c.in_ok-end.ensures) in (
      rw c.in_ok-keep.ensures.found (search_more c.loop-left.left c.loop-left.at_front c.loop-left.rest.now c.in-Some.end.now (last_of c.loop-left.turns.items) (farthest c.args.most c.args.fresh c.args.text.now) c.loop-left-test.true some c.in-len1-up.len_at_least c.loop-left.invariant.0),
      omega (arith, c.loop-left.invariant.1),
      c.in_ok-keep.ensures.below c.args.most c.loop-left.invariant.2 (omega (arith, c.loop-left.invariant.1)),
    )

pub farthest-returns-clause-found : goal.farthest-returns-clause-found
farthest-returns-clause-found t c =
    let last : last_of c.loop-left.turns.items ≡ farthest c.args.most c.args.fresh c.args.text.now = search_none c.loop-left.left c.loop-left.at_front c.loop-left.rest.now (last_of c.loop-left.turns.items) (farthest c.args.most c.args.fresh c.args.text.now) (omega (arith, c.loop-left-test.false)) c.loop-left.invariant.0 in
    subst (λ (all : Option ℕ). IfOk c.last_found-2.result (λ o. o ≡ all)) last c.last_found-2.ensures

pub farthest-returns-clause-within : goal.farthest-returns-clause-within
farthest-returns-clause-within t c = found_within c.args.most c.args.fresh c.args.text.now c.last_found-2.result (farthest-returns-clause-found t c)

pub last_found-returns-in-Some-2 : goal.last_found-returns-in-Some-2
last_found-returns-in-Some-2 t c =
    let taken : c.loop-turn.turns.items ≡ c.pop.new.self.items ++ c.in-Some.turn ∷ [] = grind (arith, c.in-Some.ensures.items) in
    let got : at_turn c.in-Some.turn ≡ Some c.in-Some-2.n = grind (arith, c.in_ok-n.ensures) in
    last_some c.loop-turn.turns.items c.pop.new.self.items c.in-Some.turn c.in-Some-2.n (last_of c.args.turns.items) taken got c.loop-turn.invariant.0

pub last_found-loop-turn-preserved : goal.last_found-loop-turn-preserved
last_found-loop-turn-preserved t c =
    let taken : c.loop-turn.turns.items ≡ c.pop.new.self.items ++ c.in-Some.turn ∷ [] = grind (arith, c.in-Some.ensures.items) in
    let got : at_turn c.in-Some.turn ≡ None = grind (arith, c.in_ok-n.ensures) in
    (last_none c.loop-turn.turns.items c.pop.new.self.items c.in-Some.turn (last_of c.args.turns.items) taken got c.loop-turn.invariant.0, (All-pop (λ (u : Turn). u.left < c.args.most) c.loop-turn.turns.items c.pop.new.self.items (Some c.in-Some.turn) taken c.loop-turn.invariant.1).0)

pub last_found-returns : goal.last_found-returns
last_found-returns t c =
    let empty : length c.loop-turn.turns.items ≡ 0 = grind (arith, c.in_default.ensures.cases) in
    last_empty c.loop-turn.turns.items (last_of c.args.turns.items) empty c.loop-turn.invariant.0
