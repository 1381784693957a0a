use Rattle.std.proofs.Common.{◌≡◌, ◌<◌, ◌-◌, length, arith, [], ◌∙◌, sym, List, ℕ, refl, None, ◌∷◌}
use Rattle.std.proofs.lemmas.List.{length-take}
use Rattle.wm_grammar.specs.Farthest.{before_last_quote}
use Rattle.wm_grammar.proofs.LastQuote.{last_quote_found, last_quote_other}
use Rattle.wm_grammar.proofs.search.before_last_quote.Goals as goal

pub loop-rest-preserved : goal.loop-rest-preserved
loop-rest-preserved c =
    let h = last_quote_other c.loop-rest.rest.now c.in-len1-up.len_at_least c.if-c-eq34.false in
    (h ∙ c.loop-rest.invariant.0, omega (arith, c.loop-rest.invariant.1, length-take (length c.loop-rest.rest.now - 1) c.loop-rest.rest.now))

pub returns-then-c-eq34-clause-front : goal.returns-then-c-eq34-clause-front
returns-then-c-eq34-clause-front c = sym (last_quote_found c.loop-rest.rest.now c.in-len1-up.len_at_least c.if-c-eq34.true) ∙ c.loop-rest.invariant.0

no_quote : (s : List ℕ) → length s < 1 → None ≡ before_last_quote s
unfolding before_last_quote
no_quote [] h = refl
no_quote (c ∷ r) h = absurd (omega arith)

pub returns-clause-front : goal.returns-clause-front
returns-clause-front c = no_quote c.loop-rest.rest.now c.in_default.len_below ∙ c.loop-rest.invariant.0
