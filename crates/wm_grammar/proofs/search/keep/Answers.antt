use Rattle.std.proofs.Common.{arith, ◌≡◌, true, List, [], ◌∷◌, ◌++◌, refl, ap, ◌∙◌}
use Rattle.wm_grammar.specs.declared.search.Turn.{Turn}
use Rattle.wm_words.specs.Pieces.{starts}
use Rattle.wm_grammar.specs.Last.{last_of}
use Rattle.wm_grammar.proofs.Last.{last_push, last_alone}
use Rattle.wm_grammar.proofs.search.keep.Goals as goal
use Rattle.wm_grammar.proofs.search.keep.Goals.{then-starts, else-starts}

pub returns-clause-found : goal.returns-clause-found
returns-clause-found c =
    let pushed : c.push.new.self.items ≡ c.if-starts.turns.items ++ c.args.turn ∷ [] = grind (arith, c.in_ok-push.ensures.items) in
    ap last_of pushed ∙ elim c.if-starts.branch [
      | then-starts w ↦
          let semi : starts 59 c.args.turn.end.now ≡ true = grind (arith, w.if-starts.true) in
          last_alone c.args.turns.now.items c.if-starts.turns.items c.args.turn (rw w.turns-is w.clear.ensures.items) semi
      | else-starts w ↦ ap (λ (ts : List Turn). last_of (ts ++ c.args.turn ∷ [])) (rw w.turns-is refl) ∙ last_push c.args.turns.now.items c.args.turn
    ]
