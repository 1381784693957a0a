use Rattle.std.proofs.Common.{arith, ◌≡◌, ap, ◌∙◌, ◌∷◌, [], ◌++◌, List, ℕ}
use Rattle.wm_words.specs.Pieces.{unquote}
use Rattle.wm_words.proofs.Pieces.{unquote-step, with_front}
use Rattle.wm_words.proofs.words.unquote.Goals as goal

pub loop-rest-preserved : goal.loop-rest-preserved
loop-rest-preserved c =
    let pushed : c.push.new.self.items ≡ c.loop-rest.bytes.items ++ c.unescape-byte.result.0 ∷ [] = grind (arith, c.in_ok-push.ensures.items) in
    ap (λ (front : List ℕ). with_front front (unquote c.unescape-byte.result.1.now)) pushed
    ∙ unquote-step c.loop-rest.bytes.items c.loop-rest.rest.now c.unescape-byte.result.1.now c.unescape-byte.result.0 _ c.in-len1-up.len_at_least (c.unescape-byte.ensures.unquoted c.if-c-eq34.false) c.loop-rest.invariant
