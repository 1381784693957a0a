use Rattle.std.proofs.Common.{arith, ◌≡◌, ◌<◌, ◌≤◌, ◌∷◌, [], ◌++◌, List, ℕ, ap, ◌∙◌, length, string_bytes}
use Rattle.wm_language.proofs.Escapes.{escaped_step, escaped_end, tail_of, not_empty, is_empty}
use Rattle.wm_language.proofs.writing.put_escaped.Goals as goal

pub returns-then-is_empty : goal.returns-then-is_empty
returns-then-is_empty c =
    let none : length c.split_at.result.1.now ≡ 0 = is_empty c.split_at.result.1.now (cc) in
    let end = escaped_end (string_bytes c.pieces.out) _ c.pieces.rest.now c.plain_length.result c.plain_length.ensures.within (omega (arith, none, c.split_at.ensures.back_len)) c.plain_length.ensures.before c.pieces.invariant.0 in
    let put : string_bytes c.put.new.out ≡ string_bytes c.pieces.out ++ c.split_at.result.0.now = grind (arith, c.in_ok-put.ensures) in
    put ∙ (ap (λ (t : List ℕ). string_bytes c.pieces.out ++ t) c.split_at.ensures.front ∙ end)

pub split_at-requires-in-pieces : goal.split_at-requires-in-pieces
split_at-requires-in-pieces c =
    let long : 1 ≤ length c.split_at.result.1.now = not_empty c.split_at.result.1.now (cc) in
    let inside : c.plain_length.result < length c.pieces.rest.now = omega (arith, long, c.split_at.ensures.back_len) in
    let t = tail_of c.pieces.rest.now c.plain_length.result c.pieces.invariant.1 inside (c.plain_length.ensures.found inside) in
    rw c.split_at.ensures.back t.behind

pub pieces-preserved : goal.pieces-preserved
pieces-preserved c =
    let long : 1 ≤ length c.split_at.result.1.now = not_empty c.split_at.result.1.now (cc) in
    let inside : c.plain_length.result < length c.pieces.rest.now = omega (arith, long, c.split_at.ensures.back_len) in
    let t = tail_of c.pieces.rest.now c.plain_length.result c.pieces.invariant.1 inside (c.plain_length.ensures.found inside) in
    let step = escaped_step (string_bytes c.pieces.out) _ c.pieces.rest.now c.plain_length.result inside c.plain_length.ensures.before (c.plain_length.ensures.found inside) c.pieces.invariant.0 in
    let one : string_bytes c.put.new.out ≡ string_bytes c.pieces.out ++ c.split_at.result.0.now = grind (arith, c.in_ok-put.ensures) in
    let two : string_bytes c.put-in-pieces.new.out ≡ string_bytes c.put.new.out ++ 92 ∷ [] = grind (arith, c.in_ok-put-2.ensures) in
    let three : string_bytes c.put-in-pieces-2.new.out ≡ string_bytes c.put-in-pieces.new.out ++ c.split_at-in-pieces.result.0.now = grind (arith, c.in_ok-put-3.ensures) in (
      rw (three, two, one, c.split_at-in-pieces.ensures.front, c.split_at-in-pieces.ensures.back, c.split_at.ensures.front, c.split_at.ensures.back) step,
      rw (c.split_at-in-pieces.ensures.back, c.split_at.ensures.back) t.more,
    )
