use Rattle.std.proofs.Common.{arith, ◌≡◌, ◌<◌, ◌≤◌, ◌∷◌, [], ◌++◌, List, ℕ, ap, ◌∙◌, length, get_or, drop, string_bytes}
use Rattle.wm_paint.specs.Escapes.{letter_of}
use Rattle.wm_paint.proofs.EscapeLemmas.{escaped_step, escaped_end, tail_of, first_behind}
use Rattle.wm_paint.proofs.escapes.push_escaped.Goals as goal

pub returns-in_default : goal.returns-in_default
returns-in_default c =
    let none : length c.split_at.result.1.now ≡ 0 = omega (arith, c.in_default.len_below, c.as_bytes.ensures.len) in
    let end = escaped_end (string_bytes c.pieces.out) _ c.pieces.rest.now c.plain_length.result c.plain_length.ensures.within (omega (arith, none, c.split_at.ensures.back_len)) c.plain_length.ensures.before c.pieces.invariant.0 in
    let put : string_bytes c.push_str.new.self ≡ string_bytes c.pieces.out ++ c.split_at.result.0.now = grind (arith, c.in_ok-push_str.ensures) in
    put ∙ (ap (λ (t : List ℕ). string_bytes c.pieces.out ++ t) c.split_at.ensures.front ∙ end)

pub split_at-requires-in-pieces : goal.split_at-requires-in-pieces
split_at-requires-in-pieces c =
    let long : 1 ≤ length c.split_at.result.1.now = omega (arith, c.in-len1-up.len_at_least, c.as_bytes.ensures.len) in
    let inside : c.plain_length.result < length c.pieces.rest.now = omega (arith, long, c.split_at.ensures.back_len) in
    let t = tail_of c.pieces.rest.now c.plain_length.result c.pieces.invariant.1 inside (c.plain_length.ensures.found inside) in
    rw c.split_at.ensures.back t.behind

pub pieces-preserved : goal.pieces-preserved
pieces-preserved c =
    let long : 1 ≤ length c.split_at.result.1.now = omega (arith, c.in-len1-up.len_at_least, c.as_bytes.ensures.len) in
    let inside : c.plain_length.result < length c.pieces.rest.now = omega (arith, long, c.split_at.ensures.back_len) in
    let hit = c.plain_length.ensures.found inside in
    let t = tail_of c.pieces.rest.now c.plain_length.result c.pieces.invariant.1 inside hit in
    let more : c.split_at-in-pieces.result.1.now ≡ drop 1 (drop c.plain_length.result c.pieces.rest.now) = c.split_at-in-pieces.ensures.back ∙ ap (λ (t : List ℕ). drop 1 t) c.split_at.ensures.back in
    let step = escaped_step (string_bytes c.pieces.out) _ c.pieces.rest.now c.plain_length.result inside c.plain_length.ensures.before hit c.pieces.invariant.0 in
    let first : get_or c.as_bytes.result.now 0 0 ≡ get_or c.pieces.rest.now c.plain_length.result 0 = ap (λ (t : List ℕ). get_or t 0 0) (c.as_bytes.ensures.value ∙ c.split_at.ensures.back) ∙ first_behind c.pieces.rest.now c.plain_length.result in
    let escape : c.escape_of.result.now ≡ 92 ∷ letter_of (get_or c.pieces.rest.now c.plain_length.result 0) ∷ [] = c.escape_of.ensures ∙ ap (λ (x : ℕ). 92 ∷ letter_of x ∷ []) first in
    let one : string_bytes c.push_str.new.self ≡ string_bytes c.pieces.out ++ c.split_at.result.0.now = grind (arith, c.in_ok-push_str.ensures) in
    let two : string_bytes c.push_str-in-pieces.new.self ≡ string_bytes c.push_str.new.self ++ c.escape_of.result.now = grind (arith, c.in_ok-push_str-2.ensures) in
    (rw (two, one, escape, c.split_at.ensures.front, more) step, rw more t.more)
