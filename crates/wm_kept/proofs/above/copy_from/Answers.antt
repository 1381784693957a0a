use Rattle.std.proofs.Common.{◌-◌, ◌++◌, drop, length, take, ap, ◌∙◌}
use Rattle.wm_kept.proofs.LogLemmas.{drop_both, rest_whole}
use Rattle.wm_kept.proofs.above.copy_from.Goals as goal

-- what is left of both parts
pub returns : goal.returns
returns c =
    let first = c.min-first.result in
    let later = c.args.start - first in
    let front = take (length c.args.front.now - first) (drop first c.args.front.now) in
    let back = take (length c.args.back.now - later) (drop later c.args.back.now) in
    let from_front = c.in_ok-copy_onto.ensures ∙ (ap (λ es. es ++ front) c.in_ok-copies.ensures.items ∙ rest_whole first c.args.front.now) in
    c.of.ensures
    ∙ (c.in_ok-copy_onto-2.ensures
    ∙ (ap (λ es. es ++ back) from_front ∙ (ap (λ es. drop first c.args.front.now ++ es) (rest_whole later c.args.back.now)
    ∙ drop_both c.args.start first c.args.front.now c.args.back.now c.min-first.ensures)))
