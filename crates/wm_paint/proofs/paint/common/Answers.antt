use Rattle.std.proofs.Common.{arith}
use Rattle.std.proofs.lemmas.Int.{ints}
use Rattle.wm_paint.proofs.RowLemmas.{IsHeld, held_high, held_low, held_ordered, span_range}
use Rattle.wm_paint.proofs.paint.common.Goals as goal

pub returns-clause-ordered : goal.returns-clause-ordered
returns-clause-ordered c =
    let one : IsHeld _ c.args.count c.held-first.result = record { within = c.held-first.ensures.within; below = c.held-first.ensures.below; same = c.held-first.ensures.same; above = c.held-first.ensures.above } in
    let two : IsHeld _ c.args.count c.held-end.result = record { within = c.held-end.ensures.within; below = c.held-end.ensures.below; same = c.held-end.ensures.same; above = c.held-end.ensures.above } in
    held_ordered _ _ c.args.count c.held-first.result c.held-end.result one two (omega (arith, ints))

pub returns-clause-each : goal.returns-clause-each
returns-clause-each c = λ i lt.
    let one : IsHeld _ c.args.count c.held-first.result = record { within = c.held-first.ensures.within; below = c.held-first.ensures.below; same = c.held-first.ensures.same; above = c.held-first.ensures.above } in
    let two : IsHeld _ c.args.count c.held-end.result = record { within = c.held-end.ensures.within; below = c.held-end.ensures.below; same = c.held-end.ensures.same; above = c.held-end.ensures.above } in
    span_range c.args.start c.args.length c.args.from c.held-first.result c.held-end.result i
    (λ h. held_low _ c.args.count c.held-first.result i one lt (omega (arith, ints)))
    (λ h. held_high _ c.args.count c.held-first.result i one lt (omega (arith, ints)))
    (λ h. held_high _ c.args.count c.held-end.result i two lt (omega (arith, ints)))
    (λ h. held_low _ c.args.count c.held-end.result i two lt (omega (arith, ints)))
