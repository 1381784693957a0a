use Rattle.std.proofs.Common.{arith}
use Rattle.std.proofs.lemmas.Int.{ints}
use Rattle.wm_paint.proofs.SpanLemmas.{span_has}
use Rattle.wm_paint.proofs.pixels.offset.Goals as goal

pub returns-then-gap-from-clause-inside : goal.returns-then-gap-from-clause-inside
returns-then-gap-from-clause-inside c =
    (span_has c.args.start c.args.length c.args.place (omega (arith, ints)) (omega (arith, ints)), omega (arith, ints))
