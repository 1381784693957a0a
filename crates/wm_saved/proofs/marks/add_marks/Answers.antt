use Rattle.std.proofs.Common.{arith, drop}
use Rattle.wm_saved.proofs.MarkLemmas.{with_marks-grows}
use Rattle.wm_saved.proofs.marks.add_marks.Goals as goal

pub returns-then-len-most-clause-over : goal.returns-then-len-most-clause-over
returns-then-len-most-clause-over c =
    let all = c.loop-mark.invariant in
    let grows = with_marks-grows c.loop-mark.held.items (drop c.loop-mark.mark-index c.args.marks.now) in
    grind arith
