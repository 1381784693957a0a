use Rattle.std.proofs.Common.{◌+◌, ◌≤◌, length, arith, length-drop}
use Rattle.wm_ports.proofs.ToldLemmas.{takes-step}
use Rattle.wm_ports.proofs.whole.write_all.Goals as goal

pub loop-at-preserved : goal.loop-at-preserved
loop-at-preserved g c =
    let n = c.in_ok-at.field-0 in
    let within : c.loop-at.at + n ≤ length c.args.bytes.now = omega (arith, c.in_ok-at.ensures.within, length-drop c.loop-at.at c.args.bytes.now, c.loop-at.invariant.0) in
    let counted : g.W.Sink.faults c.args.sink.now ≤ g.W.Sink.faults c.write.new.self = omega (arith, c.loop-at.invariant.2, c.write.ensures.counted) in
    (within, takes-step _ _ _ _ c.args.bytes.now c.loop-at.at n c.loop-at.invariant.1 c.in_ok-at.ensures.bytes, counted)
