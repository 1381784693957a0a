use Rattle.std.proofs.Common.{◌+◌, ◌≤◌, length, arith, length-drop}
use Rattle.wm_ports.proofs.LinkLemmas.{sends-step}
use Rattle.wm_ports.proofs.sending.send_all.Goals as goal

pub loop-at-preserved : goal.loop-at-preserved
loop-at-preserved g c =
    let n = c.in_ok-at.field-0 in
    let within : c.loop-at.at + n ≤ length c.args.bytes.now = omega (arith, c.in_ok-at.ensures.within, length-drop c.loop-at.at c.args.bytes.now, c.loop-at.invariant.0) in
    let grown : g.L.Link.faults c.args.link.now ≤ g.L.Link.faults c.send.new.self = omega (arith, c.loop-at.invariant.2, c.send.ensures.grown) in
    (within, sends-step _ _ _ c.args.bytes.now c.loop-at.at n c.loop-at.invariant.1 c.in_ok-at.ensures.told, grown)
