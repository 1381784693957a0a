use Rattle.std.proofs.Common.{inl, refl}
use Rattle.wm_clients.specs.Served.{stage}
use Rattle.wm_clients.proofs.EndLemmas.{ends_no_memory}
use Rattle.wm_clients.proofs.GoingLemmas.{START, going_first, going_part}
use Rattle.wm_clients.proofs.HearLemmas.{between_from, few_first, part_first}
use Rattle.wm_clients.proofs.serving.converse.Goals as goal

pub returns-in_default-clause-ends : goal.returns-in_default-clause-ends
returns-in_default-clause-ends g c =
    let first = stage (g.D.Door.carried c.args.pass.now) (g.L.Link.told c.args.link.now) (g.L.Link.faults c.args.link.now) in
    ends_no_memory first first START (going_part first first START (going_first first)) (inl refl)

pub loop-init : goal.loop-init
loop-init g c =
    let first = stage (g.D.Door.carried c.args.pass.now) (g.L.Link.told c.args.link.now) (g.L.Link.faults c.args.link.now) in
    record {
      door = c.requires.ready.0;
      turn = c.requires.ready.1;
      part = part_first c.in-Ok.hearer.cutter c.in-Ok.ensures.pending;
      room = c.in-Ok.ensures.room;
      few = few_first c.new-teller.result.lines first.pass.seen c.new-teller.ensures.lines;
      goes = between_from first c.new-teller.result.sent c.new-teller.result.lines c.in-Ok.hearer.cutter c.new-teller.ensures.sent c.new-teller.ensures.lines c.in-Ok.ensures.pending;
    }
