use Rattle.std.proofs.Common.{false, inl, refl, subst, sym}
use Rattle.wm_session.specs.Served.{stage}
use Rattle.wm_session.specs.Serving.{Between}
use Rattle.wm_session.proofs.HearLemmas.{between_first}
use Rattle.wm_session.proofs.GoingLemmas.{START, going_first, going_part, served_no_memory}
use Rattle.wm_session.proofs.serving.session.Goals as goal

pub returns-in_default-clause-served : goal.returns-in_default-clause-served
returns-in_default-clause-served g c =
    let first = stage (g.D.Door.carried c.args.pass.now) (g.L.Link.told c.args.link.now) (g.L.Link.faults c.args.link.now) (g.B.Build.log c.args.build.now) in
    served_no_memory first first START (going_part first first START (going_first first)) (inl refl)

pub loop-init : goal.loop-init
loop-init g c =
    let first = stage (g.D.Door.carried c.args.pass.now) (g.L.Link.told c.args.link.now) (g.L.Link.faults c.args.link.now) (g.B.Build.log c.args.build.now) in
    record {
      door = c.requires.ready.0;
      turn = c.requires.ready.1;
      queue = c.in-Ok.ensures.queue;
      whole = c.in-Ok.ensures.fault;
      heard = c.in-Ok.ensures.heard;
      room = c.in-Ok.ensures.room;
      goes = subst (λ talk. Between first first talk c.in-Ok.hearer.decoder false) (sym c.new-teller.ensures) (between_first first c.in-Ok.hearer.decoder c.in-Ok.ensures.stands c.in-Ok.ensures.queue);
    }
