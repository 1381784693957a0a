use Rattle.std.proofs.Common.{subst, sym}
use Rattle.wm_session.specs.Called.{Called}
use Rattle.wm_session.proofs.calling.make_call.Goals as goal

pub returns-in-Tick-clause-called : goal.returns-in-Tick-clause-called
returns-in-Tick-clause-called g c =
    let log = g.B.Build.log c.args.build.now in
    subst (λ call. Called (g.D.Door.carried c.args.pass.now) (g.D.Door.carried c.tick.new.pass) call log log c.tick.result) (sym c.in-Tick.is) (c.tick.ensures.called log)

pub returns-in-Look-clause-called : goal.returns-in-Look-clause-called
returns-in-Look-clause-called g c =
    let log = g.B.Build.log c.args.build.now in
    subst (λ call. Called (g.D.Door.carried c.args.pass.now) (g.D.Door.carried c.see.new.pass) call log log c.see.result) (sym c.in-Look.is) (c.see.ensures.called log)
