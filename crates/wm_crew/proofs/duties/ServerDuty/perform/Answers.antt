use Rattle.std.proofs.Common.{subst, sym, refl}
use Rattle.std.proofs.lemmas.Bool.{le-ltb, lt-ltb}
use Rattle.wm_crew.specs.Duties.{ServedBy}
use Rattle.wm_crew.proofs.duties.ServerDuty.perform.Goals as goal

pub returns-then-number-self : goal.returns-then-number-self
returns-then-number-self g c =
    subst (λ b. ServedBy g.L.Link.told g.L.Link.faults g.A.Listen.told g.A.Listen.faults (g.D.Door.is_of c.args.self.now.door.now) g.D.Door.carried g.B.Build.log b
    c.args.pass.now c.args.listen.now c.args.build.now c.ipc_worker.new.pass c.ipc_worker.new.listen c.ipc_worker.new.build c.ipc_worker.result)
    (sym (lt-ltb c.args.number c.args.self.now.ipc c.if-number-self.true)) (record { door = c.ipc_worker.ensures.door; worked = c.ipc_worker.ensures.worked })

pub returns-else-number-self : goal.returns-else-number-self
returns-else-number-self g c =
    subst (λ b. ServedBy g.L.Link.told g.L.Link.faults g.A.Listen.told g.A.Listen.faults (g.D.Door.is_of c.args.self.now.door.now) g.D.Door.carried g.B.Build.log b
    c.args.pass.now c.args.listen.now c.args.build.now c.client_worker.new.pass c.client_worker.new.listen c.args.build.now c.client_worker.result)
    (sym (le-ltb c.args.number c.args.self.now.ipc c.if-number-self.false)) (record { door = c.client_worker.ensures.door; worked = c.client_worker.ensures.worked; kept = refl })
