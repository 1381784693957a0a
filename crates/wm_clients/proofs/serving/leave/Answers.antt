use Rattle.std.proofs.Common.{◌∙◌, subst, sym}
use Rattle.wm_clients.specs.Served.{ServedClient, stage}
use Rattle.wm_clients.proofs.ServedLemmas.{served_gone, served_open, served_refused}
use Rattle.wm_clients.proofs.serving.leave.Goals as goal

pub returns-then-not-closes_windows-clause-served : goal.returns-then-not-closes_windows-clause-served
returns-then-not-closes_windows-clause-served g c = λ first link faults h.
    served_open first (stage (g.D.Door.carried c.args.pass.now) link faults) c.args.end h (sym c.closes_windows.ensures ∙ c.if-not-closes_windows.true)

pub returns-in-Ok-clause-served : goal.returns-in-Ok-clause-served
returns-in-Ok-clause-served g c = λ first link faults h.
    served_gone first (stage (g.D.Door.carried c.args.pass.now) link faults) c.args.end (g.D.Door.carried c.act.new.pass) c.in-Ok.answer h (sym c.closes_windows.ensures ∙ c.if-not-closes_windows.false) c.in-Ok.ensures.acts

pub returns-in-Err-clause-served : goal.returns-in-Err-clause-served
returns-in-Err-clause-served g c = λ first link faults h.
    subst (ServedClient first (stage (g.D.Door.carried c.act.new.pass) link faults)) (sym c.from.ensures)
    (served_refused first (stage (g.D.Door.carried c.args.pass.now) link faults) c.args.end (g.D.Door.carried c.act.new.pass) c.in-Err.refusal h c.in-Err.ensures.acts)
