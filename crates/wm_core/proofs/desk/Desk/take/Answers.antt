use Rattle.wm_core.proofs.desk.Desk.take.Goals as goal

pub returns-in-Ok : goal.returns-in-Ok
returns-in-Ok c = λ entry is. c.take_with.ensures entry c.args.event c.in-Ok.ensures is
