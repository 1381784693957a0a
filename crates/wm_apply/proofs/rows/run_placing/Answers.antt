use Rattle.wm_apply.proofs.rows.run_placing.Goals as goal

pub returns-in_default : goal.returns-in_default
returns-in_default c = c.run_sizing.ensures c.args.env.now c.args.how
