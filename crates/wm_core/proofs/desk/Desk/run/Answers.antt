use Rattle.std.proofs.Common.{refl}
use Rattle.wm_history.specs.Act.{Run, text_of}
use Rattle.wm_core.proofs.desk.Desk.run.Goals as goal

pub returns : goal.returns
returns c = c.run_text.ensures (record { who = c.args.who; act = Run (text_of c.args.text.now) }) refl
