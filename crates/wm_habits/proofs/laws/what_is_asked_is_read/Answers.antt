use Rattle.wm_habits.proofs.WrittenLemmas.{configure_read, kill_read}
use Rattle.wm_habits.proofs.laws.what_is_asked_is_read.Goals as goal

pub returns-clause-configure : goal.returns-clause-configure
returns-clause-configure c = configure_read

pub returns-clause-kill : goal.returns-clause-kill
returns-clause-kill c = kill_read
