use Rattle.wm_habits.proofs.WrittenLemmas.{ack_read, buffer_read, close_read}
use Rattle.wm_habits.proofs.laws.what_is_said_is_of_clients.Goals as goal

pub returns-clause-ack : goal.returns-clause-ack
returns-clause-ack c = ack_read

pub returns-clause-buffer : goal.returns-clause-buffer
returns-clause-buffer c = buffer_read

pub returns-clause-close : goal.returns-clause-close
returns-clause-close c = close_read
