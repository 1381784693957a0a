use denote.Param.Send.{sendable}
use Rattle.wm_book.proofs.DeskCrossing.{desk_send}
use Rattle.cases_sessions.proofs.beside.tell_together.Goals as goal

pub both_served-one-requires-send-V : goal.both_served-one-requires-send-V
both_served-one-requires-send-V g c κs = search (desk_send, sendable)
