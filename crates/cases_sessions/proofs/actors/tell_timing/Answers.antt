use denote.Param.Send.{sendable}
use Rattle.wm_book.proofs.DeskCrossing.{desk_send}
use Rattle.cases_sessions.proofs.actors.tell_timing.Goals as goal

pub timed-end-requires-send-V : goal.timed-end-requires-send-V
timed-end-requires-send-V g c κs = search (desk_send, sendable)
