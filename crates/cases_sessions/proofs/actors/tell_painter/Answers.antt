use denote.Param.Send.{sendable}
use Rattle.wm_book.proofs.DeskCrossing.{desk_send}
use Rattle.cases_sessions.proofs.actors.tell_painter.Goals as goal

pub painted-painter-requires-send-V : goal.painted-painter-requires-send-V
painted-painter-requires-send-V g c κs = search (desk_send, sendable)
