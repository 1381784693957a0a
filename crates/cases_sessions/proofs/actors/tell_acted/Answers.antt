use denote.Param.Send.{sendable}
use Rattle.wm_book.proofs.DeskCrossing.{desk_send}
use Rattle.cases_sessions.proofs.actors.tell_acted.Goals as goal

pub acted-client-requires-send-V : goal.acted-client-requires-send-V
acted-client-requires-send-V g c κs = search (desk_send, sendable)
