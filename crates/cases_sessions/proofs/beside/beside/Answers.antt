use denote.Param.Send.{sendable}
use Rattle.wm_book.proofs.DeskCrossing.{desk_send}
use Rattle.cases_sessions.proofs.beside.beside.Goals as goal

pub served_beside-client-requires-send-V : goal.served_beside-client-requires-send-V
served_beside-client-requires-send-V g c κs = search (desk_send, sendable)
