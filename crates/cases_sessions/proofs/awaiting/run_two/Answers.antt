use denote.Param.Send.{sendable}
use Rattle.wm_book.proofs.DeskCrossing.{desk_send}
use Rattle.cases_sessions.proofs.awaiting.run_two.Goals as goal

pub run_desk-requires-send-V : goal.run_desk-requires-send-V
run_desk-requires-send-V g c κs within = search (desk_send, sendable)
