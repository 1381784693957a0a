use denote.Param.Send.{sendable}
use Rattle.wm_book.proofs.DeskCrossing.{desk_send, desk_sync}
use Rattle.wm_book.proofs.tests.sight.a_caller_sees_what_its_window_is_asked.Goals as goal

pub told-requires-send-V : goal.told-requires-send-V
told-requires-send-V g c κs = search (desk_send, sendable)

pub told-requires-sync-V : goal.told-requires-sync-V
told-requires-sync-V g c κs = search (desk_sync, sendable)
