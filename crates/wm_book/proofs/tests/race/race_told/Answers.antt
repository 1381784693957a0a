use denote.Param.Send.{sendable}
use Rattle.wm_book.proofs.DeskCrossing.{recorded_send, recorded_sync}
use Rattle.wm_book.proofs.tests.race.race_told.Goals as goal

pub raced-requires-send-V : goal.raced-requires-send-V
raced-requires-send-V g c κs = search (recorded_send, sendable)

pub raced-requires-sync-V : goal.raced-requires-sync-V
raced-requires-sync-V g c κs = search (recorded_sync, sendable)
