-- Which ends of a session are failures of its worker.
use Rattle.std.specs.Prelude.{Option, None, Some}
use Rattle.wm_session.specs.declared.ending.SessionEnd.{SessionEnd}
use Rattle.wm_session.specs.declared.ending.SessionEnd.TheVariants as end
use Rattle.wm_actors.specs.declared.serve.Failure.{Failure}
use Rattle.wm_actors.specs.declared.serve.Failure.TheVariants as failure

-- the history took no more steps, or there was no memory
abbrev pub failure_of : SessionEnd → Option Failure
failure_of end.Exhausted = Some failure.Exhausted
failure_of end.NoMemory = Some failure.NoMemory
failure_of other = None
