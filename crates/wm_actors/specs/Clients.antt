-- How a client's session serves a link, and which of its ends are failures of its worker.
use Rattle.std.specs.Prelude.{Option, None, Some}
use Rattle.wm_clients.specs.Served.{ServedClient}
use Rattle.wm_clients.specs.Served as client
use Rattle.wm_clients.specs.declared.ending.ClientEnd.{ClientEnd}
use Rattle.wm_clients.specs.declared.ending.ClientEnd.TheVariants as end
use Rattle.wm_criteria.specs.Building.{Log}
use Rattle.wm_session.specs.Served.{Stage}
use Rattle.wm_actors.specs.declared.serve.Failure.{Failure}
use Rattle.wm_actors.specs.declared.serve.Failure.TheVariants as failure

-- no patterns are built
abbrev pub NO_LOG : Log
NO_LOG = record { count = 0; texts = None }

-- what a client's session has to do with
abbrev pub client_stage : Stage → client.Stage
client_stage s = client.stage s.pass s.link s.faults

-- a client's session led from one stage to another, and ended so
abbrev pub Serves : Stage → Stage → ClientEnd → Type 0
Serves first now e = ServedClient (client_stage first) (client_stage now) e

-- the history took no more steps, or there was no memory
abbrev pub failure_of : ClientEnd → Option Failure
failure_of end.Exhausted = Some failure.Exhausted
failure_of end.NoMemory = Some failure.NoMemory
failure_of other = None
