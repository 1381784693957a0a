-- The kinds of events.
use Rattle.std.specs.Prelude.{ℕ}
use Rattle.wm_json.specs.declared.views.EventBody.{EventBody}
use Rattle.wm_json.specs.declared.views.EventBody.TheVariants as body

-- the number of the type of an event that tells this, without the highest bit
abbrev pub kind_of : EventBody → ℕ
kind_of (body.Workspace change current before) = 0
kind_of body.Output = 1
kind_of (body.Mode change) = 2
kind_of (body.Window change container) = 3
kind_of (body.Binding command mask symbol) = 5
kind_of body.Shutdown = 6
kind_of (body.Tick first payload) = 7
