-- What each actor of a server did with its pass, and with what it was given.
use Rattle.std.specs.Prelude.{◌≡◌, ℕ, Bool, true, false, nat_lt, Option}
use Rattle.wm_actors.specs.Clients.{NO_LOG, Serves}
use Rattle.wm_actors.specs.Clients as lines
use Rattle.wm_actors.specs.Ipc.{failure_of}
use Rattle.wm_actors.specs.Worked.{Worked, gate}
use Rattle.wm_actors.specs.Works.{spot}
use Rattle.wm_actors.specs.declared.ending.ActorEnd.{ActorEnd}
use Rattle.wm_core.specs.Passes.{Pass}
use Rattle.wm_criteria.specs.Building.{Log}
use Rattle.wm_ports.specs.Linking.{LinkTold}
use Rattle.wm_ports.specs.Listening.{ListenTold}
use Rattle.wm_session.specs.Served.{Served}

-- the pass is one of the door, and its caller is not within a call
pub record IsReady {P : Type 0} (is_of : P → Type 0) (carried : P → Pass) (pass : P) : Type 0 where
  pub door : is_of pass
  pub no_turn : (carried pass).turn ≡ false

-- what links and listeners tell, how their faults are counted, which passes are of the door, and what a caller carries by one
module _ {L A P : Type 0} (link_told : L → Option LinkTold) (link_faults : L → ℕ) (told : A → Option (ListenTold L)) (faults : A → ℕ)
    (is_of : P → Type 0) (carried : P → Pass) where
  -- a worker served i3-ipc clients, whose patterns were built with this log of refusals, and ended so
  pub record ServedIpc {B : Type 0} (log : B → Log) (pass : P) (listen : A) (build : B) (pass' : P) (listen' : A) (build' : B) (e : ActorEnd) : Type 0 where
    pub door : is_of pass'
    pub worked : Worked link_told link_faults Served failure_of (spot (carried pass) (log build)) (spot (carried pass') (log build'))
        (gate (told listen) (faults listen)) (gate (told listen') (faults listen')) e

  -- a worker served clients that speak lines, and ended so; it built no patterns
  pub record ServedLines {B : Type 0} (pass : P) (listen : A) (build : B) (pass' : P) (listen' : A) (build' : B) (e : ActorEnd) : Type 0 where
    pub door : is_of pass'
    pub worked : Worked link_told link_faults Serves lines.failure_of (spot (carried pass) NO_LOG) (spot (carried pass') NO_LOG)
        (gate (told listen) (faults listen)) (gate (told listen') (faults listen')) e
    pub kept : build' ≡ build

  -- what a worker did, by whether it serves i3-ipc clients
  abbrev pub ServedBy : {B : Type 0} (log : B → Log) → Bool → P → A → B → P → A → B → ActorEnd → Type 0
  ServedBy log true = ServedIpc log
  ServedBy log false = ServedLines

  -- the worker of the door with this number did what is its own: the first of them serve i3-ipc clients, the others clients
  -- that speak lines
  abbrev pub ServedAt : {B : Type 0} (log : B → Log) (ipc number : ℕ) → P → A → B → P → A → B → ActorEnd → Type 0
  ServedAt log ipc number = ServedBy log (nat_lt number ipc)
