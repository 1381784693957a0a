-- The value of a desk, and the histories that it stands for.
use Rattle.std.specs.Prelude.{◌≡◌, ℕ, true, false, ◌||◌, Bool, List, [], ◌∷◌, length, Option, refl}
use Rattle.std.specs.Coded.{Coded, code_by, coded×, coded_ℕ, coded_bool, coded_list}
use Rattle.wm_tree.specs.Sound.{IsSound}
use Rattle.wm_base.specs.declared.ids.ConId.{ConId}
use Rattle.wm_tree.specs.TreeValue.{TreeValue, tree_code}
use Rattle.wm_layouts.specs.contracts.plan.Plan as plan
use Rattle.wm_layouts.specs.declared.plan.Plan.{Plan}
use Rattle.wm_txn.specs.History.{is_open, was_open}
use Rattle.wm_txn.specs.Machine.{TxnValue, judge_ack, txn_code}
use Rattle.wm_txn.specs.Stands as transactions
use Rattle.wm_txn.specs.Windows.{find}
use Rattle.wm_opens.specs.Opens.{is_window_of, may_open}
use Rattle.wm_history.specs.Follows.{kill_in}
use Rattle.wm_kept.specs.Log.{Log, kept_of, log_code}
use Rattle.wm_history.specs.Effect.{Judge, mode_after}
use Rattle.wm_history.specs.Events.{events}
use Rattle.wm_history.specs.History.{Entry, Start, entries, first, kill_of, mode, opening_of, stopped, tree}

pub record DeskValue : Type 0 where
  -- the opening plan
  pub plan : Plan
  -- how many steps were taken
  pub steps : ℕ
  -- the tree after them
  pub tree : TreeValue
  -- the transactions after them
  pub txn : TxnValue
  -- the mode after them
  pub mode : List ℕ
  -- whether a command said that the desk is to stop
  pub stopped : Bool
  -- the events that are kept, and the number of the last one
  pub events : Log
  -- by the id of a window, the number of the last step that asked it to close, where it is not forgotten
  pub kills : List (ℕ × ℕ)

-- the desk with this mode set, if any, and these events
abbrev pub in_mode : Option (List ℕ) → Log → DeskValue → DeskValue
in_mode set log d = record d { mode = mode_after set d.mode; events = log }

-- v is a window of the tree, or may become one
abbrev pub may_come : TreeValue → ConId → Bool
may_come t v = is_window_of t v || may_open t v

-- what the transactions answer to an acknowledgement
abbrev pub judge_of : TxnValue → Judge
judge_of txn v serial = judge_ack txn.number serial (find v txn.windows)

-- the tree after a history is sound, and its windows are those that are open
pub record IsInStep (start : Start) (history : List Entry) : Type 0 where
  pub sound : IsSound (tree start history)
  pub open_is : (v : ConId) → is_open (first start) v (entries start history) ≡ is_window_of (tree start history) v

-- so it is after each beginning of the history
abbrev pub AreInStep : Start → List Entry → Type 0
AreInStep start [] = IsInStep start []
AreInStep start (entry ∷ history) = IsInStep start (entry ∷ history) × AreInStep start history

-- the desk stands for the history from this opening: it is what the history leaves
pub record StandsFrom (start : Start) (d : DeskValue) (history : List Entry) : Type 0 where
  pub env_is : d.plan.env ≡ start.env
  pub config_is : d.plan.config ≡ start.config
  pub counted : d.steps ≡ length history
  pub tree_is : d.tree ≡ tree start history
  pub in_step : AreInStep start history
  pub mode_is : d.mode ≡ mode start history
  pub stopped_is : d.stopped ≡ stopped start history
  pub events_are : d.events ≡ kept_of (events start history)
  -- of a window that is gone the number may be forgotten
  pub kills_are : (v : ConId) → may_come d.tree v ≡ true → kill_in d.kills v ≡ kill_of start history v
  pub commits : transactions.Stands (first start) (entries start history) d.txn
  -- the windows of the tree are those that are open, and none had an id that may still open
  pub open_is : (v : ConId) → is_open (first start) v (entries start history) ≡ is_window_of d.tree v
  pub given : (v : ConId) → may_open d.tree v ≡ true → was_open (first start) v (entries start history) ≡ false

-- the desk stands for the history from the opening of its plan
abbrev pub Stands : DeskValue → List Entry → Type 0
Stands d history = StandsFrom (opening_of d.plan) d history

-- ---- how the logic stores it

abbrev pub desk_code : Coded DeskValue
desk_code =
    code_by ((Plan × (ℕ × TreeValue)) × ((TxnValue × List ℕ) × (Bool × (Log × List (ℕ × ℕ)))))
    (coded× (coded× plan.the_row.coded (coded× coded_ℕ tree_code)) (coded× (coded× txn_code (coded_list coded_ℕ)) (coded× coded_bool (coded× log_code (coded_list (coded× coded_ℕ coded_ℕ))))))
    (λ d. ((d.plan, (d.steps, d.tree)), ((d.txn, d.mode), (d.stopped, (d.events, d.kills)))))
    (λ p. record { plan = p.0.0; steps = p.0.1.0; tree = p.0.1.1; txn = p.1.0.0; mode = p.1.0.1; stopped = p.1.1.0; events = p.1.1.1.0; kills = p.1.1.1.1 }) (λ _. refl)
