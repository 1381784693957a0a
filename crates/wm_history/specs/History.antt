-- The history of a desk: the steps of its callers, the newest first, and what they leave.
use Rattle.std.specs.Prelude.{ℕ, ◌+◌, ◌||◌, Bool, false, if◌then◌else◌, List, [], ◌∷◌, length, Option, None, Some, codes}
use Rattle.std.specs.List.{list_any}
use Rattle.wm_arrange.specs.Arranged.{arranged}
use Rattle.wm_base.specs.declared.ids.Buffer.{Buffer}
use Rattle.wm_base.specs.declared.ids.ConId.{ConId}
use Rattle.wm_forest.specs.Look.{same}
use Rattle.wm_tree.specs.TreeValue.{TreeValue, opening}
use Rattle.wm_layouts.specs.declared.plan.Env.{Env}
use Rattle.wm_layouts.specs.declared.plan.Plan.{Plan}
use Rattle.wm_history.specs.declared.step.Answer.{Answer}
use Rattle.wm_history.specs.Act.{Act}
use Rattle.wm_history.specs.Effect.{Effect, Judge, effect, mode_after}
use Rattle.wm_txn.specs.Accepted.{ack_answer, accepted}
use Rattle.wm_txn.specs.History as commits

-- what a step says, and the number of its caller
pub record Entry : Type 0 where
  pub who : ℕ
  pub act : Act

-- the steps that were taken, the newest first
abbrev pub History : Type 0
History = List Entry

-- with what a desk starts: its tree, what commands find beside it, the mode, the text of the configuration, and its windows, each with the buffer that it has
pub record Start : Type 0 where
  pub opened : TreeValue
  pub env : Env
  pub mode : List ℕ
  pub config : List ℕ
  pub windows : List (ConId × Buffer)

-- the opening tree of a plan, which has no windows, what commands find beside it, the mode `default`, and the text of its configuration
abbrev pub opening_of : Plan → Start
opening_of plan = record { opened = opening plan.outputs plan.border plan.inner plan.outer; env = plan.env; mode = codes "default"; config = plan.config; windows = [] }

-- what an entry does in this mode to a tree
abbrev pub done_by : Env → List ℕ → TreeValue → Entry → Effect
done_by env mode t entry = effect env mode t entry.who entry.act

-- ---- what a history leaves

-- a tree, and the mode in which it is
pub record Scene : Type 0 where
  pub tree : TreeValue
  pub mode : List ℕ

-- the scene after an effect: the tree that it leaves, and the mode that it sets, if any
abbrev pub scene_after : Effect → Scene → Scene
scene_after e scene = record { tree = e.tree; mode = mode_after e.mode scene.mode }

-- the scene after a history, from an opening
abbrev pub scene : Start → List Entry → Scene
scene start [] = record { tree = start.opened; mode = start.mode }
scene start (entry ∷ history) = scene_after (done_by start.env (scene start history).mode (scene start history).tree entry) (scene start history)

-- the tree after a history
abbrev pub tree : Start → List Entry → TreeValue
tree start history = (scene start history).tree

-- the mode after a history: the last one that was set
abbrev pub mode : Start → List Entry → List ℕ
mode start history = (scene start history).mode

-- what an entry does after a history
abbrev pub effect_after : Start → List Entry → Entry → Effect
effect_after start history entry = done_by start.env (mode start history) (tree start history) entry

-- a command said that the desk is to stop
abbrev pub stopped : Start → List Entry → Bool
stopped start [] = false
stopped start (entry ∷ history) = stopped start history || (effect_after start history entry).stops

-- the number of the last step that asked v to close; steps are counted from 1
abbrev pub kill_of : Start → List Entry → ConId → Option ℕ
kill_of start [] v = None
kill_of start (entry ∷ history) v =
    if list_any (same v) (effect_after start history entry).closes then Some (length history + 1) else kill_of start history v

-- ---- what the transactions are told

-- the history of the transactions: what each step tells them
abbrev pub entries : Start → List Entry → List commits.Entry
entries start [] = []
entries start (entry ∷ history) = (effect_after start history entry).told ∷ entries start history

-- with what the transactions begin: the opening's arrangement and windows
abbrev pub first : Start → commits.Opening
first start = record { parts = arranged start.opened; windows = start.windows }

-- what the transactions accepted of a history
abbrev pub accepted_of : Start → List Entry → List commits.Entry
accepted_of start history = accepted (first start) (entries start history)

-- ---- the answers of a history

-- what an acknowledgement is answered after a history
abbrev pub judged : Start → List Entry → Judge
judged start history v serial = ack_answer (first start) v serial (accepted_of start history)

-- what an entry is answered after a history
abbrev pub answer : Start → List Entry → Entry → Answer
answer start history entry = (effect_after start history entry).answer (judged start history)
