-- What the groups of a text do to a tree, one after another, and what they are answered.
use Rattle.std.specs.Prelude.{ℕ, Bool, false, ◌||◌, List, [], ◌∷◌, ◌++◌, Option, None, Some, refl}
use Rattle.std.specs.Coded.{Coded, code_by, coded×, coded_ℕ, coded_list, coded_option, coded_bool}
use Rattle.std.specs.Option.{option_or}
use Rattle.wm_base.specs.contracts.ids.ConId as con_id
use Rattle.wm_base.specs.declared.ids.ConId.{ConId}
use Rattle.wm_criteria.specs.declared.verdict.Verdict.{Verdict}
use Rattle.wm_criteria.specs.declared.verdict.Verdict.TheVariants.{Ready, Bad, PatternRefused}
use Rattle.wm_criteria.specs.Gathered.{matching}
use Rattle.wm_language.specs.declared.batch.Criteria.{Criteria}
use Rattle.wm_language.specs.declared.batch.Group.{Group}
use Rattle.wm_language.specs.declared.command.Command.{Command}
use Rattle.wm_layouts.specs.declared.plan.Env.{Env}
use Rattle.wm_tree.specs.TreeValue.{TreeValue, tree_code}
use Rattle.wm_apply.specs.contracts.applied.CommandReply as reply
use Rattle.wm_apply.specs.declared.applied.CommandReply.{CommandReply}
use Rattle.wm_apply.specs.declared.targets.Targets.{Targets}
use Rattle.wm_apply.specs.declared.targets.Targets.TheVariants.{Matched, Handed, Focused}
use Rattle.wm_apply.specs.Commands.{command_kills, command_reply, command_tree, is_exit, set_mode}

-- what commands have done so far
pub record Outcome : Type 0 where
  pub tree : TreeValue
  pub replies : List CommandReply
  -- the mode that was set last
  pub mode : Option (List ℕ)
  pub exit : Bool
  -- the windows asked to close, in order
  pub kills : List ConId

abbrev pub alone : Option ConId → Targets
alone None = Focused
alone (Some c) = Handed c

-- on what the commands of a group act: the containers that match its criteria now, by rising id, or else the subject
-- that was handed in, or the focused container
abbrev pub targets : Option Criteria → Option ConId → TreeValue → Targets
targets None subject t = alone subject
targets (Some criteria) subject t = Matched (matching t criteria.keys)

abbrev pub command_done : Env → Targets → Command → Outcome → Outcome
command_done env targets command o = record {
  tree = command_tree env targets command o.tree;
  replies = o.replies ++ command_reply env targets command o.tree ∷ [];
  mode = option_or (set_mode env command) o.mode;
  exit = o.exit || is_exit command;
  kills = o.kills ++ command_kills targets command o.tree;
}

abbrev pub commands_done : Env → Targets → List Command → Outcome → Outcome
commands_done env targets [] o = o
commands_done env targets (c ∷ cs) o = commands_done env targets cs (command_done env targets c o)

abbrev pub group_done : Env → Option ConId → Group → Outcome → Outcome
group_done env subject g o = commands_done env (targets g.criteria subject o.tree) g.commands o

abbrev pub groups_done : Env → Option ConId → List Group → Outcome → Outcome
groups_done env subject [] o = o
groups_done env subject (g ∷ gs) o = groups_done env subject gs (group_done env subject g o)

-- the groups of a text that reads
abbrev pub groups_of : Verdict → List Group
groups_of (Ready batch) = batch.groups
groups_of (Bad at) = []
groups_of (PatternRefused n) = []

-- what a text that reads does to a tree
abbrev pub outcome : Env → Verdict → Option ConId → TreeValue → Outcome
outcome env verdict subject t = groups_done env subject (groups_of verdict) (record { tree = t; replies = []; mode = None; exit = false; kills = [] })

-- ---- how the logic stores it

abbrev pub outcome_code : Coded Outcome
outcome_code =
    code_by ((TreeValue × (List CommandReply × Option (List ℕ))) × (Bool × List ConId))
    (coded× (coded× tree_code (coded× (coded_list reply.the_row.coded) (coded_option (coded_list coded_ℕ)))) (coded× coded_bool (coded_list con_id.the_row.coded)))
    (λ o. ((o.tree, (o.replies, o.mode)), (o.exit, o.kills)))
    (λ p. record { tree = p.0.0; replies = p.0.1.0; mode = p.0.1.1; exit = p.1.0; kills = p.1.1 }) (λ _. refl)
