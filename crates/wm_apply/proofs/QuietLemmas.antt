-- What a command that leaves the tree alone does.
use Rattle.std.proofs.Common.{◌≡◌, ◌∙◌, refl, ap, Bool, true, false, ◌&&◌, ◌||◌, if◌then◌else◌, List, [], ◌∷◌, ◌++◌, Option, None, ℕ}
use Rattle.std.proofs.lemmas.Bool.{false≢true}
use Rattle.wm_base.specs.declared.errors.ErrorText.TheVariants as errors
use Rattle.wm_base.specs.declared.ids.ConId.{ConId}
use Rattle.wm_criteria.specs.declared.verdict.Verdict.TheVariants.{Ready}
use Rattle.std.specs.List.{list_all}
use Rattle.std.specs.Option.{option_or}
use Rattle.wm_language.specs.declared.batch.Batch.{Batch}
use Rattle.wm_language.specs.declared.batch.Group.{Group}
use Rattle.wm_language.specs.declared.command.Command.{Command}
use Rattle.wm_language.specs.declared.command.Command.TheVariants as commands
use Rattle.wm_layouts.specs.declared.plan.Env.{Env}
use Rattle.wm_tree.specs.TreeValue.{TreeValue}
use Rattle.wm_apply.specs.declared.applied.CommandReply.{CommandReply}
use Rattle.wm_apply.specs.declared.applied.CommandReply.TheVariants.{Done, Error}
use Rattle.wm_apply.specs.declared.rows.How.TheVariants as how
use Rattle.wm_apply.specs.declared.targets.Targets.{Targets}
use Rattle.wm_apply.specs.Batches.{Outcome, command_done, commands_done, group_done, groups_done, outcome, targets}
use Rattle.wm_apply.specs.Commands.{Course, command_kills, command_reply, command_tree, course_reply, course_tree, is_exit, is_unknown_mode, is_whole, kills_on, on, refused, runs_once, set_mode, targets_course, whole}
use Rattle.wm_apply.specs.Kills.{is_kill}
use Rattle.wm_apply.specs.Quiet.{idle_reply, is_quiet}

-- a command that asks windows to close is none
kill_is_loud : (c : Command) → runs_once c ≡ true → is_kill c ≡ false
kill_is_loud commands.Kill idle = absurd (false≢true idle)
kill_is_loud other idle = refl

idle_kills : (found : Targets) (c : Command) (t : TreeValue) → runs_once c ≡ true → command_kills found c t ≡ []
idle_kills found c t idle = ap (λ k. if k then kills_on found t else []) (kill_is_loud c idle)

-- what its course is, by what it is
abbrev course_by : Bool → Bool → Course → Course
course_by unknown once other = if unknown then refused errors.NoMode else if once then on how.Focused [] else other

tree_by : (env : Env) (c : Command) (t : TreeValue) (unknown once : Bool) (other : Course) → once ≡ true → course_tree env (course_by unknown once other) c t ≡ t
tree_by env c t true once other idle = refl
tree_by env c t false true other idle = refl
tree_by env c t false false other idle = absurd (false≢true idle)

reply_by : (env : Env) (c : Command) (t : TreeValue) (unknown once : Bool) (other : Course) → once ≡ true
    → course_reply env (course_by unknown once other) c t ≡ (if unknown then Error errors.NoMode else Done)
reply_by env c t true once other idle = refl
reply_by env c t false true other idle = refl
reply_by env c t false false other idle = absurd (false≢true idle)

pub idle_tree : (env : Env) (found : Targets) (c : Command) (t : TreeValue) → runs_once c ≡ true → command_tree env found c t ≡ t
idle_tree env found c t idle = tree_by env c t (is_unknown_mode env c) (runs_once c) (if is_whole c then whole else targets_course found c t) idle

pub idle_answer : (env : Env) (found : Targets) (c : Command) (t : TreeValue) → runs_once c ≡ true → command_reply env found c t ≡ idle_reply env c
idle_answer env found c t idle = reply_by env c t (is_unknown_mode env c) (runs_once c) (if is_whole c then whole else targets_course found c t) idle

-- ---- whole texts

both : (a b : Bool) → (a && b) ≡ true → (a ≡ true) × (b ≡ true)
both true true h = (refl, refl)
both true false h = absurd (false≢true h)
both false b h = absurd (false≢true h)

commands_tree : (env : Env) (found : Targets) (cs : List Command) (o : Outcome) → list_all runs_once cs ≡ true → (commands_done env found cs o).tree ≡ o.tree
commands_tree env found [] o idle = refl
commands_tree env found (c ∷ cs) o idle =
    let each = both (runs_once c) (list_all runs_once cs) idle in
    commands_tree env found cs (command_done env found c o) each.1 ∙ idle_tree env found c o.tree each.0

groups_tree : (env : Env) (subject : Option ConId) (gs : List Group) (o : Outcome) → is_quiet gs ≡ true → (groups_done env subject gs o).tree ≡ o.tree
groups_tree env subject [] o quiet = refl
groups_tree env subject (g ∷ gs) o quiet =
    let each = both (list_all runs_once g.commands) (is_quiet gs) quiet in
    groups_tree env subject gs (group_done env subject g o) each.1 ∙ commands_tree env (targets g.criteria subject o.tree) g.commands o each.0

-- a text whose commands leave the tree alone leaves it
pub quiet_outcome : (env : Env) (batch : Batch) (subject : Option ConId) (t : TreeValue) → is_quiet batch.groups ≡ true → (outcome env (Ready batch) subject t).tree ≡ t
quiet_outcome env batch subject t quiet = groups_tree env subject batch.groups (record { tree = t; replies = []; mode = None; exit = false; kills = [] }) quiet

-- ---- what a command leaves beside the tree

pub idle_done : (env : Env) (found : Targets) (c : Command) (t : TreeValue) (replies : List CommandReply) (mode : Option (List ℕ)) (exit : Bool) → runs_once c ≡ true
    → record { tree = t; replies = replies ++ idle_reply env c ∷ []; mode = option_or (set_mode env c) mode; exit = exit || is_exit c; kills = [] } ≡ command_done env found c (record { tree = t; replies = replies; mode = mode; exit = exit; kills = [] })
idle_done env found c t replies mode exit idle = rw (idle_tree env found c t idle, idle_answer env found c t idle, idle_kills found c t idle) refl
