-- Moving workspaces to other outputs.
use Rattle.std.specs.Prelude.{◌≡◌, false, true, if◌then◌else◌, Option, None, Some}
use Rattle.wm_base.specs.declared.errors.Refusal.{Refusal}
use Rattle.wm_base.specs.declared.ids.ConId.{ConId}
use Rattle.wm_shared.specs.declared.keys.Key.{Key}
use Rattle.wm_shared.specs.Showing.{shown_on}
use Rattle.wm_shared.specs.Subject.{is_space}
use Rattle.wm_spaces.specs.declared.order.Pick.TheVariants as picking
use Rattle.wm_spaces.specs.Coming.{free_name}
use Rattle.wm_spaces.specs.Order.{best_with, keys_in}
use Rattle.wm_spaces.specs.Shows.{new_space_refusal, then_shown}
use Rattle.wm_spaces.specs.Targets.{spaces_of}
use Rattle.wm_forest.specs.Change.{is_id}
use Rattle.wm_forest.specs.Look.{same}
use Rattle.wm_tree.specs.Outputs.{IsNotShown, IsOutput, space_moved, with_space}
use Rattle.wm_tree.specs.Sets.{with_shown}
use Rattle.wm_tree.specs.Sound.{IsSound}
use Rattle.wm_tree.specs.TreeValue.{TreeValue, parent}
use Rattle.wm_forest.specs.RootId.{id}

-- the first of the output's other workspaces
abbrev pub other_space : ConId → ConId → TreeValue → Option Key
other_space w p t = best_with false (keys_in (picking.But w) (spaces_of p t)) None

-- the output p shows that workspace, or a new one
abbrev pub showing_other : Option Key → ConId → TreeValue → TreeValue
showing_other (Some k) p t = with_shown k.id t
showing_other None p t = with_shown (id t.next_id) (with_space p (free_name t) t)

abbrev pub other_refusal : Option Key → TreeValue → Option Refusal
other_refusal (Some k) t = None
other_refusal None t = new_space_refusal t

-- where the output p shows w, it shows the first of its others, or a new one
abbrev pub set_aside : ConId → ConId → TreeValue → TreeValue
set_aside w p t = if is_id w (shown_on p t) then showing_other (other_space w p t) p t else t

abbrev pub aside_refusal : ConId → ConId → TreeValue → Option Refusal
aside_refusal w p t = if is_id w (shown_on p t) then other_refusal (other_space w p t) t else None

-- w is a workspace that no output shows, and the outputs of the tree `old` are there
pub record IsFree (w : ConId) (old new : TreeValue) : Type 0 where
  pub sound : IsSound new
  pub space : is_space new w ≡ true
  pub hidden : IsNotShown w new.nodes
  pub outs : (o : ConId) → IsOutput o old.nodes → IsOutput o new.nodes

-- from the output p the workspace comes last on the output o, and is shown there
abbrev pub space_goes : Option ConId → ConId → ConId → TreeValue → TreeValue
space_goes None w o t = t
space_goes (Some p) w o t = if same p o then t else then_shown w t (space_moved w o (set_aside w p t))

abbrev pub going_refusal : Option ConId → ConId → ConId → TreeValue → Option Refusal
going_refusal None w o t = None
going_refusal (Some p) w o t = if same p o then None else aside_refusal w p t

-- a workspace of the output itself stays; where the old output needs a new workspace, that passes no limit
abbrev pub move_workspace_refusal : ConId → ConId → TreeValue → Option Refusal
move_workspace_refusal w o t = going_refusal (parent t w) w o t

abbrev pub move_workspace_tree : ConId → ConId → TreeValue → TreeValue
move_workspace_tree w o t = space_goes (parent t w) w o t
