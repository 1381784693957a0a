-- The commands on workspaces and outputs make no window.
use Rattle.std.proofs.Common.{ℕ, Bool, true, false, cond, List, Option, None, Some, refl}
use Rattle.wm_base.specs.declared.ids.ConId.{ConId}
use Rattle.wm_base.specs.declared.plan.OutputPlan.{OutputPlan}
use Rattle.wm_opens.proofs.KeptLemmas.{Kept, kept_edited, kept_moved, kept_refl, kept_space_moved, kept_trans, kept_with_output, kept_with_space, kept_without_output}
use Rattle.wm_opens.proofs.ShowingLemmas.{kept_output_focused, kept_remembering, kept_showing, kept_there, kept_with_shown}
use Rattle.wm_shared.specs.declared.keys.Key.{Key}
use Rattle.wm_shared.specs.Showing.{output_focused, shown_on, shown_there}
use Rattle.wm_spaces.specs.Coming.{free_name, left_output, output_added_tree, output_gone, output_gone_some, output_removed_tree}
use Rattle.wm_spaces.specs.declared.targets.Goal.{Goal}
use Rattle.wm_spaces.specs.declared.targets.Goal.TheVariants.{There, Absent, Refused}
use Rattle.wm_spaces.specs.Moving.{other_space, set_aside, showing_other, space_goes}
use Rattle.wm_spaces.specs.Names.{output_named}
use Rattle.wm_spaces.specs.Renaming.{renamed}
use Rattle.wm_spaces.specs.Sending.{goal_sent, sent, sent_new, sent_place, sent_some}
use Rattle.wm_spaces.specs.Shows.{goal_shown, then_shown}
use Rattle.wm_spaces.specs.Targets.{home}
use Rattle.wm_forest.specs.declared.kind.KindEdit.TheVariants as edits
use Rattle.wm_forest.specs.Change.{is_id}
use Rattle.wm_forest.specs.Look.{same}
use Rattle.wm_tree.specs.Move.{apart, moved}
use Rattle.wm_forest.specs.Taking.{heir}
use Rattle.wm_tree.specs.Outputs.{space_moved, with_space, without_output}
use Rattle.wm_tree.specs.TreeValue.{TreeValue, current, parent}
use Rattle.wm_forest.specs.RootId.{id}

kept_then_shown : (w : ConId) (t new : TreeValue) → Kept t new → Kept t (then_shown w t new)
kept_then_shown w t new h = kept_remembering t t (shown_there w (parent new w) new) (kept_trans t new (shown_there w (parent new w) new) h (kept_there w (parent new w) new))

pub kept_goal_shown : (g : Goal) (homes : List (List ℕ × List ℕ)) (t : TreeValue) → Kept t (goal_shown g homes t)
kept_goal_shown (There w) homes t = kept_showing w t
kept_goal_shown (Absent n) homes t = kept_then_shown (id t.next_id) t (with_space (home n homes t) n t) (kept_with_space (home n homes t) n t)
kept_goal_shown (Refused text) homes t = kept_refl t

pub kept_renamed : (w : Option ConId) (name : List ℕ) (t : TreeValue) → Kept t (renamed w name t)
kept_renamed None name t = kept_refl t
kept_renamed (Some w) name t = kept_edited w (edits.Name name) t refl

-- ---- sending

pub kept_sent : (c w : ConId) (t : TreeValue) → Kept t (sent c w t)
kept_sent c w t = step (apart t c w)
  where
    step : (b : Bool) → Kept t (cond b (moved c (sent_place c w t) t) t)
    step true = kept_moved c (sent_place c w t) t
    step false = kept_refl t

pub kept_sent_some : (w : Option ConId) (c : ConId) (t : TreeValue) → Kept t (sent_some w c t)
kept_sent_some None c t = kept_refl t
kept_sent_some (Some w) c t = kept_sent c w t

pub kept_goal_sent : (g : Goal) (c : ConId) (homes : List (List ℕ × List ℕ)) (t : TreeValue) → Kept t (goal_sent g c homes t)
kept_goal_sent (There w) c homes t = kept_sent c w t
kept_goal_sent (Absent n) c homes t =
    let made : TreeValue = with_space (home n homes t) n t in
    kept_trans t made (sent_new c (home n homes t) n t) (kept_with_space (home n homes t) n t) (kept_sent c (id t.next_id) made)
kept_goal_sent (Refused text) c homes t = kept_refl t

-- ---- outputs

pub kept_output_added : (plan : OutputPlan) (t : TreeValue) → Kept t (output_added_tree plan t)
kept_output_added plan t = kept_with_output plan (free_name t) t

kept_left : (o h : ConId) (t : TreeValue) → Kept t (left_output o h t)
kept_left o h t = step (same (current t) o)
  where
    step : (b : Bool) → Kept t (cond b (output_focused h t) t)
    step true = kept_output_focused h t
    step false = kept_refl t

kept_gone : (h : Option ConId) (o : ConId) (t : TreeValue) → Kept t (output_gone h o t)
kept_gone None o t = kept_refl t
kept_gone (Some h) o t = kept_trans t (left_output o h t) (without_output o (left_output o h t)) (kept_left o h t) (kept_without_output o (left_output o h t))

kept_gone_some : (o : Option ConId) (t : TreeValue) → Kept t (output_gone_some o t)
kept_gone_some None t = kept_refl t
kept_gone_some (Some o) t = kept_gone (heir o t.nodes) o t

pub kept_output_removed : (name : List ℕ) (t : TreeValue) → Kept t (output_removed_tree name t)
kept_output_removed name t = kept_gone_some (output_named name t) t

-- ---- moving a workspace

kept_showing_other : (k : Option Key) (p : ConId) (t : TreeValue) → Kept t (showing_other k p t)
kept_showing_other (Some k) p t = kept_with_shown k.id t
kept_showing_other None p t =
    let made : TreeValue = with_space p (free_name t) t in
    kept_trans t made (showing_other None p t) (kept_with_space p (free_name t) t) (kept_with_shown (id t.next_id) made)

kept_set_aside : (w p : ConId) (t : TreeValue) → Kept t (set_aside w p t)
kept_set_aside w p t = step (is_id w (shown_on p t))
  where
    step : (b : Bool) → Kept t (cond b (showing_other (other_space w p t) p t) t)
    step true = kept_showing_other (other_space w p t) p t
    step false = kept_refl t

pub kept_space_goes : (p : Option ConId) (w o : ConId) (t : TreeValue) → Kept t (space_goes p w o t)
kept_space_goes None w o t = kept_refl t
kept_space_goes (Some p) w o t = step (same p o)
  where
    aside : TreeValue
    aside = set_aside w p t

    step : (b : Bool) → Kept t (cond b t (then_shown w t (space_moved w o aside)))
    step true = kept_refl t
    step false = kept_then_shown w t (space_moved w o aside) (kept_trans t aside (space_moved w o aside) (kept_set_aside w p t) (kept_space_moved w o aside))
