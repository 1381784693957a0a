-- Showing and entering make no window.
use Rattle.std.proofs.Common.{ℕ, Bool, true, false, cond, List, Option, None, Some, refl}
use Rattle.wm_base.specs.declared.ids.ConId.{ConId}
use Rattle.wm_opens.proofs.KeptLemmas.{Kept, kept_along, kept_edited, kept_nodes, kept_raised, kept_refl, kept_trans}
use Rattle.wm_shared.specs.Outputs.{output_of}
use Rattle.wm_shared.specs.Showing.{current_some, entered, followed, focusing, output_focused, remembered, remembering, showing, showing_some, shown_on, shown_there, space_name, with_current}
use Rattle.wm_tree.specs.Along.{gone_along}
use Rattle.wm_forest.specs.declared.kind.KindEdit.TheVariants as edits
use Rattle.wm_forest.specs.Look.{same}
use Rattle.wm_tree.specs.Sets.{shown_by, with_shown}
use Rattle.wm_tree.specs.TreeValue.{TreeValue, parent, shown, workspace_of}
use Rattle.wm_forest.specs.RootId.{root}
use Rattle.wm_tree.specs.Words.{with_raised}

kept_remembered : (was : ConId) (name : Option (List ℕ)) (t : TreeValue) → Kept t (remembered was name t)
kept_remembered was name t = step (same was (shown t))
  where
    step : (b : Bool) → Kept t (cond b t (record t { previous = name }))
    step true = kept_refl t
    step false = kept_nodes t (record t { previous = name }) (record { next = refl; nodes = refl })

-- a tree that keeps the name of the workspace that was focused
pub kept_remembering : (old t new : TreeValue) → Kept t new → Kept t (remembering old new)
kept_remembering old t new h = kept_trans t new (remembering old new) h (kept_remembered (shown old) (space_name (shown old) old) new)

pub kept_current : (o : ConId) (t : TreeValue) → Kept t (with_current o t)
kept_current o t = kept_edited root (edits.Current o) t refl

pub kept_shown_by : (o : Option ConId) (w : ConId) (t : TreeValue) → Kept t (shown_by o w t)
kept_shown_by None w t = kept_refl t
kept_shown_by (Some o) w t = kept_edited o (edits.Shown w) t refl

pub kept_with_shown : (w : ConId) (t : TreeValue) → Kept t (with_shown w t)
kept_with_shown w t = kept_shown_by (parent t w) w t

kept_followed : (v : Option ConId) (w : ConId) (t : TreeValue) → Kept t (followed v w t)
kept_followed None w t = kept_refl t
kept_followed (Some v) w t = step (same v w)
  where
    step : (b : Bool) → Kept t (cond b t (gone_along v w t))
    step true = kept_refl t
    step false = kept_along v w t

pub kept_there : (w : ConId) (o : Option ConId) (t : TreeValue) → Kept t (shown_there w o t)
kept_there w None t = kept_refl t
kept_there w (Some o) t =
    let now : TreeValue = with_current o t in
    let seen : TreeValue = with_shown w now in
    kept_trans t seen (shown_there w (Some o) t) (kept_trans t now seen (kept_current o t) (kept_with_shown w now)) (kept_followed (shown_on o t) w seen)

pub kept_showing : (w : ConId) (t : TreeValue) → Kept t (showing w t)
kept_showing w t = kept_remembering t t (shown_there w (parent t w) t) (kept_there w (parent t w) t)

pub kept_output_focused : (o : ConId) (t : TreeValue) → Kept t (output_focused o t)
kept_output_focused o t = kept_remembering t t (with_current o t) (kept_current o t)

pub kept_entered : (c : ConId) (t : TreeValue) → Kept t (entered c t)
kept_entered c t = step (output_of c t)
  where
    step : (o : Option ConId) → Kept t (current_some o t)
    step None = kept_refl t
    step (Some o) = kept_current o t

pub kept_focusing : (c : ConId) (t : TreeValue) → Kept t (focusing c t)
kept_focusing c t = step (workspace_of t c)
  where
    step : (o : Option ConId) → Kept t (with_raised c (showing_some o t))
    step None = kept_raised c t
    step (Some w) = kept_trans t (showing w t) (with_raised c (showing w t)) (kept_showing w t) (kept_raised c (showing w t))
