-- Laws of showing a workspace that is there.
use Rattle.std.specs.Prelude.{◌≡◌, ◌≢◌, ℕ, List, Some}
use Rattle.wm_base.specs.declared.ids.ConId.{ConId}
use Rattle.wm_language.specs.declared.arguments.Target.{Target}
use Rattle.wm_shared.specs.Showing.{shown_on, space_name}
use Rattle.wm_spaces.specs.declared.targets.Goal.TheVariants.{There}
use Rattle.wm_spaces.specs.Shows.{show_tree}
use Rattle.wm_spaces.specs.Targets.{goal_of}
use Rattle.wm_tree.specs.Sound.{IsSound}
use Rattle.wm_tree.specs.TreeValue.{TreeValue, current, parent, shown}

-- the workspace w stands on the output o, which shows it and is the current one
pub record IsOnShow (w o : ConId) (t : TreeValue) : Type 0 where
  pub own : parent t w ≡ Some o
  pub shows : shown_on o t ≡ Some w
  pub now : current t ≡ o
  pub focused : shown t ≡ w

-- the previous name is that of the workspace that was focused, where that was another one than w; else it stays
pub record IsRemembered (w : ConId) (old new : TreeValue) : Type 0 where
  pub other : shown old ≢ w → new.previous ≡ space_name (shown old) old
  pub stays : shown old ≡ w → new.previous ≡ old.previous

-- after `workspace` of one that is there, the output on which it stands shows it and is the current one, and the name to
-- which `workspace back_and_forth` goes is that of the workspace that was focused before, where that was another one
abbrev pub ShowsIt : Type 0
ShowsIt =
    (target : Target) (homes : List (List ℕ × List ℕ)) (w o : ConId) (t : TreeValue) → IsSound t → goal_of target t ≡ There w → parent t w ≡ Some o
    → IsOnShow w o (show_tree target homes t) × IsRemembered w t (show_tree target homes t)
